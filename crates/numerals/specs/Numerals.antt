-- Numbers as texts write them. The bytes 48 to 57 are the digits. Assumes nothing.
use Rattle.std.specs.Prelude.{ℕ, ◌+◌, ◌-◌, ◌*◌, Bool, false, cond, ◌&&◌, List, [], ◌∷◌, length, Some, None, Option, ◌==◌, nat_le}
use Rattle.std.specs.List.{fold, list_all}
use Rattle.numerals.specs.declared.Numeral.{Numeral}

-- an ASCII digit
abbrev pub is_digit : ℕ → Bool
is_digit b = nat_le 48 b && nat_le b 57

-- every byte is a digit
abbrev pub all_digits : List ℕ → Bool
all_digits bs = list_all is_digit bs

-- a numeral: one to five digits
abbrev pub is_numeral : List ℕ → Bool
is_numeral bs = (nat_le 1 (length bs) && nat_le (length bs) 5) && all_digits bs

-- the value of digits behind others whose value is n
abbrev pub value_after : ℕ → List ℕ → ℕ
value_after n bs = fold (λ n b. n * 10 + (b - 48)) n bs

-- a zero stands before another digit
abbrev pub starts_with_zero : List ℕ → Bool
starts_with_zero [] = false
starts_with_zero (b ∷ []) = false
starts_with_zero (b ∷ c ∷ bs) = b == 48

-- what a word says as a number: none where it is no numeral
abbrev pub numeral : List ℕ → Option Numeral
numeral bs = cond (is_numeral bs) (Some (record { value = value_after 0 bs; padded = starts_with_zero bs })) None
