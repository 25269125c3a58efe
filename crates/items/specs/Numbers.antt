-- Numbers of a net text that have to lie in a range. Assumes nothing.
use Rattle.std.specs.Prelude.{ℕ, ◌-◌, cond, ◌&&◌, List, [], ◌∷◌, length, take, Some, None, Ok, Err, Option, Result, ◌==◌, nat_le, slice_index}
use Rattle.faults.specs.declared.causes.NumberFault.{NumberFault}
use Rattle.faults.specs.declared.causes.NumberFault.TheVariants.{LeadingZero, OutOfRange}
use Rattle.numerals.specs.Numerals.{numeral}
use Rattle.numerals.specs.declared.Numeral.{Numeral}

-- a number from the least to the most, with no zero before another digit
abbrev pub ranged : ℕ → ℕ → Numeral → Result ℕ NumberFault
ranged least most n = cond n.padded (Err LeadingZero) (cond (nat_le least n.value && nat_le n.value most) (Ok n.value) (Err OutOfRange))

-- a numeral in that range; none where there is no numeral
abbrev pub ranged_numeral : ℕ → ℕ → Option Numeral → Option (Result ℕ NumberFault)
ranged_numeral least most None = None
ranged_numeral least most (Some n) = Some (ranged least most n)

-- the bytes before a last `)` (41); none where the last byte is another
abbrev pub closed : List ℕ → Option (List ℕ)
closed bs = cond (slice_index bs (length bs - 1) == 41) (Some (take (length bs - 1) bs)) None

-- the tokens of a marking by what stands behind the `(`: 0 to 64
abbrev pub marking_by : Option (List ℕ) → Option (Result ℕ NumberFault)
marking_by None = None
marking_by (Some ds) = ranged_numeral 0 64 (numeral ds)

-- a marking `(N)`, where ( is 40: its tokens; none where the word is no marking
abbrev pub marking : List ℕ → Option (Result ℕ NumberFault)
marking [] = None
marking (b ∷ bs) = cond (b == 40) (marking_by (closed bs)) None
