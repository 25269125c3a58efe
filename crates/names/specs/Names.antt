-- Names, and the number that a name is packed into. Assumes nothing.
use Rattle.std.specs.Prelude.{◌≡◌, ℕ, zero, suc, ◌+◌, ◌*◌, ◌^◌, Bool, true, false, ◌&&◌, ◌||◌, List, [], ◌∷◌, length, ◌==◌, nat_le}
use Rattle.std.specs.List.{list_all}

-- an ASCII letter: A to Z, or a to z
abbrev pub is_letter : ℕ → Bool
is_letter b = (nat_le 65 b && nat_le b 90) || (nat_le 97 b && nat_le b 122)

-- a letter, an ASCII digit or an underscore
abbrev pub is_tail : ℕ → Bool
is_tail b = is_letter b || ((nat_le 48 b && nat_le b 57) || b == 95)

-- every byte is a letter, a digit or an underscore
abbrev pub all_tail : List ℕ → Bool
all_tail bs = list_all is_tail bs

-- a name: a letter, then letters, digits or underscores, at most 8 bytes in all
abbrev pub valid_name : List ℕ → Bool
valid_name [] = false
valid_name (b ∷ bs) = is_letter b && (nat_le (length (b ∷ bs)) 8 && all_tail bs)

-- the number whose k bytes, the highest first, are the bytes of the list, and 0 where the list has ended
abbrev pub pack_into : ℕ → List ℕ → ℕ
pack_into zero bs = 0
pack_into (suc k) [] = 0
pack_into (suc k) (b ∷ bs) = b * 256 ^ k + pack_into k bs

-- the number of 8 bytes that a name is packed into
abbrev pub packed : List ℕ → ℕ
packed bs = pack_into 8 bs

-- the number of some name
abbrev pub IsName : ℕ → Type 0
IsName n = (bs : List ℕ) × ((valid_name bs ≡ true) × (packed bs ≡ n))

-- no two names are packed into the same number
abbrev pub PackedOnce : Type 0
PackedOnce = (xs ys : List ℕ) → valid_name xs ≡ true → valid_name ys ≡ true → packed xs ≡ packed ys → xs ≡ ys
