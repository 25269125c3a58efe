-- What adding to a sequence and replacing in it leave: xs is the list of elements before, ys after. Assumes nothing.
use Rattle.std.specs.Prelude.{◌≡◌, ℕ, ◌<◌, ◌≤◌, List, [], ◌∷◌, ◌++◌, length, Ok, Err, Result, slice_set}
use Rattle.std.proofs.Common.{arith}

-- x was added at the end; or n elements were held already, nothing changed and x came back
abbrev pub Pushed : {X : Type 0} → ℕ → List X → X → Result (Unit {0}) X → List X → Type 0
Pushed n xs x (Ok done) ys = (length xs < n) × (ys ≡ xs ++ x ∷ [])
Pushed n xs x (Err back) ys = (length xs ≡ n) × (back ≡ x) × (ys ≡ xs)

-- x took the place of the element at i; or there was none, nothing changed and x came back
abbrev pub Replaced : {X : Type 0} → List X → ℕ → X → Result (Unit {0}) X → List X → Type 0
Replaced xs i x (Ok done) ys = (i < length xs) × (ys ≡ slice_set xs i x)
Replaced xs i x (Err back) ys = (length xs ≤ i) × (back ≡ x) × (ys ≡ xs)

-- the laws that callers use: where there is room, x is added; where there is an element, x replaces it
pub pushed_fits : {X : Type 0} (n : ℕ) (xs : List X) (x : X) (r : Result (Unit {0}) X) (ys : List X) → Pushed n xs x r ys → length xs < n → ys ≡ xs ++ x ∷ []
pushed_fits n xs x (Ok done) ys h l = h.1
pushed_fits n xs x (Err back) ys h l = absurd (omega (arith, h.0))

pub replaced_there : {X : Type 0} (xs : List X) (i : ℕ) (x : X) (r : Result (Unit {0}) X) (ys : List X) → Replaced xs i x r ys → i < length xs → ys ≡ slice_set xs i x
replaced_there xs i x (Ok done) ys h l = h.1
replaced_there xs i x (Err back) ys h l = absurd (omega (arith, h.0))
