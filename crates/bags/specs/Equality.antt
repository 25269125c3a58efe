-- Counting and removing by an equality of the element type. Assumes nothing.
-- E y b says that the equality may answer b for the element y and the one that is sought.
use Rattle.std.specs.Prelude.{ℕ, suc, Bool, true, false, List, [], ◌∷◌}

-- n elements of the list are the one that is sought
pub data Counts {X : Type 0} (E : X → Bool → Type 0) : List X → ℕ → Type 0 where
  none : Counts E [] 0
  one : (y : X) (ys : List X) (n : ℕ) → E y true → Counts E ys n → Counts E (y ∷ ys) (suc n)
  other : (y : X) (ys : List X) (n : ℕ) → E y false → Counts E ys n → Counts E (y ∷ ys) n

-- the earliest element that is the one sought is taken out, and the rest keeps its order; or there is none
pub data Removes {X : Type 0} (E : X → Bool → Type 0) : List X → Bool → List X → Type 0 where
  absent : Removes E [] false []
  here : (y : X) (ys : List X) → E y true → Removes E (y ∷ ys) true ys
  later : (y : X) (ys : List X) (found : Bool) (zs : List X) → E y false → Removes E ys found zs → Removes E (y ∷ ys) found (y ∷ zs)
