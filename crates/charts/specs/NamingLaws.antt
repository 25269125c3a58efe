-- Laws of lists of names that the crates above use. Assumes nothing.
use Rattle.std.specs.Prelude.{◌≡◌, ℕ, zero, suc, ◌+◌, ◌<◌, Bool, true, false, cond, not, ◌||◌, List, [], ◌∷◌, length, is_some, Some, ◌==◌, slice_index, refl}
use Rattle.std.proofs.Common.{sym, ap, ◌∙◌, arith}
use Rattle.std.proofs.lemmas.Bool.{both_ways, and_parts, not-true, or_left, or_right, eq-eqb, eqb-true}
use Rattle.charts.specs.Naming.{position_from, position, has_name, distinct}

-- a number has a position exactly when it stands in the list
pub found_has : (i x : ℕ) (xs : List ℕ) → is_some (position_from i x xs) ≡ has_name x xs
found_has i x [] = refl
found_has i x (y ∷ ys) = here (y == x) (found_has (i + 1) x ys)
  where
    here : (b : Bool) → is_some (position_from (i + 1) x ys) ≡ has_name x ys → is_some (cond b (Some i) (position_from (i + 1) x ys)) ≡ (b || has_name x ys)
    here true e = refl
    here false e = e

-- a number that stands at some place of a list stands in it
pub has_there : (xs : List ℕ) (i x : ℕ) → i < length xs → slice_index xs i ≡ x → has_name x xs ≡ true
has_there [] i x l e = absurd (omega arith)
has_there (y ∷ ys) zero x l e = or_left (y == x) (has_name x ys) (eq-eqb y x e)
has_there (y ∷ ys) (suc i) x l e = or_right (y == x) (has_name x ys) (has_there ys i x (omega arith) e)

-- in a list in which no number stands twice, two places with the same number are one
pub distinct_at : (xs : List ℕ) (i j : ℕ) → distinct xs ≡ true → i < length xs → j < length xs → slice_index xs i ≡ slice_index xs j → i ≡ j
distinct_at [] i j d l m e = absurd (omega arith)
distinct_at (x ∷ xs) zero zero d l m e = refl
distinct_at (x ∷ xs) zero (suc j) d l m e = absurd (both_ways (has_name x xs) (not-true (has_name x xs) (and_parts (not (has_name x xs)) (distinct xs) d).0) (has_there xs j x (omega arith) (sym e)))
distinct_at (x ∷ xs) (suc i) zero d l m e = absurd (both_ways (has_name x xs) (not-true (has_name x xs) (and_parts (not (has_name x xs)) (distinct xs) d).0) (has_there xs i x (omega arith) e))
distinct_at (x ∷ xs) (suc i) (suc j) d l m e = ap suc (distinct_at xs i j (and_parts (not (has_name x xs)) (distinct xs) d).1 (omega arith) (omega arith) e)

-- what is found stands there
found_from : (i x : ℕ) (xs : List ℕ) (k : ℕ) → position_from i x xs ≡ Some k → (j : ℕ) × ((k ≡ i + j) × ((j < length xs) × (slice_index xs j ≡ x)))
found_from i x [] k e = let z : ◌≡◌ {A = ℕ} 0 1 = cc in absurd (omega arith)
found_from i x (y ∷ ys) k e = here (y == x) refl e (found_from (i + 1) x ys k)
  where
    here : (b : Bool) → (y == x) ≡ b → cond b (Some i) (position_from (i + 1) x ys) ≡ Some k → (position_from (i + 1) x ys ≡ Some k → (j : ℕ) × ((k ≡ i + 1 + j) × ((j < length ys) × (slice_index ys j ≡ x)))) → (j : ℕ) × ((k ≡ i + j) × ((j < length (y ∷ ys)) × (slice_index (y ∷ ys) j ≡ x)))
    here true t f more = let same : i ≡ k = cc in (0, (omega arith, (omega arith, eqb-true y x t)))
    here false t f more = let h = more f in (suc h.0, (omega (arith, h.1.0), (omega (arith, h.1.1.0), h.1.1.1)))

pub found_there : (x : ℕ) (xs : List ℕ) (k : ℕ) → position x xs ≡ Some k → (k < length xs) × (slice_index xs k ≡ x)
found_there x xs k e =
    let h = found_from 0 x xs k e in
    let same : h.0 ≡ k = omega (arith, h.1.0) in
    (omega (arith, h.1.1.0), ap (λ j. slice_index xs j) (sym same) ∙ h.1.1.1)
