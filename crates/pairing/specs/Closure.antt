-- The additive closure of a relation on places, and pairings of two bags. Assumes nothing.
use Rattle.std.specs.Prelude.{◌≡◌, ℕ, T, ◌↔◌, List, [], ◌∷◌}
use Rattle.places.specs.Bags.{Bag, empty, single, ◌⊕◌}
use Rattle.places.specs.Sets.{PlaceRelation}

-- the additive closure: the least relation on bags that relates the empty bag to itself and, where it relates m to n
-- and R relates a to b, relates m with a token on a more to n with a token on b more
pub data Closure (R : PlaceRelation) : Bag → Bag → Type 0 where
  none : Closure R empty empty
  more : (a b : ℕ) {m n : Bag} → T (R a b) → Closure R m n → Closure R (single a ⊕ m) (single b ⊕ n)

-- the bag of the left ends of a list of pairs
abbrev pub lefts : List (ℕ × ℕ) → Bag
lefts [] = empty
lefts (x ∷ xs) = single x.0 ⊕ lefts xs

-- the bag of the right ends
abbrev pub rights : List (ℕ × ℕ) → Bag
rights [] = empty
rights (x ∷ xs) = single x.1 ⊕ rights xs

-- each pair of the list is in R
abbrev pub AllIn : PlaceRelation → List (ℕ × ℕ) → Type 0
AllIn R [] = Unit {0}
AllIn R (x ∷ xs) = T (R x.0 x.1) × AllIn R xs

-- a pairing of m with n: a list of pairs of R whose left ends make up m and whose right ends make up n
pub record Pairing (R : PlaceRelation) (m n : Bag) (xs : List (ℕ × ℕ)) : Type 0 where
  pub related : AllIn R xs
  pub left_ends : (p : ℕ) → lefts xs p ≡ m p
  pub right_ends : (q : ℕ) → rights xs q ≡ n q

-- theorem: the closure relates two bags exactly when they have a pairing
abbrev pub PairedExactly : Type 0
PairedExactly = (R : PlaceRelation) (m n : Bag) → Closure R m n ↔ ((xs : List (ℕ × ℕ)) × Pairing R m n xs)
