-- The relations, bags and sets of the worked examples. Assumes nothing.
use Rattle.std.specs.Prelude.{ℕ, ◌&&◌, List, [], ◌∷◌, ◌==◌}
use Rattle.std.specs.List.{list_any}
use Rattle.places.specs.Bags.{Bag, empty, single, ◌⊕◌}
use Rattle.places.specs.Sets.{PlaceRelation}

-- the relation that has exactly the pairs of a list
abbrev pub relating : List (ℕ × ℕ) → PlaceRelation
relating xs p q = list_any (λ x. x.0 == p && x.1 == q) xs

-- the bag of a list of tokens
abbrev pub tokens : List ℕ → Bag
tokens [] = empty
tokens (x ∷ xs) = single x ⊕ tokens xs

-- the left places p and q, the right places u, v, w and z
abbrev pub p : ℕ
p = 0

abbrev pub q : ℕ
q = 1

abbrev pub u : ℕ
u = 0

abbrev pub v : ℕ
v = 1

abbrev pub w : ℕ
w = 2

abbrev pub z : ℕ
z = 3

-- the relation of p with u and w, and of q with v and z
abbrev pub K : PlaceRelation
K = relating ((p, u) ∷ (p, w) ∷ (q, v) ∷ (q, z) ∷ [])
