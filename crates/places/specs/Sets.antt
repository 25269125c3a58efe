-- Sets of places, relations of places, and the tokens of a bag on a set. Places are numbered from 0 to 15. Assumes nothing.
use Rattle.std.specs.Prelude.{◌≡◌, ℕ, zero, suc, ◌+◌, ◌≤◌, Bool, true, false, cond, ◌&&◌, ◌==◌, nat_lt}
use Rattle.places.specs.Bags.{Bag}

-- a set of places: whether it has each place
abbrev pub Subset : Type 0
Subset = ℕ → Bool

-- the set of all places
abbrev pub everywhere : Subset
everywhere p = true

-- the empty set
abbrev pub nowhere : Subset
nowhere p = false

-- a relation between left places and right places: whether it has each pair
abbrev pub PlaceRelation : Type 0
PlaceRelation = ℕ → ℕ → Bool

-- the empty relation
abbrev pub unrelated : PlaceRelation
unrelated p q = false

-- the relation with its sides exchanged
abbrev pub turned : PlaceRelation → PlaceRelation
turned R q p = R p q

-- the tokens of a bag on those places of a set that are below k
unfoldable pub tokens_below : ℕ → Subset → Bag → ℕ
tokens_below zero S m = 0
tokens_below (suc k) S m = tokens_below k S m + cond (S k) (m k) 0

-- the tokens of a bag on the places of a set
abbrev pub tokens_on : Subset → Bag → ℕ
tokens_on S m = tokens_below 16 S m

-- how many tokens a bag has
abbrev pub size : Bag → ℕ
size m = tokens_on everywhere m

-- the bag has tokens on the places 0 to 15 only
abbrev pub Placed : Bag → Type 0
Placed m = (p : ℕ) → 16 ≤ p → m p ≡ 0

-- the set with the place a, where there is such a place
abbrev pub with_place : Subset → ℕ → Subset
with_place S a p = cond (nat_lt a 16 && a == p) true (S p)

-- the relation with the pair (a, b) in it or not, where there are such places
abbrev pub with_pair : PlaceRelation → ℕ → ℕ → Bool → PlaceRelation
with_pair R a b v p q = cond ((nat_lt a 16 && nat_lt b 16) && (a == p && b == q)) v (R p q)
