-- Sets of places whose tokens outnumber all tokens on the related places of the other side. Assumes nothing.
use Rattle.std.specs.Prelude.{ℕ, ◌<◌, Bool, ◌&&◌}
use Rattle.std.specs.List.{list_any, range_with_len}
use Rattle.places.specs.Bags.{Bag}
use Rattle.places.specs.Sets.{Subset, PlaceRelation, turned, tokens_on, Placed}
use Rattle.pairing.specs.Closure.{Closure}

-- whether the test passes at a number below k
abbrev pub some_below : (ℕ → Bool) → ℕ → Bool
some_below f k = list_any f (range_with_len 0 k)

-- the right places that are related to a place of the set
abbrev pub beside : PlaceRelation → Subset → Subset
beside R S q = some_below (λ p. S p && R p q) 16

-- m has more tokens on S than n has on the places related to S
abbrev pub Outnumbers : PlaceRelation → Bag → Bag → Subset → Type 0
Outnumbers R m n S = tokens_on (beside R S) n < tokens_on S m

-- theorem: where a set of left places, or a set of right places, outnumbers the places related to it, the closure
-- does not relate the two bags
abbrev pub OutnumberedApart : Type 0
OutnumberedApart = (R : PlaceRelation) (m n : Bag) (S : Subset) → Placed m → Placed n → (Outnumbers R m n S → Closure R m n → ⊥) × (Outnumbers (turned R) n m S → Closure R m n → ⊥)
