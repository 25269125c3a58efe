-- Relations, sets and bags made of lists. Assumes nothing.
use Rattle.std.specs.Prelude.{ℕ, true, cond, List, [], ◌∷◌, Ok, Err, Result, nat_lt}
use Rattle.places.specs.Bags.{Bag, single, ◌⊕◌}
use Rattle.places.specs.Sets.{Subset, PlaceRelation, size, with_pair, with_place}
use Rattle.places.specs.Meanings.{bag_of}
use Rattle.places.specs.declared.LayRefusal.{LayRefusal}
use Rattle.places.specs.declared.LayRefusal.TheVariants.{NoSuchPlace, Full}
use Rattle.places.specs.declared.place_bag.PlaceBag.{PlaceBag}

-- the relation with each pair of a list put in, the first pair first
abbrev pub with_pairs : PlaceRelation → List (ℕ × ℕ) → PlaceRelation
with_pairs R [] = R
with_pairs R (x ∷ xs) = with_pairs (with_pair R x.0 x.1 true) xs

-- the set with each place of a list put in
abbrev pub with_places : Subset → List ℕ → Subset
with_places S [] = S
with_places S (x ∷ xs) = with_places (with_place S x) xs

-- the bag with each token of a list laid, the first token first; or the first refusal
abbrev pub with_tokens : Bag → List ℕ → Result Bag LayRefusal
with_tokens m [] = Ok m
with_tokens m (x ∷ xs) = cond (nat_lt x 16) (cond (nat_lt (size m) 64) (with_tokens (single x ⊕ m) xs) (Err Full)) (Err NoSuchPlace)

-- what the bag of an answer means
abbrev pub meant : Result PlaceBag LayRefusal → Result Bag LayRefusal
meant (Ok b) = Ok (bag_of b)
meant (Err e) = Err e
