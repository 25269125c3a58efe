-- What a bag, a set and a relation of the code mean. Assumes nothing.
use Rattle.places.specs.Bags.{Bag}
use Rattle.places.specs.Sets.{Subset, PlaceRelation}
use Rattle.places.specs.Tables.{counted, flagged, rowed}
use Rattle.places.specs.declared.place_bag.PlaceBag.{PlaceBag}
use Rattle.places.specs.declared.place_set.PlaceSet.{PlaceSet}
use Rattle.places.specs.declared.relation.Relation.{Relation}

abbrev pub bag_of : PlaceBag → Bag
bag_of b = counted b.counts

abbrev pub set_of : PlaceSet → Subset
set_of s = flagged s.flags

abbrev pub relation_of : Relation → PlaceRelation
relation_of r = rowed r.rows
