use Rattle.bags.specs.Items.{items}
use Rattle.places.specs.Meanings.{bag_of, relation_of, set_of}
use Rattle.pairing.specs.Search.{Blocked}
use Rattle.pairing.proofs.search.place.Given as goal

abbrev pub invariant-loop-q : goal.invariant-loop-q
invariant-loop-q l = Blocked (relation_of l.relation) (items l.initial.pairs) (bag_of l.initial.free) l.p l.q (items l.pairs) (bag_of l.free) (set_of l.seen)
