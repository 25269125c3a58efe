use Rattle.bags.specs.Items.{items}
use Rattle.places.specs.Meanings.{bag_of, relation_of}
use Rattle.pairing.specs.Search.{PairedOf}
use Rattle.pairing.proofs.search.place_all.Given as goal

abbrev pub invariant-loop : goal.invariant-loop
invariant-loop l = PairedOf (relation_of l.relation) (items l.initial.pairs) (bag_of l.initial.free) l.p l.counter (items l.pairs) (bag_of l.free)
