use Rattle.bags.specs.Items.{items}
use Rattle.places.specs.Meanings.{bag_of, relation_of}
use Rattle.pairing.specs.Search.{PairedBelow}
use Rattle.pairing.proofs.search.pair_equal.Given as goal

abbrev pub invariant-loop-p : goal.invariant-loop-p
invariant-loop-p l = PairedBelow (relation_of l.relation) (bag_of l.left) (bag_of l.right) (items l.pairs) (bag_of l.free) l.p
