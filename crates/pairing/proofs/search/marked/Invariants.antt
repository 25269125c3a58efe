use Rattle.places.specs.Meanings.{bag_of, set_of}
use Rattle.pairing.proofs.Reach.{Marks}
use Rattle.pairing.proofs.search.marked.Given as goal

abbrev pub invariant-loop-p : goal.invariant-loop-p
invariant-loop-p l = Marks (bag_of l.bag) (set_of l.places) l.p
