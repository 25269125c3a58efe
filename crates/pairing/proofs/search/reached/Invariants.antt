use Rattle.places.specs.Meanings.{set_of}
use Rattle.pairing.specs.Search.{Reached}
use Rattle.pairing.proofs.search.reached.Given as goal

abbrev pub invariant-loop-left : goal.invariant-loop-left
invariant-loop-left l = Reached l.pairs (set_of l.seen) l.p l.left-index (set_of l.places)
