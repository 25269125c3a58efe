use Rattle.places.specs.Meanings.{bag_of}
use Rattle.verdict.specs.ShortLists.{listed}
use Rattle.verdict.proofs.Flows.{ListedTo}
use Rattle.verdict.proofs.answering.bag_list.Given as goal

abbrev pub invariant-loop-p : goal.invariant-loop-p
invariant-loop-p l = ListedTo (bag_of l.bag) 16 l.p (listed l.list)
