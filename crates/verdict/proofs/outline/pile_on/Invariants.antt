use Rattle.verdict.specs.ShortLists.{listed}
use Rattle.verdict.proofs.Flows.{Piled}
use Rattle.verdict.proofs.outline.pile_on.Given as goal

abbrev pub invariant-loop : goal.invariant-loop
invariant-loop l = Piled (listed l.initial.list) (listed l.list) l.place l.counter
