use Rattle.std.specs.List.{count_by}
use Rattle.std.proofs.Common.{ap, ◌∙◌}
use Rattle.bags.proofs.Steps.{counts_from}
use Rattle.bags.proofs.sequence.Sequence.occurrences.Goals as goal

pub returns : goal.returns
returns g c = counts_from (λ y. g.T.PartialEq.eq y c.args.x) _ _ (c.occurrences.ensures ∙ ap (count_by (λ y. g.T.PartialEq.eq y c.args.x)) c.as_slice.ensures)
