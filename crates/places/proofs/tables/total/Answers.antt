use Rattle.std.specs.List.{sum_by}
use Rattle.std.proofs.Common.{◌≡◌, ◌∙◌, rules}
use Rattle.std.proofs.iter.runs.Sources.{sums}
use Rattle.places.proofs.Steps.{size_sum_by}
use Rattle.places.proofs.tables.total.Goals as goal

pub sum-requires-clause-fits : goal.sum-requires-clause-fits
sum-requires-clause-fits c = search (rules, sums)

pub returns : goal.returns
returns c = let e : c.sum.result ≡ sum_by (λ x. x) c.args.counts.now = search rules in e ∙ size_sum_by c.args.counts.now c.told-counts
