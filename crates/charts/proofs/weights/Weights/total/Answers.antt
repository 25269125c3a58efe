use Rattle.std.proofs.Common.{sym, ◌∙◌, arith}
use Rattle.charts.proofs.Weighing.{counts_sum}
use Rattle.charts.proofs.weights.Weights.total.Goals as goal

pub sum_of-requires : goal.sum_of-requires
sum_of-requires c = let self = c.args.self.now in omega (arith, self.few, counts_sum self.counts self.whole)

pub returns : goal.returns
returns c =
    let self = c.args.self.now in
    let value = c.sum_of.ensures ∙ sym (counts_sum self.counts self.whole) in
    record { value = value; few = omega (arith, value, self.few) }
