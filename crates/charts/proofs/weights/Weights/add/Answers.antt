use Rattle.std.proofs.Common.{◌≡◌, ◌<◌, length, get_or, ap, ◌∙◌, arith}
use Rattle.std.proofs.lemmas.List.{length-set}
use Rattle.places.specs.Sets.{size}
use Rattle.charts.specs.Rows.{weights_of}
use Rattle.charts.proofs.Weighing.{weight_set, size_with}
use Rattle.charts.proofs.weights.Weights.add.Goals as goal

pub invariant_of-self : goal.invariant_of-self
invariant_of-self c =
    let self = c.args.self.now in
    let inside : c.args.place < length self.counts = omega (arith, self.whole, c.if-place-gt15.false) in
    let none : get_or self.counts c.args.place 0 ≡ 0 = omega (arith, c.at.ensures, c.if-at-gt0.false) in
    let more = ap size (weight_set self.counts c.args.place c.args.weight inside none) ∙ size_with (weights_of self) c.args.place c.args.weight (omega (arith, c.if-place-gt15.false)) in
    record { whole = length-set self.counts c.args.place c.args.weight ∙ self.whole; few = omega (arith, more, c.total.ensures.value, c.if-total-weight-gt-MOST_SUM.false) }
