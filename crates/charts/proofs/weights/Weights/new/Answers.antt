use Rattle.std.proofs.Common.{refl, arith}
use Rattle.charts.proofs.Weighing.{nothing_weighs}
use Rattle.charts.proofs.weights.Weights.new.Goals as goal

pub invariant_of-result : goal.invariant_of-result
invariant_of-result c = record { whole = refl; few = omega (arith, nothing_weighs) }
