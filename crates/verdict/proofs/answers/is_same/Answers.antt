use Rattle.std.proofs.lemmas.Slice.Eq.{slice_eq-Decides}
use Rattle.bisimulation.specs.Lists.{same_list}
use Rattle.bisimulation.specs.Spelled.{same_is, is_same}
use Rattle.verdict.proofs.Tests.{bool_same}
use Rattle.verdict.proofs.answers.is_same.Goals as goal
use Rattle.std.proofs.lemmas.Bool.Decides.{Decides-eqb}

pub returns : goal.returns
returns c =
    let d = slice_eq-Decides Decides-eqb c.args.xs.now c.args.ys.now c.eq.result c.eq.ensures in
    bool_same c.eq.result (same_list c.args.xs.now c.args.ys.now) (λ e. is_same c.args.xs.now c.args.ys.now (d.0 e)) (λ e. d.1 (same_is c.args.xs.now c.args.ys.now e))
