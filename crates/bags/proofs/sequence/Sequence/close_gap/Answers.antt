use Rattle.std.proofs.Common.{◌-◌, take, ap, ◌∙◌, arith}
use Rattle.std.proofs.lemmas.List.{length-take}
use Rattle.bags.proofs.Steps.{closed}
use Rattle.bags.proofs.sequence.Sequence.close_gap.Goals as goal

pub returns : goal.returns
returns g c =
    let self = c.args.self.now in
    ap (take (self.len - 1)) c.copy_within.ensures.after ∙ closed self.cells self.len c.args.i (omega (arith, length-take self.len self.cells, c.requires)) (omega (arith, self.whole, self.within))
