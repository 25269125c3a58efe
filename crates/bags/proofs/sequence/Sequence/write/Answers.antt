use Rattle.std.proofs.Common.{arith}
use Rattle.std.proofs.lemmas.List.{length-take}
use Rattle.bags.proofs.Steps.{set_take}
use Rattle.bags.proofs.sequence.Sequence.write.Goals as goal

pub returns : goal.returns
returns g c = set_take c.args.self.now.len c.args.i c.args.x c.args.self.now.cells (omega (arith, length-take c.args.self.now.len c.args.self.now.cells, c.requires))
