use Rattle.std.proofs.Common.{arith}
use Rattle.places.specs.Meanings.{bag_of}
use Rattle.nets.specs.Tables.{table_meaning, table_limits}
use Rattle.verdict.specs.Relating.{pairs_of}
use Rattle.nets.specs.declared.role.Role.TheVariants.{Input}
use Rattle.verdict.proofs.Flows.{flow_short}
use Rattle.verdict.proofs.Answered.{too_large}
use Rattle.verdict.proofs.answering.answer_half.Goals as goal

pub returns-then-size-gt4 : goal.returns-then-size-gt4
returns-then-size-gt4 c =
    let h = c.args.half.now in
    too_large (table_meaning h.mover.now) (table_meaning h.other.now) (pairs_of h.pairs) c.args.t (bag_of c.args.bag.now) (flow_short (table_meaning h.mover.now) Input c.args.t (table_limits h.mover.now)) (omega (arith, c.size.ensures.value, c.if-size-gt4.true))
