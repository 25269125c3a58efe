use Rattle.std.proofs.Common.{◌≡◌, length, refl, ap, ◌∙◌, arith}
use Rattle.nets.specs.Tables.{table_meaning, table_limits}
use Rattle.verdict.specs.Relating.{pairs_of}
use Rattle.verdict.proofs.Flows.{flow_short}
use Rattle.verdict.proofs.Halves.{side_few}
use Rattle.verdict.proofs.Lists.{count_more}
use Rattle.nets.specs.declared.role.Role.TheVariants.{Input}
use Rattle.bisimulation.specs.Verdicts.{obligations_below}
use Rattle.verdict.proofs.listing.count_side.Goals as goal

pub loop-t-init : goal.loop-t-init
loop-t-init c = (c.transitions-t-end.ensures, refl)

pub count_transition-count-requires-clause-room : goal.count_transition-count-requires-clause-room
count_transition-count-requires-clause-room c =
    let h = c.args.half.now in
    let n = table_meaning h.mover.now in
    omega (arith, c.loop-t.invariant.1, side_few h.side n (table_meaning h.other.now) (pairs_of h.pairs) c.loop-t.t (table_limits h.other.now).few_places (λ t. flow_short n Input t (table_limits h.mover.now)), c.loop-t-test.true, c.transitions-t-end.ensures, (table_limits h.mover.now).few_transitions)

pub loop-t-preserved : goal.loop-t-preserved
loop-t-preserved c =
    let h = c.args.half.now in
    (c.transitions-t-end.ensures, count_more h.side (table_meaning h.mover.now) (table_meaning h.other.now) (pairs_of h.pairs) c.loop-t.t c.loop-t.count c.count_transition-count.result c.loop-t.invariant.1 c.count_transition-count.ensures)

pub returns : goal.returns
returns c =
    let h = c.args.half.now in
    let n = table_meaning h.mover.now in
    let k = table_meaning h.other.now in
    let all : c.loop-t.t ≡ n.transitions = omega (arith, c.transitions-t-end.ensures, c.loop-t-test.false, c.loop-t.auto.t-end) in
    let value = c.loop-t.invariant.1 ∙ ap (λ t. length (obligations_below h.side n k (pairs_of h.pairs) t)) all in
    record { value = value; few = omega (arith, value, side_few h.side n k (pairs_of h.pairs) n.transitions (table_limits h.other.now).few_places (λ t. flow_short n Input t (table_limits h.mover.now)), (table_limits h.mover.now).few_transitions) }
