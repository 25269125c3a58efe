use Rattle.std.proofs.Common.{◌≡◌, Ok, subst, arith}
use Rattle.nets.specs.Tables.{table_meaning, table_limits}
use Rattle.bisimulation.specs.Verdicts.{obligations_below}
use Rattle.verdict.specs.Results.{JudgedBelow}
use Rattle.verdict.specs.Search.{obligations_of, JudgedFor}
use Rattle.verdict.proofs.Walks.{err_is}
use Rattle.verdict.specs.Relating.{pairs_of}
use Rattle.nets.specs.declared.role.Role.TheVariants.{Input}
use Rattle.verdict.proofs.Flows.{flow_short}
use Rattle.verdict.proofs.Halves.{so_far_none, so_far_more, so_far_stops, side_few}
use Rattle.verdict.proofs.sides.side_open.Goals as goal

pub loop-t-init : goal.loop-t-init
loop-t-init c =
    let h = c.args.half.now in
    (c.transitions-t-end.ensures, so_far_none h.side (table_meaning h.mover.now) (table_meaning h.other.now) (pairs_of h.pairs) c.args.start)

pub transition_open-requires-clause-room : goal.transition_open-requires-clause-room
transition_open-requires-clause-room c =
    let h = c.args.half.now in
    omega (arith, c.requires.room, c.loop-t.invariant.1.few, c.loop-t.invariant.1.counted, c.loop-t-test.true, c.transitions-t-end.ensures, (table_limits h.mover.now).few_transitions)

pub returns-in_err-count : goal.returns-in_err-count
returns-in_err-count c =
    let h = c.args.half.now in
    let n = table_meaning h.mover.now in
    let k = table_meaning h.other.now in
    record {
      judged = err_is (JudgedFor h c.args.start (obligations_of h n.transitions)) c.from_residual.result _ c.from_residual.ensures.1
          (so_far_stops h.side n k (pairs_of h.pairs) c.args.start c.loop-t.t c.loop-t.count n.transitions _ (omega (arith, c.transitions-t-end.ensures, c.loop-t-test.true)) c.loop-t.invariant.1 c.in_err-count.ensures);
      few = omega (arith, side_few h.side n k (pairs_of h.pairs) n.transitions (table_limits h.other.now).few_places (λ t. flow_short n Input t (table_limits h.mover.now)), (table_limits h.mover.now).few_transitions);
    }

pub loop-t-preserved : goal.loop-t-preserved
loop-t-preserved c =
    let h = c.args.half.now in
    let n = table_meaning h.mover.now in (
      c.transitions-t-end.ensures,
      so_far_more h.side n (table_meaning h.other.now) (pairs_of h.pairs) c.args.start c.loop-t.t c.loop-t.count c.in_ok-count.count (table_limits h.other.now).few_places (flow_short n Input c.loop-t.t (table_limits h.mover.now)) c.loop-t.invariant.1 c.in_ok-count.ensures,
    )

pub returns : goal.returns
returns c =
    let h = c.args.half.now in
    let n = table_meaning h.mover.now in
    let k = table_meaning h.other.now in
    let all : c.loop-t.t ≡ n.transitions = omega (arith, c.transitions-t-end.ensures, c.loop-t-test.false, c.loop-t.auto.t-end) in
    record {
      judged = subst (λ t. JudgedBelow h.side n k (pairs_of h.pairs) c.args.start (obligations_below h.side n k (pairs_of h.pairs) t) (Ok c.loop-t.count)) all c.loop-t.invariant.1.judged;
      few = omega (arith, side_few h.side n k (pairs_of h.pairs) n.transitions (table_limits h.other.now).few_places (λ t. flow_short n Input t (table_limits h.mover.now)), (table_limits h.mover.now).few_transitions);
    }
