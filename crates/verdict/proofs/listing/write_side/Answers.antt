use Rattle.std.proofs.Common.{◌≡◌, ◌<◌, subst, arith}
use Rattle.nets.specs.Tables.{table_meaning}
use Rattle.verdict.specs.Relating.{pairs_of}
use Rattle.verdict.proofs.Lists.{WrittenTo, written_none, written_more, written_long, still_room}
use Rattle.verdict.proofs.listing.write_side.Goals as goal

pub loop-t-init : goal.loop-t-init
loop-t-init c =
    let h = c.args.half.now in
    (c.transitions-t-end.ensures, written_none h.side (table_meaning h.mover.now) (table_meaning h.other.now) (pairs_of h.pairs) c.args.start c.args.out.now)

pub write_transition-next-requires-clause-room : goal.write_transition-next-requires-clause-room
write_transition-next-requires-clause-room c =
    let h = c.args.half.now in
    let n = table_meaning h.mover.now in
    let l : c.loop-t.t < n.transitions = omega (arith, c.transitions-t-end.ensures, c.loop-t-test.true) in
    omega (arith, c.requires.room, c.loop-t.invariant.1.counted, still_room h.side n (table_meaning h.other.now) (pairs_of h.pairs) c.loop-t.t n.transitions l, written_long c.loop-t.invariant.1)

pub loop-t-preserved : goal.loop-t-preserved
loop-t-preserved c =
    let h = c.args.half.now in
    (c.transitions-t-end.ensures, written_more h.side (table_meaning h.mover.now) (table_meaning h.other.now) (pairs_of h.pairs) c.args.start c.args.out.now c.loop-t.t c.loop-t.next c.loop-t.out c.write_transition-next.result c.write_transition-next.new.out c.loop-t.invariant.1 c.write_transition-next.ensures.next c.write_transition-next.ensures.written)

pub returns : goal.returns
returns c =
    let h = c.args.half.now in
    let n = table_meaning h.mover.now in
    let k = table_meaning h.other.now in
    let all : c.loop-t.t ≡ n.transitions = omega (arith, c.transitions-t-end.ensures, c.loop-t-test.false, c.loop-t.auto.t-end) in
    let w = subst (λ t. WrittenTo h.side n k (pairs_of h.pairs) c.args.start c.args.out.now t c.loop-t.next c.loop-t.out) all c.loop-t.invariant.1 in
    record { next = w.counted; written = w.written }
