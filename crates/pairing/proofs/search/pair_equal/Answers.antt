use Rattle.std.proofs.Common.{sym, subst, arith}
use Rattle.bags.specs.Items.{items}
use Rattle.places.specs.Meanings.{bag_of, relation_of, set_of}
use Rattle.places.specs.Laws.{bag_few, bag_placed}
use Rattle.pairing.specs.Search.{PairedBelow, PairedOf, ShortOf}
use Rattle.pairing.proofs.Decides.{fails_as}
use Rattle.pairing.proofs.Ends.{below_none, paired_below, fails_short, room_for, all_paired}
use Rattle.pairing.proofs.search.pair_equal.Goals as goal

pub loop-p-init : goal.loop-p-init
loop-p-init c = subst (λ xs. PairedBelow (relation_of c.args.relation.now) (bag_of c.args.left.now) (bag_of c.args.right.now) xs (bag_of c.args.right.now) 0) (sym c.new-pairs.ensures)
    (below_none (bag_of c.args.left.now) (bag_of c.args.right.now))

pub place_all-requires-clause-room : goal.place_all-requires-clause-room
place_all-requires-clause-room c =
    omega (arith, room_for (bag_few c.args.left.now) c.loop-p.invariant.going c.loop-p-test.true, c.loop-p.invariant.none c.loop-p.p (omega arith), c.count.ensures)

pub returns-in_err-place_all : goal.returns-in_err-place_all
returns-in_err-place_all c = fails_as c.from_residual.result _ c.from_residual.ensures.1 (fails_short c.loop-p-test.true c.loop-p.invariant
    (subst (λ k. ShortOf (relation_of c.args.relation.now) (items c.loop-p.pairs) (bag_of c.loop-p.free) c.loop-p.p k (set_of c.in_err-place_all.field-0.0)) c.count.ensures c.in_err-place_all.ensures))

pub loop-p-preserved : goal.loop-p-preserved
loop-p-preserved c = paired_below c.loop-p.invariant
    (subst (λ k. PairedOf (relation_of c.args.relation.now) (items c.loop-p.pairs) (bag_of c.loop-p.free) c.loop-p.p k (items c.place_all.new.pairs) (bag_of c.place_all.new.free)) c.count.ensures c.in_ok-place_all.ensures)

pub returns : goal.returns
returns c =
    let left = bag_placed c.args.left.now in
    let right = bag_placed c.args.right.now in
    all_paired left right c.requires c.loop-p-test.false c.loop-p.invariant.going
