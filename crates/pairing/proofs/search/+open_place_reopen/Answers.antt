use Rattle.std.proofs.Common.{sym, ap, ◌∙◌, subst, arith, rules}
use Rattle.std.proofs.lemmas.Bool.{both_ways}
use Rattle.bags.specs.Items.{items}
use Rattle.places.specs.Meanings.{relation_of, set_of}
use Rattle.places.specs.Laws.{with_here}
use Rattle.pairing.specs.Search.{left_end, unseen, Held, Holder, NoHolder}
use Rattle.pairing.proofs.Steps.{either_way, trying_start, trying_skip, trying_more, shut_all, opened_end, opened_fresh, fewer_unseen}
use Rattle.pairing.proofs.search.+open_place_reopen.Goals as goal
use Rattle.pairing.proofs.search.+open_place_reopen.Goals.{reopen-then-not-contains+in-Some+else-open_place, reopen-then-not-contains+in_default, reopen-else-not-contains}

pub open_place-reopen-requires : goal.open_place-reopen-requires
open_place-reopen-requires t c = (
  omega (arith, c.decreases, ap unseen c.insert.ensures, fewer_unseen (set_of c.args.seen.now) c.args.q c.requires.low c.requires.fresh),
  (
    c.requires.low,
    (ap (λ s. s c.args.q) c.insert.ensures ∙ with_here (set_of c.args.seen.now) c.args.q c.requires.low, c.requires.held),
  ),
)

pub open_place-returns : goal.open_place-returns
open_place-returns t c = either_way c.reopen.result c.reopen.ensures (opened_fresh c.insert.ensures) (shut_all c.requires.low c.requires.fresh c.insert.ensures (omega (arith, c.count.ensures, c.if-count-gt0.false)))

pub reopen-loop-r-init : goal.reopen-loop-r-init
reopen-loop-r-init t c = trying_start

pub reopen-open_place-requires : goal.reopen-open_place-requires
reopen-open_place-requires t c = (
  omega (arith, c.decreases, c.loop-r.invariant.fewer),
  (
    search rules,
    (search rules, subst (λ ps. Held (relation_of c.args.relation.now) ps) (sym c.loop-r.invariant.same_pairs) c.requires.held),
  ),
)

pub reopen-returns-then-open_place : goal.reopen-returns-then-open_place
reopen-returns-then-open_place t c = opened_end c.requires.low (search rules) c.requires.marked (search rules) c.loop-r.invariant
    (subst (λ ps. Holder (relation_of c.args.relation.now) ps c.args.q c.loop-r.r c.in-Some.j) c.as_slice.ensures c.in-Some.ensures)
    c.if-open_place.ensures c.shift.ensures.moved c.shift.ensures.freed

pub reopen-loop-r-preserved : goal.reopen-loop-r-preserved
reopen-loop-r-preserved t c = elim c.if-not-contains.branch [
  | reopen-then-not-contains+in-Some+else-open_place w ↦ simp (w.pairs-is, w.free-is, w.seen-is) (trying_more c.loop-r.invariant w.if-open_place.ensures)
  | reopen-then-not-contains+in_default w ↦ (
      let none = subst (λ ps. NoHolder (relation_of c.args.relation.now) ps c.args.q c.loop-r.r) w.as_slice.ensures w.in_default.ensures in
      simp (w.pairs-is, w.free-is, w.seen-is) (trying_skip c.loop-r.invariant (λ j l at rel. absurd (both_ways (relation_of c.args.relation.now (left_end (items c.loop-r.pairs) j) c.loop-r.r) (none j l at) rel)))
      )
  | reopen-else-not-contains w ↦ simp (w.pairs-is, w.free-is, w.seen-is) (trying_skip c.loop-r.invariant (λ j l at rel. sym w.if-not-contains.ensures))
]
