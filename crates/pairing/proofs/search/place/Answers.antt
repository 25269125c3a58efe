use Rattle.std.proofs.Common.{sym, subst}
use Rattle.std.proofs.lemmas.Bool.{both_ways}
use Rattle.places.specs.Meanings.{relation_of}
use Rattle.pairing.specs.Search.{Held}
use Rattle.pairing.proofs.Steps.{blocked_start, blocked_skip, blocked_more, room_there}
use Rattle.pairing.proofs.search.place.Goals as goal
use Rattle.pairing.proofs.search.place.Goals.{then-contains+then-not-contains+else-open_place, else-contains, else-contains-via-then-contains+else-not-contains, else-contains-via-else-contains}

pub loop-q-init : goal.loop-q-init
loop-q-init c = blocked_start c.new-seen.ensures

pub open_place-requires : goal.open_place-requires
open_place-requires c = record {
  low = c.loop-q-test.true;
  fresh = sym c.if-not-contains.ensures;
  held = subst (λ ps. Held (relation_of c.args.relation.now) ps) (sym c.loop-q.invariant.same_pairs) c.requires.held;
}

pub returns-then-open_place : goal.returns-then-open_place
returns-then-open_place c = room_there c.loop-q-test.true (sym c.if-contains.ensures) c.loop-q.invariant c.if-open_place.ensures

pub loop-q-preserved : goal.loop-q-preserved
loop-q-preserved c = elim c.if-contains.branch [
  | then-contains+then-not-contains+else-open_place w ↦ simp (w.pairs-is, w.free-is, w.seen-is) (blocked_more c.loop-q.invariant w.if-open_place.ensures)
  | else-contains w ↦ simp (w.pairs-is, w.free-is, w.seen-is) (elim w.else-contains.branch [
    | else-contains-via-then-contains+else-not-contains v ↦ blocked_skip c.loop-q.invariant (λ _. sym v.if-not-contains.ensures)
    | else-contains-via-else-contains v ↦ blocked_skip c.loop-q.invariant (λ e. absurd (both_ways (relation_of c.args.relation.now c.args.p c.loop-q.q) (sym v.if-contains.ensures) e))
  ])
]
