use Rattle.std.proofs.Common.{◌+◌, sym, ap, ◌∙◌, subst}
use Rattle.places.specs.Meanings.{set_of}
use Rattle.places.specs.Sets.{with_place}
use Rattle.pairing.specs.Search.{Reached}
use Rattle.pairing.proofs.Reach.{reached_start, reached_skip, reached_mark}
use Rattle.pairing.proofs.search.reached.Goals as goal
use Rattle.pairing.proofs.search.reached.Goals.{then-contains, else-contains}

pub loop-left-init : goal.loop-left-init
loop-left-init c = subst (λ s. Reached c.args.pairs.now (set_of c.args.seen.now) c.args.p 0 s) (sym (c.insert.ensures ∙ ap (λ s. with_place s c.args.p) c.new-places.ensures))
    (reached_start c.args.pairs.now (set_of c.args.seen.now) c.args.p c.requires.low)

pub loop-left-preserved : goal.loop-left-preserved
loop-left-preserved c = elim c.if-contains.branch [
  | then-contains w ↦ subst (λ s. Reached c.args.pairs.now (set_of c.args.seen.now) c.args.p (c.loop-left.left-index + 1) s) (sym (ap set_of w.places-is ∙ w.insert-then-contains.ensures))
      (reached_mark (sym w.if-contains.ensures) (c.requires.lows c.loop-left.left-index c.loop-left-test.true) c.loop-left.invariant)
  | else-contains w ↦ subst (λ s. Reached c.args.pairs.now (set_of c.args.seen.now) c.args.p (c.loop-left.left-index + 1) s) (sym (ap set_of w.places-is))
      (reached_skip (sym w.if-contains.ensures) c.loop-left.invariant)
]
