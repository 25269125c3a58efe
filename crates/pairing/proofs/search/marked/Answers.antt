use Rattle.std.proofs.Common.{◌+◌, sym, ap, ◌∙◌, subst, arith}
use Rattle.places.specs.Meanings.{bag_of, set_of}
use Rattle.places.specs.Laws.{bag_placed}
use Rattle.pairing.proofs.Reach.{Marks, marks_none, marks_skip, marks_more, marks_all}
use Rattle.pairing.proofs.search.marked.Goals as goal
use Rattle.pairing.proofs.search.marked.Goals.{then-count-gt0, else-count-gt0}

pub loop-p-init : goal.loop-p-init
loop-p-init c = marks_none (bag_of c.args.bag.now) (set_of c.new-places.result) c.new-places.ensures

pub loop-p-preserved : goal.loop-p-preserved
loop-p-preserved c = elim c.if-count-gt0.branch [
  | then-count-gt0 w ↦ subst (λ s. Marks (bag_of c.args.bag.now) s (c.loop-p.p + 1)) (sym (ap set_of w.places-is ∙ w.insert.ensures)) (marks_more c.loop-p-test.true (omega (arith, c.count.ensures, w.if-count-gt0.true)) c.loop-p.invariant)
  | else-count-gt0 w ↦ subst (λ s. Marks (bag_of c.args.bag.now) s (c.loop-p.p + 1)) (sym (ap set_of w.places-is)) (marks_skip (omega (arith, c.count.ensures, w.if-count-gt0.false)) c.loop-p.invariant)
]

pub returns : goal.returns
returns c = marks_all (bag_placed c.args.bag.now) c.loop-p-test.false c.loop-p.invariant
