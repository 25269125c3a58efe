use Rattle.std.proofs.Common.{◌≡◌, ◌+◌, ◌-◌, true, map, length, sym, refl, ap, ◌∙◌, subst, arith}
use native.Mathlib.Nat.{sub-zero}
use Rattle.nets.specs.Tables.{table_meaning}
use Rattle.bisimulation.specs.Verdicts.{obliges}
use Rattle.verdict.specs.Relating.{pairs_of}
use Rattle.verdict.specs.Results.{at}
use Rattle.bisimulation.specs.Verdicts.{answer_for, bags_for}
use Rattle.verdict.specs.Results.{Wrote, with_answers}
use Rattle.verdict.specs.Search.{bags_after, bags_of, mover_of, other_of, related_by, WroteFor}
use Rattle.verdict.proofs.Halves.{all_bags, no_bags, none_obliges}
use Rattle.verdict.proofs.Lists.{entries_are}
use Rattle.verdict.proofs.listing.write_transition.Goals as goal

pub returns-in_default : goal.returns-in_default
returns-in_default c =
    let h = c.args.half.now in
    let none = no_bags (table_meaning h.mover.now) (table_meaning h.other.now) (pairs_of h.pairs) c.args.t c.in_default.ensures in
    record {
      next = omega (arith, ap length none);
      written = λ f agrees. subst (λ bags. Wrote c.args.start c.args.out.now (with_answers f (map (at h.side c.args.t) bags)) c.args.out.now) (sym none) refl;
    }

pub write_from-requires-clause-room : goal.write_from-requires-clause-room
write_from-requires-clause-room c =
    let j = c.in-Some.job in
    let d = (other_of j).places - 0 in
    let bags = ap (λ p. bags_after (mover_of j) (related_by j) j.t p d 0 c.len.result) c.new.ensures ∙ all_bags (mover_of j) (other_of j) (related_by j) j.t c.len.result d (c.len.ensures ∙ ap length j.taken) (sub-zero (other_of j).places) in
    omega (arith, c.requires.room, ap length bags, ap (λ k. length (bags_of j.half.now k)) c.in-Some.ensures.1, ap (λ h. length (bags_of h c.args.t)) c.in-Some.ensures.0)

pub write_from-requires-clause-known : goal.write_from-requires-clause-known
write_from-requires-clause-known c z =
    let j = c.in-Some.job in
    subst (λ p. obliges (mover_of j) (related_by j) j.t p ≡ true) (sym c.new.ensures) (none_obliges (mover_of j) (related_by j) j.t j.there (sym j.free) (sym (ap length j.taken) ∙ sym c.len.ensures ∙ z))

pub returns : goal.returns
returns c =
    let j = c.in-Some.job in
    let n = mover_of j in
    let k = other_of j in
    let R = related_by j in
    let d = k.places - 0 in
    let bags = ap (λ p. bags_after n R j.t p d 0 c.len.result) c.new.ensures ∙ all_bags n k R j.t c.len.result d (c.len.ensures ∙ ap length j.taken) (sub-zero k.places) in
    let own : WroteFor j.half.now c.args.start c.args.out.now (map (at j.half.now.side j.t) (bags_of j.half.now j.t)) c.write_from.new.out = λ f agrees. subst (λ es. Wrote c.args.start c.args.out.now es c.write_from.new.out) (ap (map (λ ys. (at j.half.now.side j.t ys, answer_for n k R j.t ys))) bags ∙ entries_are j.half.now.side j.t f (answer_for n k R j.t) (agrees j.t) (bags_for n k R j.t)) c.write_from.ensures.written in
    record {
      next = c.write_from.ensures.next ∙ ap (λ bs. c.args.start + length bs) bags ∙ ap (λ i. c.args.start + length (bags_of j.half.now i)) c.in-Some.ensures.1 ∙ ap (λ h. c.args.start + length (bags_of h c.args.t)) c.in-Some.ensures.0;
      written = subst (λ h. WroteFor h c.args.start c.args.out.now (map (at h.side c.args.t) (bags_of h c.args.t)) c.write_from.new.out) c.in-Some.ensures.0
          (subst (λ i. WroteFor j.half.now c.args.start c.args.out.now (map (at j.half.now.side i) (bags_of j.half.now i)) c.write_from.new.out) c.in-Some.ensures.1 own);
    }
