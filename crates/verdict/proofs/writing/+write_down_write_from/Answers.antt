use Rattle.std.proofs.Common.{◌≡◌, ◌+◌, ◌-◌, ◌≤◌, true, [], ◌∷◌, ◌++◌, map, length, sym, refl, ap, ◌∙◌, subst, arith, length-append}
use Rattle.std.proofs.lemmas.List.{length-map, map-append}
use Rattle.std.proofs.lemmas.Bool.{false≢true}
use Rattle.bags.specs.Changes.{pushed_fits}
use Rattle.bags.specs.Items.{items_few}
use Rattle.bisimulation.specs.Verdicts.{obliges}
use Rattle.verdict.specs.Entries.{entry}
use Rattle.verdict.specs.Results.{Wrote}
use Rattle.verdict.specs.Search.{bags_after, mover_of, other_of, related_by}
use Rattle.verdict.specs.ShortLists.{listed}
use Rattle.verdict.proofs.Walks.{open_bags, leaf_bags, past_bags, pruned, full_obliges, begun}
use Rattle.verdict.proofs.Wrote.{wrote_on, wrote_long}
use Rattle.verdict.proofs.writing.+write_down_write_from.Goals as goal

pub write_down-returns-then-not-completes : goal.write_down-returns-then-not-completes
write_down-returns-then-not-completes t c =
    let j = c.args.job.now in
    let pre = listed c.args.chosen ++ c.args.from ∷ [] in
    let pushed = pushed_fits 4 _ _ c.push.result _ c.push.ensures (omega (arith, c.requires.sized, items_few j.flows.takes)) in
    let same = begun j c.as_slice.result.now pre c.args.from (c.as_slice.ensures ∙ pushed) in
    let e = pruned (mover_of j) (related_by j) j.t pre ((other_of j).places - c.args.from) c.args.from c.args.left (λ comp. false≢true (c.if-not-completes.ensures.1 (same.1 comp))) in
    record {
      next = omega (arith, ap length e);
      written = subst (λ bags. Wrote c.args.at c.args.out.now (map (entry j) bags) c.args.out.now) (sym e) refl;
    }

pub write_down-write_from-requires : goal.write_down-write_from-requires
write_down-write_from-requires t c =
    let j = c.args.job.now in
    let pre = listed c.args.chosen ++ c.args.from ∷ [] in
    let pushed = pushed_fits 4 _ _ c.push.result _ c.push.ensures (omega (arith, c.requires.sized, items_few j.flows.takes)) in
    let same = begun j c.as_slice.result.now pre c.args.from (c.as_slice.ensures ∙ pushed) in
    let long : length pre ≡ length (listed c.args.chosen) + 1 = length-append (listed c.args.chosen) (c.args.from ∷ []) in (
      omega (arith, c.decreases),
      (
        omega (arith, c.requires.sized, ap length pushed, long),
        (
          subst (λ p. c.args.at + length (bags_after (mover_of j) (related_by j) j.t p ((other_of j).places - c.args.from) c.args.from c.args.left) ≤ length c.args.out.now) (sym pushed) c.requires.room,
          λ z. subst (λ p. obliges (mover_of j) (related_by j) j.t p ≡ true) (sym pushed) (full_obliges j pre c.args.from (omega (arith, long, c.requires.sized, z, ap length j.taken)) (same.0 (c.if-not-completes.ensures.0 refl))),
        ),
      ),
    )

pub write_down-returns : goal.write_down-returns
write_down-returns t c =
    let j = c.args.job.now in
    let pushed = pushed_fits 4 _ _ c.push.result _ c.push.ensures (omega (arith, c.requires.sized, items_few j.flows.takes)) in
    let d = (other_of j).places - c.args.from in
    record {
      next = c.write_from.ensures.next ∙ ap (λ p. c.args.at + length (bags_after (mover_of j) (related_by j) j.t p d c.args.from c.args.left)) pushed;
      written = subst (λ p. Wrote c.args.at c.args.out.now (map (entry j) (bags_after (mover_of j) (related_by j) j.t p d c.args.from c.args.left)) c.write_from.new.out) pushed c.write_from.ensures.written;
    }

pub write_from-write_one-requires : goal.write_from-write_one-requires
write_from-write_one-requires t c =
    let j = c.args.job.now in
    let pre = listed c.args.chosen in
    let d = (other_of j).places - c.args.from in
    let known = c.requires.known c.if-left-eq0.true in
    let one : bags_after (mover_of j) (related_by j) j.t pre d c.args.from c.args.left ≡ pre ∷ [] = ap (λ s. bags_after (mover_of j) (related_by j) j.t pre d c.args.from s) c.if-left-eq0.true ∙ leaf_bags (mover_of j) (related_by j) j.t pre d c.args.from known in
    record {
      room = omega (arith, c.requires.room, ap length one);
      known = known;
    }

pub write_from-returns-then-left-eq0 : goal.write_from-returns-then-left-eq0
write_from-returns-then-left-eq0 t c =
    let j = c.args.job.now in
    let pre = listed c.args.chosen in
    let d = (other_of j).places - c.args.from in
    let one : bags_after (mover_of j) (related_by j) j.t pre d c.args.from c.args.left ≡ pre ∷ [] = ap (λ s. bags_after (mover_of j) (related_by j) j.t pre d c.args.from s) c.if-left-eq0.true ∙ leaf_bags (mover_of j) (related_by j) j.t pre d c.args.from (c.requires.known c.if-left-eq0.true) in
    record {
      next = omega (arith, ap length one);
      written = subst (λ bags. Wrote c.args.at c.args.out.now (map (entry j) bags) c.write_one.new.out) (sym one) c.write_one.ensures;
    }

pub write_from-returns-then-from-places : goal.write_from-returns-then-from-places
write_from-returns-then-from-places t c =
    let j = c.args.job.now in
    let e = past_bags (mover_of j) (related_by j) j.t (listed c.args.chosen) ((other_of j).places - c.args.from) c.args.from c.args.left (omega (arith, c.places.ensures, c.if-from-places.true)) (omega (arith, c.if-left-eq0.false)) in
    record {
      next = omega (arith, ap length e);
      written = subst (λ bags. Wrote c.args.at c.args.out.now (map (entry j) bags) c.args.out.now) (sym e) refl;
    }

pub write_from-write_down-next-requires : goal.write_from-write_down-next-requires
write_from-write_down-next-requires t c =
    let j = c.args.job.now in
    let pre = listed c.args.chosen in
    let d = (other_of j).places - c.args.from in
    let split = open_bags (mover_of j) (related_by j) j.t pre d c.args.from c.args.left (omega (arith, c.places.ensures, c.if-from-places.false)) (omega (arith, c.if-left-eq0.false)) in (
      omega (arith, c.decreases, c.if-left-eq0.false),
      (omega (arith, c.requires.sized, c.if-left-eq0.false), omega (arith, c.requires.room, ap length split, length-append (bags_after (mover_of j) (related_by j) j.t (pre ++ c.args.from ∷ []) d c.args.from (c.args.left - 1)) (bags_after (mover_of j) (related_by j) j.t pre (d - 1) (c.args.from + 1) c.args.left))),
    )

pub write_from-write_from-requires : goal.write_from-write_from-requires
write_from-write_from-requires t c =
    let j = c.args.job.now in
    let pre = listed c.args.chosen in
    let d = (other_of j).places - c.args.from in
    let split = open_bags (mover_of j) (related_by j) j.t pre d c.args.from c.args.left (omega (arith, c.places.ensures, c.if-from-places.false)) (omega (arith, c.if-left-eq0.false)) in
    let on : d - 1 ≡ (other_of j).places - (c.args.from + 1) = omega arith in
    let sum = length-append (bags_after (mover_of j) (related_by j) j.t (pre ++ c.args.from ∷ []) d c.args.from (c.args.left - 1)) (bags_after (mover_of j) (related_by j) j.t pre (d - 1) (c.args.from + 1) c.args.left) in
    let rest = ap (λ k. length (bags_after (mover_of j) (related_by j) j.t pre k (c.args.from + 1) c.args.left)) on in (
      omega (arith, c.decreases, c.places.ensures, c.if-from-places.false),
      (c.requires.sized, (omega (arith, c.requires.room, c.write_down-next.ensures.next, ap length split, sum, rest, wrote_long c.args.at c.args.out.now c.write_down-next.new.out _ c.write_down-next.ensures.written), λ e. absurd (omega (arith, c.if-left-eq0.false)))),
    )

pub write_from-returns : goal.write_from-returns
write_from-returns t c =
    let j = c.args.job.now in
    let pre = listed c.args.chosen in
    let d = (other_of j).places - c.args.from in
    let split = open_bags (mover_of j) (related_by j) j.t pre d c.args.from c.args.left (omega (arith, c.places.ensures, c.if-from-places.false)) (omega (arith, c.if-left-eq0.false)) in
    let first = bags_after (mover_of j) (related_by j) j.t (pre ++ c.args.from ∷ []) d c.args.from (c.args.left - 1) in
    let second = bags_after (mover_of j) (related_by j) j.t pre (d - 1) (c.args.from + 1) c.args.left in
    let on : d - 1 ≡ (other_of j).places - (c.args.from + 1) = omega arith in
    let later = ap (λ k. bags_after (mover_of j) (related_by j) j.t pre k (c.args.from + 1) c.args.left) on in
    let where_next : c.write_down-next.result ≡ c.args.at + length (map (entry j) first) = omega (arith, c.write_down-next.ensures.next, length-map first (entry j)) in
    let tail = subst (λ k. Wrote k c.write_down-next.new.out (map (entry j) second) c.write_from.new.out) where_next (subst (λ bags. Wrote c.write_down-next.result c.write_down-next.new.out (map (entry j) bags) c.write_from.new.out) (sym later) c.write_from.ensures.written) in
    let both = wrote_on c.args.at c.args.out.now c.write_down-next.new.out c.write_from.new.out (map (entry j) first) (map (entry j) second) c.write_down-next.ensures.written tail in
    record {
      next = omega (arith, c.write_from.ensures.next, c.write_down-next.ensures.next, ap length split, length-append first second, ap length later);
      written = subst (λ es. Wrote c.args.at c.args.out.now es c.write_from.new.out) (sym (ap (map (entry j)) split ∙ map-append (entry j) first second)) both;
    }
