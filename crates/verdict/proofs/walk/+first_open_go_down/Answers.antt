use Rattle.std.specs.Result.{IfOk}
use Rattle.std.proofs.Common.{◌≡◌, ◌+◌, ◌-◌, ◌<◌, true, [], ◌∷◌, ◌++◌, length, Ok, sym, refl, ap, ◌∙◌, subst, arith, length-append}
use Rattle.std.proofs.lemmas.Bool.{false≢true}
use Rattle.bags.specs.Changes.{pushed_fits}
use Rattle.bags.specs.Items.{items_few}
use Rattle.bisimulation.specs.Lists.{lists_from}
use Rattle.bisimulation.specs.Verdicts.{obliges}
use Rattle.verdict.specs.Search.{bags_after, mover_of, other_of, related_by, Passed}
use Rattle.verdict.specs.ShortLists.{listed}
use Rattle.verdict.proofs.Walks.{open_bags, open_length, leaf_bags, past_bags, bags_length, pruned, full_obliges, passed_on, passed_stop, passed_none, one_list, leaf_passed, begun, counted_on, counted_stop}
use Rattle.verdict.proofs.walk.+first_open_go_down.Goals as goal

pub first_open-pass-requires-clause-room : goal.first_open-pass-requires-clause-room
first_open-pass-requires-clause-room g t c = omega (arith, c.requires.room, one_list ((other_of c.args.job.now).places - c.args.from) c.args.from c.args.left c.if-left-eq0.true)

pub first_open-returns-then-left-eq0 : goal.first_open-returns-then-left-eq0
first_open-returns-then-left-eq0 g t c =
    let j = c.args.job.now in
    let d = (other_of j).places - c.args.from in
    let pre = listed c.args.chosen in
    let known = c.requires.known c.if-left-eq0.true in
    let one : bags_after (mover_of j) (related_by j) j.t pre d c.args.from c.args.left ≡ pre ∷ [] = ap (λ s. bags_after (mover_of j) (related_by j) j.t pre d c.args.from s) c.if-left-eq0.true ∙ leaf_bags (mover_of j) (related_by j) j.t pre d c.args.from known in
    record {
      counted = subst (λ bags. IfOk c.pass.result (λ n. n ≡ c.args.count + length bags)) (sym one) c.pass.ensures.counted;
      passed = λ f told. leaf_passed j f pre d c.args.from c.args.left c.args.count c.pass.result c.if-left-eq0.true known (c.pass.ensures.passed f told);
    }

pub first_open-returns-then-from-places : goal.first_open-returns-then-from-places
first_open-returns-then-from-places g t c =
    let j = c.args.job.now in
    let e = past_bags (mover_of j) (related_by j) j.t (listed c.args.chosen) ((other_of j).places - c.args.from) c.args.from c.args.left (omega (arith, c.places.ensures, c.if-from-places.true)) (omega (arith, c.if-left-eq0.false)) in
    record {
      counted = omega (arith, ap length e);
      passed = λ f told. subst (λ bags. Passed j f c.args.count bags (Ok c.args.count)) (sym e) (passed_none j f c.args.count);
    }

pub first_open-go_down-requires : goal.first_open-go_down-requires
first_open-go_down-requires g t c κs within =
    let j = c.args.job.now in
    let d = (other_of j).places - c.args.from in
    let some : c.args.from < (other_of j).places = omega (arith, c.places.ensures, c.if-from-places.false) in (
      omega (arith, c.decreases, c.if-left-eq0.false),
      (within, (c.requires.callable, (omega (arith, c.requires.sized, c.if-left-eq0.false), omega (arith, c.requires.room, open_length d c.args.from c.args.left (omega (arith, some)) (omega (arith, c.if-left-eq0.false)))))),
    )

pub first_open-returns-in_err-seen : goal.first_open-returns-in_err-seen
first_open-returns-in_err-seen g t c =
    let j = c.args.job.now in
    let d = (other_of j).places - c.args.from in
    let pre = listed c.args.chosen in
    let split = open_bags (mover_of j) (related_by j) j.t pre d c.args.from c.args.left (omega (arith, c.places.ensures, c.if-from-places.false)) (omega (arith, c.if-left-eq0.false)) in
    record {
      counted = counted_stop c.from_residual.result _ _ c.from_residual.ensures.1;
      passed = λ f told. subst (λ bags. Passed j f c.args.count bags c.from_residual.result) (sym split) (passed_stop j f c.args.count _ _ c.from_residual.result _ c.from_residual.ensures.1 (c.in_err-seen.ensures.passed f told));
    }

pub first_open-first_open-requires : goal.first_open-first_open-requires
first_open-first_open-requires g t c κs within =
    let j = c.args.job.now in
    let d = (other_of j).places - c.args.from in
    let some : c.args.from < (other_of j).places = omega (arith, c.places.ensures, c.if-from-places.false) in
    let on : d - 1 ≡ (other_of j).places - (c.args.from + 1) = omega arith in (
      omega (arith, c.decreases, c.if-from-places.false, c.places.ensures),
      (
        within,
        (
          c.requires.callable,
          (
            c.requires.sized,
            (
              omega (arith, c.requires.room, c.in_ok-seen.ensures.counted, bags_length (mover_of j) (related_by j) j.t (listed c.args.chosen ++ c.args.from ∷ []) d c.args.from (c.args.left - 1), open_length d c.args.from c.args.left (omega (arith, some)) (omega (arith, c.if-left-eq0.false)), ap (λ k. length (lists_from k (c.args.from + 1) c.args.left)) on),
              λ e. absurd (omega (arith, c.if-left-eq0.false)),
            ),
          ),
        ),
      ),
    )

pub first_open-returns : goal.first_open-returns
first_open-returns g t c =
    let j = c.args.job.now in
    let d = (other_of j).places - c.args.from in
    let pre = listed c.args.chosen in
    let split = open_bags (mover_of j) (related_by j) j.t pre d c.args.from c.args.left (omega (arith, c.places.ensures, c.if-from-places.false)) (omega (arith, c.if-left-eq0.false)) in
    let on : d - 1 ≡ (other_of j).places - (c.args.from + 1) = omega arith in
    let later = ap (λ k. bags_after (mover_of j) (related_by j) j.t pre k (c.args.from + 1) c.args.left) on in
    let first = bags_after (mover_of j) (related_by j) j.t (pre ++ c.args.from ∷ []) d c.args.from (c.args.left - 1) in
    let second = bags_after (mover_of j) (related_by j) j.t pre (d - 1) (c.args.from + 1) c.args.left in
    record {
      counted = counted_on c.first_open.result c.args.count c.in_ok-seen.seen _ (length first) (length second) (ap length split ∙ length-append first second) c.in_ok-seen.ensures.counted (subst (λ bags. IfOk c.first_open.result (λ n. n ≡ c.in_ok-seen.seen + length bags)) (sym later) c.first_open.ensures.counted);
      passed = λ f told. subst (λ bags. Passed j f c.args.count bags c.first_open.result) (sym split) (passed_on j f c.args.count c.in_ok-seen.seen first second c.first_open.result (c.in_ok-seen.ensures.passed f told) (subst (λ bags. Passed j f c.in_ok-seen.seen bags c.first_open.result) (sym later) (c.first_open.ensures.passed f told)));
    }

pub go_down-returns-then-not-completes : goal.go_down-returns-then-not-completes
go_down-returns-then-not-completes g t c =
    let j = c.args.job.now in
    let pre = listed c.args.chosen ++ c.args.from ∷ [] in
    let pushed = pushed_fits 4 _ _ c.push.result _ c.push.ensures (omega (arith, c.requires.sized, items_few j.flows.takes)) in
    let same = begun j c.as_slice.result.now pre c.args.from (c.as_slice.ensures ∙ pushed) in
    let e = pruned (mover_of j) (related_by j) j.t pre ((other_of j).places - c.args.from) c.args.from c.args.left (λ comp. false≢true (c.if-not-completes.ensures.1 (same.1 comp))) in
    record {
      counted = omega (arith, ap length e);
      passed = λ f told. subst (λ bags. Passed j f c.args.count bags (Ok c.args.count)) (sym e) (passed_none j f c.args.count);
    }

pub go_down-first_open-requires : goal.go_down-first_open-requires
go_down-first_open-requires g t c κs within =
    let j = c.args.job.now in
    let pre = listed c.args.chosen ++ c.args.from ∷ [] in
    let pushed = pushed_fits 4 _ _ c.push.result _ c.push.ensures (omega (arith, c.requires.sized, items_few j.flows.takes)) in
    let same = begun j c.as_slice.result.now pre c.args.from (c.as_slice.ensures ∙ pushed) in
    let long : length pre ≡ length (listed c.args.chosen) + 1 = length-append (listed c.args.chosen) (c.args.from ∷ []) in (
      omega (arith, c.decreases),
      (
        within,
        (
          c.requires.callable,
          (
            omega (arith, c.requires.sized, ap length pushed, long),
            (
              c.requires.room,
              λ z. subst (λ p. obliges (mover_of j) (related_by j) j.t p ≡ true) (sym pushed) (full_obliges j pre c.args.from (omega (arith, long, c.requires.sized, z, ap length j.taken)) (same.0 (c.if-not-completes.ensures.0 refl))),
            ),
          ),
        ),
      ),
    )

pub go_down-returns : goal.go_down-returns
go_down-returns g t c =
    let j = c.args.job.now in
    let d = (other_of j).places - c.args.from in
    let pushed = pushed_fits 4 _ _ c.push.result _ c.push.ensures (omega (arith, c.requires.sized, items_few j.flows.takes)) in
    record {
      counted = subst (λ p. IfOk c.first_open.result (λ n. n ≡ c.args.count + length (bags_after (mover_of j) (related_by j) j.t p d c.args.from c.args.left))) pushed c.first_open.ensures.counted;
      passed = λ f told. subst (λ p. Passed j f c.args.count (bags_after (mover_of j) (related_by j) j.t p d c.args.from c.args.left) c.first_open.result) pushed (c.first_open.ensures.passed f told);
    }
