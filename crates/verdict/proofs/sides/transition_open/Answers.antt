use Rattle.std.proofs.Common.{◌≡◌, ◌-◌, true, map, length, sym, ap, ◌∙◌, subst, arith, rules}
use native.Mathlib.Nat.{sub-zero}
use Rattle.bags.specs.Items.{items_few}
use Rattle.nets.specs.Tables.{table_meaning, table_limits}
use Rattle.bisimulation.specs.Verdicts.{obliges}
use Rattle.verdict.specs.Relating.{pairs_of}
use Rattle.verdict.specs.Results.{at}
use Rattle.verdict.specs.Search.{bags_after, bags_of, mover_of, other_of, related_by, JudgedFor, Passed}
use Rattle.verdict.proofs.Halves.{judged_by, judged_none, none_obliges, few_lists, lowest_for}
use Rattle.verdict.proofs.sides.transition_open.Goals as goal

pub returns-in_default : goal.returns-in_default
returns-in_default c =
    let h = c.args.half.now in
    judged_none h.side (table_meaning h.mover.now) (table_meaning h.other.now) (pairs_of h.pairs) c.args.t c.args.count c.in_default.ensures

pub first_open-requires-clause-room : goal.first_open-requires-clause-room
first_open-requires-clause-room c =
    let j = c.in-Some.job in
    omega (arith, c.requires.room, few_lists ((other_of j).places - 0) c.len-size.result (omega (arith, (table_limits j.half.now.other.now).few_places)) (omega (arith, c.len-size.ensures, items_few j.flows.takes)))

pub first_open-requires-clause-known : goal.first_open-requires-clause-known
first_open-requires-clause-known c z =
    let j = c.in-Some.job in
    subst (λ p. obliges (mover_of j) (related_by j) j.t p ≡ true) (sym c.new.ensures) (none_obliges (mover_of j) (related_by j) j.t j.there (sym j.free) (sym (ap length j.taken) ∙ sym c.len-size.ensures ∙ z))

pub returns : goal.returns
returns c =
    let j = c.in-Some.job in
    let r = c.first_open.result in
    let passed = subst (λ p. Passed j (lowest_for j) c.args.count (bags_after (mover_of j) (related_by j) j.t p ((other_of j).places - 0) 0 c.len-size.result) r) c.new.ensures (c.first_open.ensures.passed (lowest_for j) (λ x b q. search rules)) in
    let own = judged_by j c.len-size.result ((other_of j).places - 0) c.args.count r (c.len-size.ensures ∙ ap length j.taken) (sub-zero (other_of j).places) passed in
    subst (λ h. JudgedFor h c.args.count (map (at h.side c.args.t) (bags_of h c.args.t)) r) c.in-Some.ensures.0
    (subst (λ k. JudgedFor j.half.now c.args.count (map (at j.half.now.side k) (bags_of j.half.now k)) r) c.in-Some.ensures.1 own)
