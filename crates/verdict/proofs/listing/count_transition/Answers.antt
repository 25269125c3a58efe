use Rattle.std.proofs.Common.{◌≡◌, ◌+◌, ◌-◌, true, length, Some, sym, ap, ◌∙◌, subst, arith, rules}
use native.Mathlib.Nat.{sub-zero}
use Rattle.bags.specs.Items.{items_few}
use Rattle.nets.specs.Tables.{table_meaning, table_limits}
use Rattle.bisimulation.specs.Verdicts.{obliges}
use Rattle.verdict.specs.Relating.{pairs_of}
use Rattle.verdict.specs.Search.{bags_after, bags_of, mover_of, other_of, related_by}
use Rattle.verdict.proofs.Halves.{all_bags, no_bags, none_obliges, few_lists}
use Rattle.verdict.proofs.Lists.{counted_all}
use Rattle.verdict.proofs.listing.count_transition.Goals as goal

pub returns-in_default : goal.returns-in_default
returns-in_default c =
    let h = c.args.half.now in
    omega (arith, ap length (no_bags (table_meaning h.mover.now) (table_meaning h.other.now) (pairs_of h.pairs) c.args.t c.in_default.ensures))

pub first_open-requires-clause-room : goal.first_open-requires-clause-room
first_open-requires-clause-room c =
    let j = c.in-Some.job in
    omega (arith, c.requires.room, few_lists ((other_of j).places - 0) c.len-size.result (omega (arith, (table_limits j.half.now.other.now).few_places)) (omega (arith, c.len-size.ensures, items_few j.flows.takes)))

pub first_open-requires-clause-known : goal.first_open-requires-clause-known
first_open-requires-clause-known c z =
    let j = c.in-Some.job in
    subst (λ p. obliges (mover_of j) (related_by j) j.t p ≡ true) (sym c.new.ensures) (none_obliges (mover_of j) (related_by j) j.t j.there (sym j.free) (sym (ap length j.taken) ∙ sym c.len-size.ensures ∙ z))

pub returns : goal.returns
returns c =
    let j = c.in-Some.job in
    let r = c.first_open.result in
    let d = (other_of j).places - 0 in
    let passed = c.first_open.ensures.passed (λ ys. Some 0) (λ x b q. search rules) in
    let bags = ap (λ p. bags_after (mover_of j) (related_by j) j.t p d 0 c.len-size.result) c.new.ensures ∙ all_bags (mover_of j) (other_of j) (related_by j) j.t c.len-size.result d (c.len-size.ensures ∙ ap length j.taken) (sub-zero (other_of j).places) in
    let own = counted_all j c.args.count _ r passed in
    c.unwrap_or.ensures ∙ own ∙ ap (λ bs. c.args.count + length bs) bags ∙ ap (λ k. c.args.count + length (bags_of j.half.now k)) c.in-Some.ensures.1 ∙ ap (λ h. c.args.count + length (bags_of h c.args.t)) c.in-Some.ensures.0
