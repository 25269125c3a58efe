use Rattle.std.proofs.Common.{◌==◌, ◌≡◌, not, arith, rules, tests}
use Rattle.lines.specs.Counts.{before, leads}
use Rattle.lines.proofs.Steps.{next_none, next_some, nothing_left}
use Rattle.lines.proofs.cuts.cut_word.Goals as goal

pub returns-then-long-eq0 : goal.returns-then-long-eq0
returns-then-long-eq0 c =
    let gap : c.leading-gap.result ≡ leads 32 c.args.cursor.rest.now = c.leading-gap.ensures.value (λ x. x == 32) (λ x r q. search (rules, tests)) in
    let long : c.leading-long.result ≡ before 32 c.split_at.result.1.now = c.leading-long.ensures.value (λ x. not (x == 32)) (λ x r q. search (rules, tests)) in (
      next_none _ _ gap c.split_at.ensures.back long c.split_at-2.ensures.front c.split_at-2.ensures.back c.if-long-eq0.true,
      nothing_left c.args.cursor.rest.now gap c.split_at.ensures.back long c.split_at-2.ensures.back c.if-long-eq0.true,
    )

pub returns-else-long-eq0 : goal.returns-else-long-eq0
returns-else-long-eq0 c =
    let gap : c.leading-gap.result ≡ leads 32 c.args.cursor.rest.now = c.leading-gap.ensures.value (λ x. x == 32) (λ x r q. search (rules, tests)) in
    let long : c.leading-long.result ≡ before 32 c.split_at.result.1.now = c.leading-long.ensures.value (λ x. not (x == 32)) (λ x r q. search (rules, tests)) in
    (next_some _ _ gap c.split_at.ensures.back long c.split_at-2.ensures.front c.split_at-2.ensures.back (omega arith), search rules)
