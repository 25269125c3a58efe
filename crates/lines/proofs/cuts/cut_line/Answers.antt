use Rattle.std.proofs.Common.{◌==◌, ◌≡◌, not, rules, tests}
use Rattle.lines.specs.Counts.{before}
use Rattle.lines.proofs.Steps.{first_line}
use Rattle.lines.proofs.cuts.cut_line.Goals as goal

pub returns-clause-cut : goal.returns-clause-cut
returns-clause-cut c =
    let long : c.leading.result ≡ before 10 c.args.text.now = c.leading.ensures.value (λ x. not (x == 10)) (λ x r q. search (rules, tests)) in
    first_line _ (search rules) long c.split_at.ensures.front c.split_at.ensures.back c.past_first.ensures.value
