use Rattle.std.proofs.Common.{◌≡◌, ◌+◌, ◌∙◌, [], sym, refl, ap, unwrap_or, rules}
use Rattle.std.proofs.lemmas.Iterator.Consumers.{nth_from_yields_List}
use Rattle.lines.specs.Lines.{lines}
use Rattle.lines.specs.Listing.{lines_listed}
use Rattle.faults.specs.Faults.{line_from}
use Rattle.faults.proofs.Parts.{line_before}
use Rattle.faults.proofs.Finding.{line_nth, read_or}
use Rattle.faults.proofs.tokens.line_at.Goals as goal

pub returns-in_default : goal.returns-in_default
returns-in_default c = sym (line_before 1 c.args.number (lines c.args.text.now) (search rules))

pub returns : goal.returns
returns c =
    let n : c.args.number ≡ 1 + c.in-Some.before = search rules in
    ap (λ r. r.now) c.unwrap_or.ensures ∙ read_or c.nth.result _ refl ∙
    ap (λ o. unwrap_or o []) (nth_from_yields_List c.nth.result c.nth.new.self _ c.nth.ensures.ran (lines_listed c.of.result)) ∙
    sym (line_nth 1 c.in-Some.before c.args.number _ n) ∙ ap (line_from 1 c.args.number) c.of.ensures.lines
