use Rattle.std.specs.List.{position}
use Rattle.std.proofs.Common.{◌≡◌, None, Some, true, sym, ap, ◌∙◌, subst}
use Rattle.bags.specs.Equality.{Removes}
use Rattle.bags.specs.Items.{items}
use Rattle.bags.proofs.Steps.{removes_from}
use Rattle.bags.proofs.sequence.Sequence.take_earliest.Goals as goal

pub returns-in_default : goal.returns-in_default
returns-in_default g c = removes_from (λ y. g.T.PartialEq.eq y c.args.x) (items c.args.self.now) None
    (sym c.in_default.is ∙ c.earliest.ensures ∙ ap (position (λ y. g.T.PartialEq.eq y c.args.x)) c.as_slice.ensures)

pub returns : goal.returns
returns g c = subst (Removes (λ y b. b ≡ g.T.PartialEq.eq y c.args.x) (items c.args.self.now) true) (sym c.close_gap.ensures)
    (removes_from (λ y. g.T.PartialEq.eq y c.args.x) (items c.args.self.now) (Some c.in-Some.i)
    (sym c.in-Some.is ∙ c.earliest.ensures ∙ ap (position (λ y. g.T.PartialEq.eq y c.args.x)) c.as_slice.ensures))
