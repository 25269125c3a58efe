use Rattle.std.proofs.Common.{min, ap, ◌∙◌}
use Rattle.arc_lists.specs.Arcs.{weights}
use Rattle.arc_lists.specs.Links.{role_number}
use Rattle.arc_lists.proofs.Steps.{weights_few, capped_is, role_low}
use Rattle.arc_lists.proofs.list.weighing.listed_weight.Goals as goal

pub returns : goal.returns
returns c =
    let l = c.args.list.now in
    let k = role_number c.args.role in
    c.weight_of.ensures ∙
    ap (λ n. min (weights n c.args.transition c.args.place l.arcs.now) 255) c.into.ensures ∙
    capped_is (weights k c.args.transition c.args.place l.arcs.now) (weights_few l.places l.labels.now l.arcs.now k c.args.transition c.args.place l.passed (role_low c.args.role))
