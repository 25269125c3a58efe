use Rattle.std.proofs.Common.{◌∙◌}
use Rattle.arc_lists.specs.Arcs.{arc_bag}
use Rattle.arc_lists.specs.Links.{role_number}
use Rattle.arc_lists.proofs.Steps.{capped_bag}
use Rattle.arc_lists.proofs.reading.weight_sum.Goals as goal

pub returns : goal.returns
returns c = c.add_up_places.ensures ∙ capped_bag (arc_bag (role_number c.args.role) c.args.arcs.now c.args.transition) 16
