use Rattle.std.proofs.Common.{◌∙◌, zero-add, ap, min, arith}
use Rattle.arc_lists.specs.Links.{weighs}
use Rattle.arc_lists.specs.declared.arc.Arc.{Arc}
use Rattle.arc_lists.proofs.Steps.{capped_filter}
use Rattle.arc_lists.proofs.reading.weight_of.Goals as goal

pub returns : goal.returns
returns c = c.add_up.ensures ∙ capped_filter (weighs c.args.link) (λ (a : Arc). a.weight) c.args.arcs.now 0 (omega arith) ∙ ap (λ n. min n 255) (zero-add _)
