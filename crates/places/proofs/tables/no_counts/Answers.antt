use Rattle.std.proofs.Common.{refl, ap, ◌∙◌}
use Rattle.places.specs.Sets.{everywhere, size}
use Rattle.places.specs.Laws.{tokens_empty}
use Rattle.places.proofs.Steps.{no_counts}
use Rattle.places.proofs.tables.no_counts.Goals as goal

pub returns : goal.returns
returns c = record { long = refl; none = ap size no_counts ∙ tokens_empty 16 everywhere; value = no_counts }
