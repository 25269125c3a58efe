use Rattle.std.proofs.Common.{sym, ap, ◌∙◌, arith}
use Rattle.places.specs.Sets.{everywhere, size}
use Rattle.places.specs.Laws.{tokens_empty}
use Rattle.charts.specs.Tables.{listed_places}
use Rattle.charts.specs.Views.{marking_in}
use Rattle.charts.proofs.place_table.PlaceTable.new.Goals as goal

pub invariant_of-result : goal.invariant_of-result
invariant_of-result c = record {
  total = sym (ap (λ ps. size (marking_in (listed_places ps))) c.new.ensures ∙ tokens_empty 16 everywhere);
  few = omega arith;
}
