use Rattle.std.proofs.Common.{◌≡◌, ◌+◌, length, ap, ◌∙◌, arith}
use Rattle.std.proofs.lemmas.List.{length_push}
use Rattle.charts.specs.PlaceTables.{places_of}
use Rattle.charts.specs.TransitionTables.{transitions_of}
use Rattle.charts.proofs.Listed.{inside_wider}
use Rattle.charts.proofs.chart.Chart.add_place.Goals as goal

pub invariant_of-self : goal.invariant_of-self
invariant_of-self c =
    let self = c.args.self.now in
    let more : length (places_of c.push.new.self) ≡ length (places_of self.places) + 1 = ap length c.push.ensures ∙ length_push (places_of self.places) _ in
    record {
      inside = inside_wider (length (places_of self.places)) (length (places_of c.push.new.self)) (transitions_of self.transitions) (omega (arith, more)) self.inside;
      room = self.room;
      unused = self.unused;
    }
