use Rattle.std.proofs.Common.{◌≡◌, ◌∷◌, [], ◌++◌, List, map, sym, ap, ◌∙◌, arith}
use Rattle.std.proofs.lemmas.List.{map-append}
use Rattle.names.specs.Laws.{name_is_packed}
use Rattle.names.specs.Meanings.{number_of}
use Rattle.names.specs.Numbers.{is_packed}
use Rattle.places.specs.Sets.{size}
use Rattle.charts.specs.Naming.{has_name}
use Rattle.charts.specs.PlaceTables.{places_of}
use Rattle.charts.specs.TableLaws.{place_count, places_named}
use Rattle.charts.specs.Tables.{place_entry, listed_places}
use Rattle.charts.specs.Views.{PlaceEntry, marking_in}
use Rattle.charts.specs.declared.place_table.Place.{Place}
use Rattle.charts.proofs.Listed.{size_more}
use Rattle.charts.proofs.place_table.PlaceTable.push.Goals as goal

pub push-requires : goal.push-requires
push-requires c =
    let self = c.args.self.now in
    let new = ap (λ k. has_name k (map (λ (p : Place). p.name) self.places.entries.items)) c.number.ensures ∙ ap (has_name (number_of c.args.name)) (sym (places_named self)) ∙ c.requires.new in
    (omega arith, (omega (arith, c.requires.room, place_count self), (ap is_packed c.number.ensures ∙ name_is_packed c.args.name, new)))

pub invariant_of-self : goal.invariant_of-self
invariant_of-self c =
    let self = c.args.self.now in
    let ps = places_of self in
    let n = c.number.result in
    let e : PlaceEntry = record { name = n; marking = c.args.marking } in
    let more : listed_places c.push.new.self.entries.items ≡ ps ++ e ∷ [] = ap listed_places c.push.ensures ∙ map-append place_entry self.places.entries.items _ in
    record {
      total = omega (arith, self.total, ap (λ (es : List PlaceEntry). size (marking_in es)) more, size_more ps n c.args.marking c.requires.room);
      few = omega (arith, c.requires.few, self.total);
    }
