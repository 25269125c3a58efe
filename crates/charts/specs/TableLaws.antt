-- Laws of the tables of a chart: how its lists are read off them. Assumes nothing.
use Rattle.std.specs.Prelude.{◌≡◌, ℕ, ◌<◌, ◌≤◌, map, length, slice_index_or}
use Rattle.std.proofs.Common.{sym, ap, ◌∙◌, inl, inr, arith}
use Rattle.std.proofs.lemmas.List.{get_or-map, get_or_past, length-map}
use Rattle.std.proofs.lemmas.Simd.{map-map}
use Rattle.std.proofs.lemmas.Bool.{cases_lt}
use Rattle.charts.specs.Charts.{chart_view}
use Rattle.charts.specs.PlaceTables.{places_of}
use Rattle.charts.specs.Tables.{place_entry, transition_entry}
use Rattle.charts.specs.Views.{PlaceEntry, TransitionEntry, no_place, no_transition, marking_in, place_names_in, transition_at, transition_names, transition_names_in, label_names}
use Rattle.charts.specs.declared.chart.Chart.{Chart}
use Rattle.charts.specs.declared.place_table.Place.{Place}
use Rattle.charts.specs.declared.place_table.PlaceTable.{PlaceTable}
use Rattle.charts.specs.TransitionTables.{transitions_of}
use Rattle.charts.specs.declared.transition_table.Transition.{Transition}
use Rattle.charts.specs.declared.transition_table.TransitionTable.{TransitionTable}

-- the places of a table: how many, their names, and the marking of each
module _ (t : PlaceTable) where
  pub place_count : length (places_of t) ≡ length t.places.entries.items
  place_count = length-map t.places.entries.items place_entry

  pub places_few : length (places_of t) ≤ 16
  places_few = omega (arith, place_count, t.places.room)

  pub places_named : place_names_in (places_of t) ≡ map (λ (p : Place). p.name) t.places.entries.items
  places_named = map-map (λ (e : PlaceEntry). e.name) place_entry t.places.entries.items

  pub marked_at : (p : ℕ) (d : Place) → p < length t.places.entries.items → marking_in (places_of t) p ≡ (slice_index_or t.places.entries.items p d).marking
  marked_at p d l = ap (λ (e : PlaceEntry). e.marking) (get_or-map place_entry t.places.entries.items p d _ l)

  -- and at each place, also behind the last, where there is no token
  pub marked_anywhere : (p : ℕ) (d : Place) → d.marking ≡ 0 → marking_in (places_of t) p ≡ (slice_index_or t.places.entries.items p d).marking
  marked_anywhere p d none = elim (cases_lt p (length t.places.entries.items)) [
    | inl l ↦ marked_at p d l
    | inr g ↦
        let behind : marking_in (places_of t) p ≡ 0 = ap (λ (e : PlaceEntry). e.marking) (get_or_past (places_of t) p no_place (omega (arith, place_count))) in
        let by_default : (slice_index_or t.places.entries.items p d).marking ≡ d.marking = ap (λ (x : Place). x.marking) (get_or_past t.places.entries.items p d g) in
        behind ∙ sym none ∙ sym by_default
  ]

-- the names of a table of transitions
pub entries_named : (t : TransitionTable) → transition_names_in (transitions_of t) ≡ map (λ (x : Transition). x.name) t.transitions.entries.items
entries_named t = map-map (λ (e : TransitionEntry). e.name) transition_entry t.transitions.entries.items

-- the closed transitions of a chart: how many, each of them, what stands behind the last, their names and labels
module _ (c : Chart) where
  pub transition_count : length (chart_view c).transitions ≡ length c.transitions.transitions.entries.items
  transition_count = length-map c.transitions.transitions.entries.items transition_entry

  pub transitions_few : length (chart_view c).transitions ≤ 32
  transitions_few = omega (arith, transition_count, c.transitions.transitions.room)

  pub transition_there : (t : ℕ) (d : Transition) → t < length c.transitions.transitions.entries.items → transition_at (chart_view c) t ≡ transition_entry (slice_index_or c.transitions.transitions.entries.items t d)
  transition_there t d l = get_or-map transition_entry c.transitions.transitions.entries.items t d no_transition l

  pub transition_past : (t : ℕ) → length (chart_view c).transitions ≤ t → transition_at (chart_view c) t ≡ no_transition
  transition_past t g = get_or_past (chart_view c).transitions t no_transition g

  pub transitions_named : transition_names (chart_view c) ≡ map (λ (t : Transition). t.name) c.transitions.transitions.entries.items
  transitions_named = entries_named c.transitions

  pub labels_named : label_names (chart_view c) ≡ map (λ (t : Transition). t.label) c.transitions.transitions.entries.items
  labels_named = map-map (λ (e : TransitionEntry). e.label) transition_entry c.transitions.transitions.entries.items
