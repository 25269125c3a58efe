-- The tables of a chart, read as lists of places and transitions. Assumes nothing.
use Rattle.std.specs.Prelude.{◌≡◌, ℕ, ◌^◌, ◌<◌, ◌≤◌, true, List, map, length, slice_index_or}
use Rattle.places.specs.Sets.{size}
use Rattle.nets.specs.Meaning.{least_output}
use Rattle.charts.specs.Rows.{row_view, declared_only}
use Rattle.charts.specs.Views.{PlaceEntry, TransitionEntry, no_transition}
use Rattle.charts.specs.declared.place_table.Place.{Place}
use Rattle.charts.specs.declared.transition_table.Transition.{Transition}

-- a place, and a transition
abbrev pub place_entry : Place → PlaceEntry
place_entry p = record { name = p.name; marking = p.marking }

abbrev pub transition_entry : Transition → TransitionEntry
transition_entry t = record { name = t.name; label = t.label; row = row_view t.row }

-- the places, and the transitions
abbrev pub listed_places : List Place → List PlaceEntry
listed_places ps = map place_entry ps

abbrev pub listed_transitions : List Transition → List TransitionEntry
listed_transitions ts = map transition_entry ts

-- the transition t of a list; what stands behind the last
abbrev pub entry_at : List TransitionEntry → ℕ → TransitionEntry
entry_at ts t = slice_index_or ts t no_transition

-- labels are of 64 bits
abbrev pub ShortLabels : List TransitionEntry → Type 0
ShortLabels ts = (t : ℕ) → t < length ts → (entry_at ts t).label < 2 ^ 64

-- the inputs of each transition add up to at least 1
abbrev pub Takes : List TransitionEntry → Type 0
Takes ts = (t : ℕ) → t < length ts → 1 ≤ size (entry_at ts t).row.inputs

-- the outputs of each add up to at least the least sum
abbrev pub Gives : List TransitionEntry → Type 0
Gives ts = (t : ℕ) → t < length ts → least_output ≤ size (entry_at ts t).row.outputs

-- each has weights and inhibitors only at the first P places
abbrev pub Inside : ℕ → List TransitionEntry → Type 0
Inside P ts = (t : ℕ) → t < length ts → declared_only P (entry_at ts t).row ≡ true
