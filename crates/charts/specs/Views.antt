-- Charts, by their lists of places and transitions. Assumes nothing.
use Rattle.std.specs.Prelude.{ℕ, ◌+◌, cond, List, [], ◌∷◌, ◌++◌, map, length, get_or, Some, None, Ok, Err, Option, Result, nat_le, nat_lt, slice_index_or}
use Rattle.std.specs.Option.{option_map}
use Rattle.places.specs.Bags.{Bag}
use Rattle.places.specs.Sets.{size}
use Rattle.nets.specs.Meaning.{Meaning, least_output}
use Rattle.charts.specs.Naming.{has_name}
use Rattle.charts.specs.Rows.{RowView, empty_row, declared_only}
use Rattle.nets.specs.declared.role.Role.{Role}
use Rattle.nets.specs.declared.role.Role.TheVariants.{Input, Output}
use Rattle.charts.specs.declared.refusals.ChartRefusal.{ChartRefusal}
use Rattle.charts.specs.declared.refusals.ChartRefusal.TheVariants.{Marking, DeclaredAgain, NotDeclared, TooManyPlaces, TooManyTokens, TooManyTransitions, Sum}

-- a place: the number of its name, and its declared marking
pub record PlaceEntry : Type 0 where
  pub name : ℕ
  pub marking : ℕ

-- a transition: the number of its name, its label, and its row
pub record TransitionEntry : Type 0 where
  pub name : ℕ
  pub label : ℕ
  pub row : RowView

-- a chart: its places, its closed transitions, and the transition that is open, if one is
pub record View : Type 0 where
  pub places : List PlaceEntry
  pub transitions : List TransitionEntry
  pub opened : Option TransitionEntry

-- the chart with nothing in it
abbrev pub empty_view : View
empty_view = record { places = []; transitions = []; opened = None }

-- what stands behind the last place, and behind the last transition
abbrev pub no_place : PlaceEntry
no_place = record { name = 0; marking = 0 }

abbrev pub no_transition : TransitionEntry
no_transition = record { name = 0; label = 0; row = empty_row }

abbrev pub transition_at : View → ℕ → TransitionEntry
transition_at v t = slice_index_or v.transitions t no_transition

-- the names of some places, and of some transitions
abbrev pub place_names_in : List PlaceEntry → List ℕ
place_names_in ps = map (λ (e : PlaceEntry). e.name) ps

abbrev pub transition_names_in : List TransitionEntry → List ℕ
transition_names_in ts = map (λ (e : TransitionEntry). e.name) ts

-- the labels of some transitions
abbrev pub label_names_in : List TransitionEntry → List ℕ
label_names_in ts = map (λ (e : TransitionEntry). e.label) ts

-- the names of the places of a chart, of its closed transitions, and the labels of these
abbrev pub place_names : View → List ℕ
place_names v = place_names_in v.places

abbrev pub transition_names : View → List ℕ
transition_names v = transition_names_in v.transitions

abbrev pub label_names : View → List ℕ
label_names v = label_names_in v.transitions

-- the marking that places declare, 0 behind the last
abbrev pub marking_in : List PlaceEntry → Bag
marking_in ps p = (get_or ps p no_place).marking

-- the marking that a chart declares
abbrev pub declared_marking : View → Bag
declared_marking v = marking_in v.places

-- the net of a chart: its closed transitions
abbrev pub view_meaning : View → Meaning
view_meaning v = record {
  places = length v.places;
  transitions = length v.transitions;
  label = λ t. (transition_at v t).label;
  input = λ t. (transition_at v t).row.inputs;
  output = λ t. (transition_at v t).row.outputs;
  inhibits = λ t. (transition_at v t).row.inhibitors;
}

-- the answer where a place of this name is declared with this marking behind others: its number; or the first of these
-- that does not hold: the marking is at most 64, no place has the name, there are fewer than 16 places, and the declared
-- markings are at most 64 together
abbrev pub place_declared_as : List PlaceEntry → ℕ → ℕ → Result ℕ ChartRefusal
place_declared_as ps name marking = cond (nat_le marking 64) (cond (has_name name (place_names_in ps)) (Err DeclaredAgain) (cond (nat_lt (length ps) 16) (cond (nat_le (size (marking_in ps) + marking) 64) (Ok (length ps)) (Err TooManyTokens)) (Err TooManyPlaces))) (Err Marking)

abbrev pub declared_as : View → ℕ → ℕ → Result ℕ ChartRefusal
declared_as v name marking = place_declared_as v.places name marking

-- places with one more behind them
abbrev pub with_declared : List PlaceEntry → ℕ → ℕ → List PlaceEntry
with_declared ps name marking = ps ++ record { name = name; marking = marking } ∷ []

-- the chart with one place more
abbrev pub with_new_place : View → ℕ → ℕ → View
with_new_place v name marking = record { places = with_declared v.places name marking; transitions = v.transitions; opened = v.opened }

-- the answer where a transition of this name is opened: the number that it will have; or the first of these that does
-- not hold: no closed transition has the name, and there are fewer than 32 of them
abbrev pub opened_as : View → ℕ → Result ℕ ChartRefusal
opened_as v name = cond (has_name name (transition_names v)) (Err DeclaredAgain) (cond (nat_lt (length v.transitions) 32) (Ok (length v.transitions)) (Err TooManyTransitions))

-- the chart with this transition open, its row empty; what was open before is given up
abbrev pub with_open : View → ℕ → ℕ → View
with_open v name label = record { places = v.places; transitions = v.transitions; opened = Some (record { name = name; label = label; row = empty_row }) }

-- the chart with another row of the open transition
abbrev pub with_row : View → RowView → View
with_row v row = record { places = v.places; transitions = v.transitions; opened = option_map (λ (e : TransitionEntry). record { name = e.name; label = e.label; row = row }) v.opened }

-- the weights of a row in a role
abbrev pub row_weights : RowView → Role → Bag
row_weights row Input = row.inputs
row_weights row Output = row.outputs

-- the answer where the weights of a row in a role are to be enough: they add up to at least 1
abbrev pub sum_checked_as : Role → RowView → Result (Unit {0}) ChartRefusal
sum_checked_as role row = cond (nat_le 1 (size (row_weights row role))) (Ok tt) (Err (Sum role))

-- the answer where a row is to be closed over P places as the transition t: t; or the first of these that does not
-- hold: all its places are declared, its inputs add up to at least 1, and its outputs to at least the least sum
abbrev pub row_closed_as : ℕ → ℕ → RowView → Result ℕ ChartRefusal
row_closed_as P t row = cond (declared_only P row) (cond (nat_le 1 (size row.inputs)) (cond (nat_le least_output (size row.outputs)) (Ok t) (Err (Sum Output))) (Err (Sum Input))) (Err NotDeclared)

-- the answer where the open transition is to be closed; where none is open, nothing goes in
abbrev pub closes_as : ℕ → ℕ → Option TransitionEntry → Result ℕ ChartRefusal
closes_as P t None = Err (Sum Input)
closes_as P t (Some e) = row_closed_as P t e.row

abbrev pub closed_as : View → Result ℕ ChartRefusal
closed_as v = closes_as (length v.places) (length v.transitions) v.opened

-- the transitions with the open one behind them, if one is open
abbrev pub with_last : List TransitionEntry → Option TransitionEntry → List TransitionEntry
with_last ts None = ts
with_last ts (Some e) = ts ++ e ∷ []

-- the chart with the open transition closed
abbrev pub with_closed : View → View
with_closed v = record { places = v.places; transitions = with_last v.transitions v.opened; opened = None }
