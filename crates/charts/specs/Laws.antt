-- The laws of rows and charts that the crates above use. Assumes nothing.
use Rattle.std.specs.Prelude.{◌≡◌, ℕ, zero, suc, ◌+◌, ◌^◌, ◌<◌, ◌≤◌, Bool, true, false, not, ◌&&◌, ◌||◌, List, [], ◌∷◌, length, ◌==◌, nat_lt, refl}
use Rattle.std.specs.List.{list_all, range_with_len}
use Rattle.std.proofs.Common.{sym, ap, subst, ◌∙◌, arith, lit<}
use Rattle.std.proofs.Math.Logic.{inl, inr}
use Rattle.std.proofs.lemmas.List.{get_or_past}
use Rattle.std.proofs.lemmas.Bool.{cases_lt, cases_eq, and_parts, or_cases, not-true, eqb-true, ltb-true}
use Rattle.places.specs.Sets.{everywhere, size}
use Rattle.places.specs.Laws.{tokens_empty, set_placed}
use Rattle.nets.specs.Meaning.{Limits}
use Rattle.charts.specs.Charts.{chart_view, chart_meaning}
use Rattle.charts.specs.Naming.{AllNames, distinct}
use Rattle.charts.specs.PlaceTables.{places_of}
use Rattle.charts.specs.Rows.{RowView, empty_row, row_view, empty_at, empty_from}
use Rattle.charts.specs.Tables.{listed_transitions, entry_at}
use Rattle.charts.specs.TableLaws.{places_few, places_named, transitions_few, transition_past, transitions_named}
use Rattle.charts.specs.Views.{TransitionEntry, no_transition, transition_at, place_names, transition_names, label_names, declared_marking}
use Rattle.charts.specs.declared.row.ChartRow.{ChartRow}
use Rattle.charts.specs.declared.chart.Chart.{Chart}
use Rattle.charts.specs.declared.transition_table.Transition.{Transition}

-- what holds of every row of the code and of the empty row holds of the row at each number
every_row : (K : RowView → Type 0) → ((r : ChartRow) → K (row_view r)) → K empty_row → (ts : List Transition) (t : ℕ) → K (entry_at (listed_transitions ts) t).row
every_row K each none [] t = none
every_row K each none (x ∷ ts) zero = each x.row
every_row K each none (x ∷ ts) (suc t) = every_row K each none ts t

-- the weights of a row add up to at most 4, and lie on the places 0 to 15, as its inhibitors do
pub row_few_inputs : (r : ChartRow) → size (row_view r).inputs ≤ 4
row_few_inputs r = r.inputs.few

pub row_few_outputs : (r : ChartRow) → size (row_view r).outputs ≤ 4
row_few_outputs r = r.outputs.few

-- nothing above the place 15
Low : RowView → Type 0
Low r = (p : ℕ) → 16 ≤ p → (r.inputs p ≡ 0) × ((r.outputs p ≡ 0) × (r.inhibitors p ≡ false))

row_low : (r : ChartRow) → Low (row_view r)
unfolding Low
row_low r p l = (get_or_past r.inputs.counts p 0 (omega (arith, r.inputs.whole)), (get_or_past r.outputs.counts p 0 (omega (arith, r.outputs.whole)), set_placed r.inhibitors p l))

-- a test that passes at each number of a range passes at a number in it
each_in_range : (f : ℕ → Bool) (a n p : ℕ) → list_all f (range_with_len a n) ≡ true → a ≤ p → p < a + n → f p ≡ true
each_in_range f a zero p e low high = absurd (omega arith)
each_in_range f a (suc n) p e low high =
    let both = and_parts (f a) (list_all f (range_with_len (a + 1) n)) e in
    elim (cases_eq p a) [
      | inl same ↦ ap f same ∙ both.0
      | inr other ↦ each_in_range f (a + 1) n p both.1 (omega arith) (omega arith)
    ]

-- a row that is empty from P on has nothing at such a place
empty_there : (P k p : ℕ) (r : RowView) → empty_from P k r ≡ true → P ≤ p → p < k → empty_at r p ≡ true
unfolding empty_from
empty_there P k p r e g l = elim (or_cases (nat_lt p P) (empty_at r p) (each_in_range (λ q. nat_lt q P || empty_at r q) 0 k p e (omega arith) (omega arith))) [
  | inl low ↦ absurd (omega (arith, ltb-true p P low))
  | inr there ↦ there
]

module _ (c : Chart) where
  -- at most 16 places and 32 transitions, and declared markings of at most 64 together
  pub few_places : length (chart_view c).places ≤ 16
  few_places = places_few c.places

  pub few_transitions : length (chart_view c).transitions ≤ 32
  few_transitions = transitions_few c

  pub few_tokens : size (declared_marking (chart_view c)) ≤ 64
  few_tokens = omega (arith, c.places.total, c.places.few)

  -- names are names, no two places have the same, and no two closed transitions have the same; labels are names
  pub place_names_valid : AllNames (place_names (chart_view c))
  place_names_valid = subst AllNames (sym (places_named c.places)) c.places.places.named

  pub place_names_distinct : distinct (place_names (chart_view c)) ≡ true
  place_names_distinct = ap distinct (places_named c.places) ∙ c.places.places.apart

  pub transition_names_valid : AllNames (transition_names (chart_view c))
  transition_names_valid = subst AllNames (sym (transitions_named c)) c.transitions.transitions.named

  pub transition_names_distinct : distinct (transition_names (chart_view c)) ≡ true
  transition_names_distinct = ap distinct (transitions_named c) ∙ c.transitions.transitions.apart

  pub labels_valid : AllNames (label_names (chart_view c))
  labels_valid = c.transitions.labelled

  -- a row of a closed transition has nothing behind the last place
  clear_row : (t p : ℕ) → t < length (chart_view c).transitions → length (places_of c.places) ≤ p → ((transition_at (chart_view c) t).row.inputs p ≡ 0) × (((transition_at (chart_view c) t).row.outputs p ≡ 0) × ((transition_at (chart_view c) t).row.inhibitors p ≡ false))
  unfolding Low
  clear_row t p l g = elim (cases_lt p 16) [
    | inl low ↦
        let r : RowView = (transition_at (chart_view c) t).row in
        let h = and_parts (r.inputs p == 0) (r.outputs p == 0 && not (r.inhibitors p)) (empty_there (length (places_of c.places)) 16 p r (c.inside t l) g low) in
        let k = and_parts (r.outputs p == 0) (not (r.inhibitors p)) h.1 in
        (eqb-true (r.inputs p) 0 h.0, (eqb-true (r.outputs p) 0 k.0, not-true (r.inhibitors p) k.1))
    | inr high ↦ every_row Low row_low (λ q m. (refl, (refl, refl))) c.transitions.transitions.entries.items t p high
  ]

  -- what holds of the transition t, where it is closed and where it stands behind the last
  by_number : (K : TransitionEntry → Type 0) (t : ℕ) → (t < length (chart_view c).transitions → K (transition_at (chart_view c) t)) → K no_transition → K (transition_at (chart_view c) t)
  by_number K t there none = elim (cases_lt t (length (chart_view c).transitions)) [
    | inl l ↦ there l
    | inr g ↦ subst K (sym (transition_past c t g)) none
  ]

  -- the net of a chart keeps the limits
  pub chart_limits : Limits (chart_meaning c)
  chart_limits = record {
    few_places = few_places;
    few_transitions = few_transitions;
    some_input = c.transitions.takes;
    few_inputs = λ t l. every_row (λ r. size r.inputs ≤ 4) row_few_inputs (omega (arith, tokens_empty 16 everywhere)) c.transitions.transitions.entries.items t;
    some_output = c.transitions.gives;
    few_outputs = λ t l. every_row (λ r. size r.outputs ≤ 4) row_few_outputs (omega (arith, tokens_empty 16 everywhere)) c.transitions.transitions.entries.items t;
    short_label = λ t. by_number (λ e. e.label < 2 ^ 64) t (c.transitions.short t) (lit< tt);
    no_label = λ t g. ap (λ (e : TransitionEntry). e.label) (transition_past c t g);
    no_transition_input = λ t p g. ap (λ (e : TransitionEntry). e.row.inputs p) (transition_past c t g);
    no_transition_output = λ t p g. ap (λ (e : TransitionEntry). e.row.outputs p) (transition_past c t g);
    no_transition_inhibits = λ t p g. ap (λ (e : TransitionEntry). e.row.inhibitors p) (transition_past c t g);
    no_place_input = λ t p g. by_number (λ e. e.row.inputs p ≡ 0) t (λ l. (clear_row t p l g).0) refl;
    no_place_output = λ t p g. by_number (λ e. e.row.outputs p ≡ 0) t (λ l. (clear_row t p l g).1.0) refl;
    no_place_inhibits = λ t p g. by_number (λ e. e.row.inhibitors p ≡ false) t (λ l. (clear_row t p l g).1.1) refl;
  }
