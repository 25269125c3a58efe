-- Tables of rows, a row for each transition. Assumes nothing.
use Rattle.std.specs.Prelude.{ℕ, ◌^◌, ◌<◌, ◌≤◌, false, cond, ◌&&◌, List, [], nat_lt, slice_index, slice_index_or}
use Rattle.std.proofs.Common.{ap}
use Rattle.std.proofs.lemmas.Bool.{le-ltb, and_left, and_right}
use Rattle.places.specs.Sets.{size}
use Rattle.nets.specs.Meaning.{Meaning, Limits, least_output}
use Rattle.nets.specs.declared.row.Row.{Row}

-- a row with no label, weights or inhibitors
abbrev pub blank : Row
blank = record { label = 0; inputs = []; outputs = []; inhibitors = [] }

abbrev pub row_at : List Row → ℕ → Row
row_at rows t = slice_index_or rows t blank

-- the net of the first rows, over the first places; nothing beyond them
abbrev pub tabled : ℕ → ℕ → List Row → Meaning
tabled places transitions rows = record {
  places = places;
  transitions = transitions;
  label = λ t. cond (nat_lt t transitions) (row_at rows t).label 0;
  input = λ t p. cond (nat_lt t transitions && nat_lt p places) (slice_index (row_at rows t).inputs p) 0;
  output = λ t p. cond (nat_lt t transitions && nat_lt p places) (slice_index (row_at rows t).outputs p) 0;
  inhibits = λ t p. cond (nat_lt t transitions && nat_lt p places) (slice_index_or (row_at rows t).inhibitors p false) false;
}

-- the rows keep the limits of sums and labels
abbrev pub InputsKept : ℕ → ℕ → List Row → Type 0
InputsKept places transitions rows = (t : ℕ) → t < transitions → (1 ≤ size ((tabled places transitions rows).input t)) × (size ((tabled places transitions rows).input t) ≤ 4)

abbrev pub OutputsKept : ℕ → ℕ → List Row → Type 0
OutputsKept places transitions rows = (t : ℕ) → t < transitions → (least_output ≤ size ((tabled places transitions rows).output t)) × (size ((tabled places transitions rows).output t) ≤ 4)

abbrev pub LabelsKept : ℕ → ℕ → List Row → Type 0
LabelsKept places transitions rows = (t : ℕ) → (tabled places transitions rows).label t < 2 ^ 64

-- so their net keeps all limits
pub tabled_limits : (places transitions : ℕ) (rows : List Row) → places ≤ 16 → transitions ≤ 32 → InputsKept places transitions rows → OutputsKept places transitions rows → LabelsKept places transitions rows → Limits (tabled places transitions rows)
tabled_limits places transitions rows few-p few-t ins outs labels = record {
  few_places = few-p;
  few_transitions = few-t;
  some_input = λ t l. (ins t l).0;
  few_inputs = λ t l. (ins t l).1;
  some_output = λ t l. (outs t l).0;
  few_outputs = λ t l. (outs t l).1;
  short_label = labels;
  no_label = λ t g. ap (λ b. cond b (row_at rows t).label 0) (le-ltb t transitions g);
  no_transition_input = λ t p g. ap (λ b. cond b (slice_index (row_at rows t).inputs p) 0) (and_left (nat_lt t transitions) (nat_lt p places) (le-ltb t transitions g));
  no_transition_output = λ t p g. ap (λ b. cond b (slice_index (row_at rows t).outputs p) 0) (and_left (nat_lt t transitions) (nat_lt p places) (le-ltb t transitions g));
  no_transition_inhibits = λ t p g. ap (λ b. cond b (slice_index_or (row_at rows t).inhibitors p false) false) (and_left (nat_lt t transitions) (nat_lt p places) (le-ltb t transitions g));
  no_place_input = λ t p g. ap (λ b. cond b (slice_index (row_at rows t).inputs p) 0) (and_right (nat_lt t transitions) (nat_lt p places) (le-ltb p places g));
  no_place_output = λ t p g. ap (λ b. cond b (slice_index (row_at rows t).outputs p) 0) (and_right (nat_lt t transitions) (nat_lt p places) (le-ltb p places g));
  no_place_inhibits = λ t p g. ap (λ b. cond b (slice_index_or (row_at rows t).inhibitors p false) false) (and_right (nat_lt t transitions) (nat_lt p places) (le-ltb p places g));
}
