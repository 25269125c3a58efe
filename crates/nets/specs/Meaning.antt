-- What a net means, and the limits that every net keeps. Assumes nothing.
use Rattle.std.specs.Prelude.{◌≡◌, ℕ, ◌^◌, ◌<◌, ◌≤◌, false}
use Rattle.places.specs.Bags.{Bag}
use Rattle.places.specs.Sets.{Subset, size}

-- a net, by its answers: how many places and transitions it has, and for each transition its label, its pre-set and
-- post-set (the input and the output weight at each place) and the set of places that inhibit it
pub record Meaning : Type 0 where
  pub places : ℕ
  pub transitions : ℕ
  pub label : ℕ → ℕ
  pub input : ℕ → Bag
  pub output : ℕ → Bag
  pub inhibits : ℕ → Subset

-- the least sum of the output weights of a transition
abbrev pub least_output : ℕ
least_output = 1

-- the limits: at most 16 places and 32 transitions; input weights that add up to 1 to 4 and output weights that add up
-- to at most 4; labels of 64 bits; 0 or nothing beyond the places and the transitions
pub record Limits (n : Meaning) : Type 0 where
  pub few_places : n.places ≤ 16
  pub few_transitions : n.transitions ≤ 32
  pub some_input : (t : ℕ) → t < n.transitions → 1 ≤ size (n.input t)
  pub few_inputs : (t : ℕ) → t < n.transitions → size (n.input t) ≤ 4
  pub some_output : (t : ℕ) → t < n.transitions → least_output ≤ size (n.output t)
  pub few_outputs : (t : ℕ) → t < n.transitions → size (n.output t) ≤ 4
  pub short_label : (t : ℕ) → n.label t < 2 ^ 64
  pub no_label : (t : ℕ) → n.transitions ≤ t → n.label t ≡ 0
  pub no_transition_input : (t p : ℕ) → n.transitions ≤ t → n.input t p ≡ 0
  pub no_transition_output : (t p : ℕ) → n.transitions ≤ t → n.output t p ≡ 0
  pub no_transition_inhibits : (t p : ℕ) → n.transitions ≤ t → n.inhibits t p ≡ false
  pub no_place_input : (t p : ℕ) → n.places ≤ p → n.input t p ≡ 0
  pub no_place_output : (t p : ℕ) → n.places ≤ p → n.output t p ≡ 0
  pub no_place_inhibits : (t p : ℕ) → n.places ≤ p → n.inhibits t p ≡ false
