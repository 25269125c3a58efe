-- When a list of arc records passes, and the net that it means. Assumes nothing.
use Rattle.std.specs.Prelude.{ℕ, Bool, false, cond, not, ◌&&◌, List, length, take, ◌==◌, nat_le, nat_lt, slice_index}
use Rattle.std.specs.List.{list_all, enumerate_from, range_with_len}
use Rattle.places.specs.Sets.{size}
use Rattle.nets.specs.Meaning.{Meaning, least_output}
use Rattle.arc_lists.specs.Arcs.{weights, arc_bag, some_arc}
use Rattle.arc_lists.specs.declared.arc.Arc.{Arc}

-- the first stage: at most 16 places and at most 32 labels, one for each transition
abbrev pub limits_pass : ℕ → List ℕ → Bool
limits_pass P labels = nat_le P 16 && nat_le (length labels) 32

-- the kind is 0 (input), 1 (output) or 2 (inhibitor), and the weight is 1 to 4, an inhibitor's 1
abbrev pub weight_passes : Arc → Bool
weight_passes a = nat_le a.kind 2 && (nat_le 1 a.weight && nat_le a.weight (cond (a.kind == 2) 1 4))

-- one arc passes beside the arcs before it
abbrev pub arc_passes : ℕ → ℕ → List Arc → Arc → Bool
arc_passes P T before a = (nat_lt a.transition T && nat_lt a.place P) && (weight_passes a && not (some_arc a.kind a.transition a.place before))

-- the second stage: the arcs pass, each beside those before it
abbrev pub arcs_pass : ℕ → ℕ → List Arc → Bool
arcs_pass P T arcs = list_all (λ (x : ℕ × Arc). arc_passes P T (take x.0 arcs) x.1) (enumerate_from 0 arcs)

-- a sum is at least the least, and at most 4
abbrev pub in_range : ℕ → ℕ → Bool
in_range lowest n = nat_le lowest n && nat_le n 4

-- the input weights of t add up to 1 to 4, and its output weights to the least sum to 4
abbrev pub sums_fit : List Arc → ℕ → Bool
sums_fit arcs t = in_range 1 (size (arc_bag 0 arcs t)) && in_range least_output (size (arc_bag 1 arcs t))

-- the third stage: the sums fit at each transition below T
abbrev pub sums_pass : ℕ → List Arc → Bool
sums_pass T arcs = list_all (sums_fit arcs) (range_with_len 0 T)

-- a list passes: P places, the labels of its transitions, and its arcs
abbrev pub list_passes : ℕ → List ℕ → List Arc → Bool
list_passes P labels arcs = limits_pass P labels && (arcs_pass P (length labels) arcs && sums_pass (length labels) arcs)

-- the net of a list
abbrev pub arcs_meaning : ℕ → List ℕ → List Arc → Meaning
arcs_meaning P labels arcs = record {
  places = P;
  transitions = length labels;
  label = λ t. slice_index labels t;
  input = λ t p. weights 0 t p arcs;
  output = λ t p. weights 1 t p arcs;
  inhibits = λ t p. some_arc 2 t p arcs;
}

-- the net with no places and no transitions
abbrev pub nothing : Meaning
nothing = record {
  places = 0;
  transitions = 0;
  label = λ t. 0;
  input = λ t p. 0;
  output = λ t p. 0;
  inhibits = λ t p. false;
}

-- the net of a list that passes, and nothing for one that does not
abbrev pub list_meaning : ℕ → List ℕ → List Arc → Meaning
list_meaning P labels arcs = cond (list_passes P labels arcs) (arcs_meaning P labels arcs) nothing
