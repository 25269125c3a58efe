-- The net of a list that passes keeps the limits of nets. Assumes nothing.
use Rattle.std.specs.Prelude.{◌≡◌, ℕ, zero, suc, ◌+◌, ◌^◌, ◌<◌, ◌≤◌, Bool, true, false, cond, not, ◌&&◌, ◌⊎◌, List, [], ◌∷◌, ◌++◌, length, ◌==◌, nat_le, nat_lt, slice_index, refl}
use Rattle.std.proofs.Common.{take, sym, ap, ◌∙◌, inl, inr, append_assoc, arith}
use Rattle.std.specs.List.{list_all, enumerate_from, range_with_len}
use Rattle.std.proofs.lemmas.List.{get_or_past, length_push, take-append-le, take_all}
use Rattle.std.proofs.lemmas.List.Sums.{sum_by-cons}
use Rattle.std.proofs.lemmas.Bool.{ltb-true, leb-true, and_parts, and_left, and_right, ne_eqb, or_from, cases_eq}
use Rattle.places.specs.Sets.{size}
use Rattle.nets.specs.Meaning.{Limits, least_output}
use Rattle.arc_lists.specs.Arcs.{arc_is, arc_weight, weights, arc_bag, some_arc}
use Rattle.arc_lists.specs.Lists.{limits_pass, weight_passes, arc_passes, arcs_pass, in_range, sums_fit, sums_pass, list_passes, arcs_meaning}
use Rattle.arc_lists.specs.declared.arc.Arc.{Arc}

-- beyond the transitions, or beyond the places
abbrev pub Beyond : ℕ → ℕ → ℕ → ℕ → Type 0
Beyond P T t p = (T ≤ t) ⊎ (P ≤ p)

not_there : (P T k t p : ℕ) (before : List Arc) (a : Arc) → arc_passes P T before a ≡ true → Beyond P T t p → arc_is k t p a ≡ false
not_there P T k t p before a e (inl g) =
    let inside = and_parts (nat_lt a.transition T) (nat_lt a.place P) (and_parts (nat_lt a.transition T && nat_lt a.place P) (weight_passes a && not (some_arc a.kind a.transition a.place before)) e).0 in
    let l = ltb-true a.transition T inside.0 in
    and_right (a.kind == k) (a.transition == t && a.place == p) (and_left (a.transition == t) (a.place == p) (ne_eqb a.transition t (λ s. omega arith)))
not_there P T k t p before a e (inr g) =
    let inside = and_parts (nat_lt a.transition T) (nat_lt a.place P) (and_parts (nat_lt a.transition T && nat_lt a.place P) (weight_passes a && not (some_arc a.kind a.transition a.place before)) e).0 in
    let l = ltb-true a.place P inside.1 in
    and_right (a.kind == k) (a.transition == t && a.place == p) (and_right (a.transition == t) (a.place == p) (ne_eqb a.place p (λ s. omega arith)))

-- the arcs pass, each beside those before it: read from the front, behind some arcs that were read before
unfoldable pub arcs_pass_after : ℕ → ℕ → List Arc → List Arc → Bool
arcs_pass_after P T before [] = true
arcs_pass_after P T before (a ∷ rest) = arc_passes P T before a && arcs_pass_after P T (before ++ a ∷ []) rest

-- each arc with its index passes beside those in front of it
pub passes_listed : (P T : ℕ) (before xs : List Arc) → list_all (λ (x : ℕ × Arc). arc_passes P T (take x.0 (before ++ xs)) x.1) (enumerate_from (length before) xs) ≡ arcs_pass_after P T before xs
unfolding arcs_pass_after
passes_listed P T before [] = refl
passes_listed P T before (a ∷ rest) =
    let front : take (length before) (before ++ a ∷ rest) ≡ before = take-append-le (length before) before (a ∷ rest) (omega arith) ∙ take_all (length before) before (omega arith) in
    let whole : (before ++ a ∷ []) ++ rest ≡ before ++ a ∷ rest = append_assoc before (a ∷ []) rest in
    ap (λ (f : List Arc). arc_passes P T f a && list_all (λ (x : ℕ × Arc). arc_passes P T (take x.0 (before ++ a ∷ rest)) x.1) (enumerate_from (length before + 1) rest)) front ∙
    ap (λ (ys : List Arc). arc_passes P T before a && list_all (λ (x : ℕ × Arc). arc_passes P T (take x.0 ys) x.1) (enumerate_from (length before + 1) rest)) (sym whole) ∙
    ap (λ n. arc_passes P T before a && list_all (λ (x : ℕ × Arc). arc_passes P T (take x.0 ((before ++ a ∷ []) ++ rest)) x.1) (enumerate_from n rest)) (sym (length_push before a)) ∙
    ap (λ b. arc_passes P T before a && b) (passes_listed P T (before ++ a ∷ []) rest)

-- no arc weighs anything there, and none inhibits
pub weight_after : (P T k t p : ℕ) (before arcs : List Arc) → arcs_pass_after P T before arcs ≡ true → Beyond P T t p → weights k t p arcs ≡ 0
unfolding arcs_pass_after
weight_after P T k t p before [] e g = refl
weight_after P T k t p before (a ∷ rest) e g =
    let both = and_parts (arc_passes P T before a) (arcs_pass_after P T (before ++ a ∷ []) rest) e in
    let here = ap (λ b. cond b a.weight 0) (not_there P T k t p before a both.0 g) in
    let later = weight_after P T k t p (before ++ a ∷ []) rest both.1 g in
    sum_by-cons (arc_weight k t p) a rest ∙ omega (arith, here, later)

pub arc_after : (P T k t p : ℕ) (before arcs : List Arc) → arcs_pass_after P T before arcs ≡ true → Beyond P T t p → some_arc k t p arcs ≡ false
unfolding arcs_pass_after
arc_after P T k t p before [] e g = refl
arc_after P T k t p before (a ∷ rest) e g =
    let both = and_parts (arc_passes P T before a) (arcs_pass_after P T (before ++ a ∷ []) rest) e in
    or_from (arc_is k t p a) (some_arc k t p rest) (not_there P T k t p before a both.0 g) (arc_after P T k t p (before ++ a ∷ []) rest both.1 g)

pub no_weight : (P T k t p : ℕ) (arcs : List Arc) → arcs_pass P T arcs ≡ true → Beyond P T t p → weights k t p arcs ≡ 0
no_weight P T k t p arcs e g = weight_after P T k t p [] arcs (sym (passes_listed P T [] arcs) ∙ e) g

pub no_arc : (P T k t p : ℕ) (arcs : List Arc) → arcs_pass P T arcs ≡ true → Beyond P T t p → some_arc k t p arcs ≡ false
no_arc P T k t p arcs e g = arc_after P T k t p [] arcs (sym (passes_listed P T [] arcs) ∙ e) g

-- a test that passes at each number of a range passes at a number in it
each_in_range : (f : ℕ → Bool) (a n t : ℕ) → list_all f (range_with_len a n) ≡ true → a ≤ t → t < a + n → f t ≡ true
each_in_range f a zero t e low high = absurd (omega arith)
each_in_range f a (suc n) t e low high =
    let both = and_parts (f a) (list_all f (range_with_len (a + 1) n)) e in
    elim (cases_eq t a) [
      | inl same ↦ ap f same ∙ both.0
      | inr other ↦ each_in_range f (a + 1) n t both.1 (omega arith) (omega arith)
    ]

-- the sums fit at each transition
pub sums_at : (T : ℕ) (arcs : List Arc) → sums_pass T arcs ≡ true → (t : ℕ) → t < T → sums_fit arcs t ≡ true
sums_at T arcs e t l = each_in_range (sums_fit arcs) 0 T t e (omega arith) (omega arith)

range_parts : (lowest n : ℕ) → in_range lowest n ≡ true → (lowest ≤ n) × (n ≤ 4)
range_parts lowest n e =
    let both = and_parts (nat_le lowest n) (nat_le n 4) e in
    (leb-true lowest n both.0, leb-true n 4 both.1)

pub inputs_fit : (arcs : List Arc) (t : ℕ) → sums_fit arcs t ≡ true → (1 ≤ size (arc_bag 0 arcs t)) × (size (arc_bag 0 arcs t) ≤ 4)
inputs_fit arcs t e = range_parts 1 (size (arc_bag 0 arcs t)) (and_parts (in_range 1 (size (arc_bag 0 arcs t))) (in_range least_output (size (arc_bag 1 arcs t))) e).0

pub outputs_fit : (arcs : List Arc) (t : ℕ) → sums_fit arcs t ≡ true → (least_output ≤ size (arc_bag 1 arcs t)) × (size (arc_bag 1 arcs t) ≤ 4)
outputs_fit arcs t e = range_parts least_output (size (arc_bag 1 arcs t)) (and_parts (in_range 1 (size (arc_bag 0 arcs t))) (in_range least_output (size (arc_bag 1 arcs t))) e).1

-- what passing says, stage by stage
pub record Passed (P : ℕ) (labels : List ℕ) (arcs : List Arc) : Type 0 where
  pub narrow : P ≤ 16
  pub low : length labels ≤ 32
  pub one_by_one : arcs_pass P (length labels) arcs ≡ true
  pub sums : sums_pass (length labels) arcs ≡ true

pub passed_parts : (P : ℕ) (labels : List ℕ) (arcs : List Arc) → list_passes P labels arcs ≡ true → Passed P labels arcs
passed_parts P labels arcs e =
    let outer = and_parts (limits_pass P labels) (arcs_pass P (length labels) arcs && sums_pass (length labels) arcs) e in
    let few = and_parts (nat_le P 16) (nat_le (length labels) 32) outer.0 in
    let inner = and_parts (arcs_pass P (length labels) arcs) (sums_pass (length labels) arcs) outer.1 in
    record { narrow = leb-true P 16 few.0; low = leb-true (length labels) 32 few.1; one_by_one = inner.0; sums = inner.1 }

-- theorem: the net of a list that passes, with labels of 64 bits, keeps the limits
pub arcs_limits : (P : ℕ) (labels : List ℕ) (arcs : List Arc) → list_passes P labels arcs ≡ true → ((t : ℕ) → slice_index labels t < 2 ^ 64) → Limits (arcs_meaning P labels arcs)
arcs_limits P labels arcs e short =
    let h = passed_parts P labels arcs e in
    record {
      few_places = h.narrow;
      few_transitions = h.low;
      some_input = λ t l. (inputs_fit arcs t (sums_at (length labels) arcs h.sums t l)).0;
      few_inputs = λ t l. (inputs_fit arcs t (sums_at (length labels) arcs h.sums t l)).1;
      some_output = λ t l. (outputs_fit arcs t (sums_at (length labels) arcs h.sums t l)).0;
      few_outputs = λ t l. (outputs_fit arcs t (sums_at (length labels) arcs h.sums t l)).1;
      short_label = short;
      no_label = λ t g. get_or_past labels t 0 g;
      no_transition_input = λ t p g. no_weight P (length labels) 0 t p arcs h.one_by_one (inl g);
      no_transition_output = λ t p g. no_weight P (length labels) 1 t p arcs h.one_by_one (inl g);
      no_transition_inhibits = λ t p g. no_arc P (length labels) 2 t p arcs h.one_by_one (inl g);
      no_place_input = λ t p g. no_weight P (length labels) 0 t p arcs h.one_by_one (inr g);
      no_place_output = λ t p g. no_weight P (length labels) 1 t p arcs h.one_by_one (inr g);
      no_place_inhibits = λ t p g. no_arc P (length labels) 2 t p arcs h.one_by_one (inr g);
    }
