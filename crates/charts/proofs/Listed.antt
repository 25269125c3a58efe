-- The steps of lists of places and of transitions.
use Rattle.std.proofs.Common.{◌≡◌, ℕ, ◌+◌, ◌<◌, ◌≤◌, Bool, true, false, cond, ◌||◌, ltb, leb, List, [], ◌∷◌, ◌++◌, length, is_ok, Ok, Err, sym, refl, ap, ◌∙◌, subst, inl, inr, arith}
use mathlib.Core.Path.{fun_ext}
use Rattle.std.specs.List.{list_all, range_with_len}
use Rattle.std.proofs.lemmas.List.{get_or_push, get_or_append_left, get_or_past, length_push}
use Rattle.std.proofs.lemmas.Bool.{cases_lt, cases_eq, false≢true, and_parts, and_from, or_cases, or_left, or_right, eq-eqb, ne_eqb, ltb-true, lt-ltb, leb-true}
use Rattle.places.specs.Sets.{size}
use Rattle.nets.specs.Meaning.{least_output}
use Rattle.charts.specs.Rows.{RowView, with_weight, empty_at, empty_from, declared_only}
use Rattle.charts.specs.Tables.{entry_at, Inside}
use Rattle.charts.specs.Views.{PlaceEntry, TransitionEntry, no_place, no_transition, marking_in, with_declared, row_closed_as}
use Rattle.charts.specs.declared.refusals.ChartRefusal.{ChartRefusal}
use Rattle.charts.proofs.Weighing.{size_with}

-- the markings of one place more
marked_more : (ps : List PlaceEntry) (n m : ℕ) → marking_in (with_declared ps n m) ≡ with_weight (marking_in ps) (length ps) m
marked_more ps n m = fun_ext (λ p. elim (cases_eq (length ps) p) [
  | inl e ↦
      let here = ap (λ (x : PlaceEntry). x.marking) (get_or_push ps (record { name = n; marking = m }) no_place p e) in
      let none = ap (λ (x : PlaceEntry). x.marking) (get_or_past ps p no_place (omega arith)) in
      let weight = ap (λ b. cond b m 0) (eq-eqb (length ps) p e) in
      omega (arith, here, none, weight)
  | inr other ↦
      let weight = ap (λ b. cond b m 0) (ne_eqb (length ps) p other) in
      elim (cases_lt p (length ps)) [
        | inl less ↦ omega (arith, weight, ap (λ (x : PlaceEntry). x.marking) (get_or_append_left ps (record { name = n; marking = m } ∷ []) no_place p less))
        | inr more ↦
            let past = ap (λ (x : PlaceEntry). x.marking) (get_or_past (with_declared ps n m) p no_place (omega (arith, length_push ps (record { name = n; marking = m })))) in
            omega (arith, weight, past, ap (λ (x : PlaceEntry). x.marking) (get_or_past ps p no_place more))
      ]
])

pub size_more : (ps : List PlaceEntry) (n m : ℕ) → length ps < 16 → size (marking_in (with_declared ps n m)) ≡ size (marking_in ps) + m
size_more ps n m l = ap size (marked_more ps n m) ∙ size_with (marking_in ps) (length ps) m l

-- what holds of each transition and of one more
pub each_more : (K : TransitionEntry → Type 0) (ts : List TransitionEntry) (e : TransitionEntry) → ((t : ℕ) → t < length ts → K (entry_at ts t)) → K e → (t : ℕ) → t < length (ts ++ e ∷ []) → K (entry_at (ts ++ e ∷ []) t)
each_more K ts e below here t l = elim (cases_lt t (length ts)) [
  | inl less ↦ subst K (sym (get_or_append_left ts (e ∷ []) no_transition t less)) (below t less)
  | inr more ↦ subst K (sym (get_or_push ts e no_transition t (omega (arith, length_push ts e)))) here
]

-- what passes at each element where one test does passes where a weaker one does
weaker : (f g : ℕ → Bool) → ((p : ℕ) → f p ≡ true → g p ≡ true) → (ps : List ℕ) → list_all f ps ≡ true → list_all g ps ≡ true
weaker f g h [] e = refl
weaker f g h (p ∷ ps) e = let both = and_parts (f p) (list_all f ps) e in and_from (g p) (list_all g ps) (h p both.0) (weaker f g h ps both.1)

-- over more places
empty_wider : (P Q k : ℕ) (r : RowView) → P ≤ Q → empty_from P k r ≡ true → empty_from Q k r ≡ true
unfolding empty_from
empty_wider P Q k r l e = weaker (λ p. ltb p P || empty_at r p) (λ p. ltb p Q || empty_at r p) (λ p h. elim (or_cases (ltb p P) (empty_at r p) h) [
  | inl low ↦ or_left (ltb p Q) (empty_at r p) (lt-ltb p Q (omega (arith, ltb-true p P low)))
  | inr there ↦ or_right (ltb p Q) (empty_at r p) there
]) (range_with_len 0 k) e

pub inside_wider : (P Q : ℕ) (ts : List TransitionEntry) → P ≤ Q → Inside P ts → Inside Q ts
inside_wider P Q ts l h t less = empty_wider P Q 16 (entry_at ts t).row l (h t less)

-- what holds of a row that may be closed
pub closing_fits : (P t : ℕ) (r : RowView) → is_ok (row_closed_as P t r) ≡ true → (declared_only P r ≡ true) × ((1 ≤ size r.inputs) × (least_output ≤ size r.outputs))
closing_fits P t r e =
    let h = all_three (declared_only P r) (leb 1 (size r.inputs)) (leb least_output (size r.outputs)) t _ _ _ e in
    (h.0, (leb-true 1 (size r.inputs) h.1, leb-true least_output (size r.outputs) h.2))
  where
    all_three : (a b c : Bool) (t : ℕ) (x y z : ChartRefusal) → is_ok (cond a (cond b (cond c (Ok t) (Err x)) (Err y)) (Err z)) ≡ true → (a ≡ true) × (b ≡ true) × (c ≡ true)
    all_three true true true t x y z e = (refl, refl, refl)
    all_three true true false t x y z e = absurd (false≢true e)
    all_three true false c t x y z e = absurd (false≢true e)
    all_three false b c t x y z e = absurd (false≢true e)
