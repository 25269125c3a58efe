-- The steps of weights.
use Rattle.std.proofs.Common.{◌≡◌, ℕ, zero, suc, ◌+◌, ◌<◌, ◌≤◌, cond, List, length, get_or, sum, take, add-one, set, replicate, sym, refl, ap, ◌∙◌, inl, inr, arith}
use mathlib.Core.Path.{fun_ext}
use Rattle.std.proofs.lemmas.List.{get_or-set_same, get_or-set_other, get_or-replicate, get_or_past, length-replicate, take_all}
use Rattle.std.proofs.lemmas.List.Sums.{sum_by_more}
use Rattle.std.proofs.lemmas.Bool.{cases_eq, cases_lt, eq-eqb, ne_eqb}
use Rattle.places.specs.Bags.{Bag, empty}
use Rattle.places.specs.Sets.{everywhere, tokens_below, size}
use Rattle.places.specs.Laws.{tokens_empty, tokens_more, tokens_sum}
use Rattle.places.specs.Tables.{counted}
use Rattle.charts.specs.Rows.{weighted, with_weight}

pub no_weights : counted (replicate 16 0) ≡ empty
no_weights = fun_ext (λ p. elim (cases_lt p 16) [
  | inl l ↦ get_or-replicate 16 p 0 0 l
  | inr g ↦ get_or_past (replicate 16 0) p 0 (omega (arith, length-replicate {A = ℕ} 16 0))
])

pub no_marking : (p : ℕ) → counted (replicate 16 0) p ≡ 0
no_marking p = ap (λ (m : Bag). m p) no_weights

pub nothing_weighs : size (counted (replicate 16 0)) ≡ 0
nothing_weighs = ap size no_weights ∙ tokens_empty 16 everywhere

-- the tokens of a table of counts are the sum of its counts
front_sum : (l : List ℕ) (k : ℕ) → k ≤ length l → tokens_below k everywhere (counted l) ≡ sum (take k l)
unfolding tokens_below
front_sum l zero h = refl
front_sum l (suc k) h =
    ap (λ n. tokens_below n everywhere (counted l)) (sym (add-one k)) ∙
    tokens_more k everywhere (counted l) ∙
    ap (λ n. n + get_or l k 0) (front_sum l k (omega arith)) ∙
    sym (sum_by_more (λ x. x) l k 0 (omega arith)) ∙
    ap (λ n. sum (take n l)) (add-one k)

pub counts_sum : (l : List ℕ) → length l ≡ 16 → size (counted l) ≡ sum l
counts_sum l e = front_sum l 16 (omega arith) ∙ ap sum (take_all 16 l (omega arith))

weighted_same : (a w : ℕ) → weighted a w a ≡ w
weighted_same a w = ap (λ b. cond b w 0) (eq-eqb a a refl)

weighted_other : (a w p : ℕ) → (a ≡ p → ⊥) → weighted a w p ≡ 0
weighted_other a w p n = ap (λ b. cond b w 0) (ne_eqb a p n)

weighted_beyond : (k a w : ℕ) → k ≤ a → tokens_below k everywhere (weighted a w) ≡ 0
unfolding tokens_below
weighted_beyond zero a w l = refl
weighted_beyond (suc k) a w l = omega (arith, weighted_beyond k a w (omega arith), weighted_other a w k (λ e. omega arith))

weighted_below : (k a w : ℕ) → a < k → tokens_below k everywhere (weighted a w) ≡ w
unfolding tokens_below
weighted_below zero a w l = absurd (omega arith)
weighted_below (suc k) a w l = elim (cases_eq a k) [
  | inl e ↦ omega (arith, weighted_beyond k a w (omega arith), ap (weighted a w) (sym e), weighted_same a w)
  | inr n ↦ omega (arith, weighted_below k a w (omega arith), weighted_other a w k n)
]

-- a weight more
pub size_with : (m : Bag) (a w : ℕ) → a < 16 → size (with_weight m a w) ≡ size m + w
size_with m a w l = omega (arith, tokens_sum 16 everywhere (weighted a w) m, weighted_below 16 a w l)

-- a weight written where there was none
pub weight_set : (l : List ℕ) (a w : ℕ) → a < length l → get_or l a 0 ≡ 0 → counted (set l a w) ≡ with_weight (counted l) a w
weight_set l a w less none = fun_ext (λ p. elim (cases_eq a p) [
  | inl e ↦
      let here : get_or (set l a w) p 0 ≡ w = ap (λ q. get_or (set l a w) q 0) (sym e) ∙ get_or-set_same l a w 0 less in
      let old : get_or l p 0 ≡ 0 = ap (λ q. get_or l q 0) (sym e) ∙ none in
      let new : weighted a w p ≡ w = ap (weighted a w) (sym e) ∙ weighted_same a w in
      omega arith
  | inr n ↦
      let here : get_or (set l a w) p 0 ≡ get_or l p 0 = get_or-set_other l a p w 0 (λ e. n (sym e)) in
      let new : weighted a w p ≡ 0 = weighted_other a w p n in
      omega arith
])
