-- The highest place that is related to a place.
use Rattle.std.specs.List.{fold, range_with_len, list_all}
use Rattle.std.proofs.Common.{◌≡◌, ℕ, zero, suc, ◌+◌, ◌-◌, ◌<◌, ◌≤◌, Bool, true, false, cond, ◌&&◌, T, ltb, ◌⊎◌, ◌↔◌, List, [], ◌∷◌, length, get_or, sym, refl, ap, ◌∙◌, subst, inl, inr, arith}
use Rattle.std.proofs.lemmas.List.{get_or_past}
use Rattle.std.proofs.lemmas.List.Sums.{fold-append}
use Rattle.std.proofs.lemmas.Bool.{cases_eq, cases_lt, both_ways, and_from, and_parts, and_right, ltb-true, lt-ltb}
use Rattle.places.specs.Sets.{PlaceRelation}
use Rattle.places.specs.Meanings.{relation_of}
use Rattle.places.specs.Laws.{relation_placed}
use Rattle.places.specs.declared.Side.{Side}
use Rattle.places.specs.declared.Side.TheVariants.{Left, Right}
use Rattle.pairing.specs.Laws.{T_of, of_T, range_to}
use Rattle.verdict.specs.Relating.{facing, inside, pairs_of, Topped}
use Rattle.verdict.specs.Search.{AllReach}
use Rattle.verdict.specs.declared.pairs.Pairs.{Pairs}

-- no pair has a place above 15
pub pairs_placed : (s : Pairs) (p q : ℕ) → (16 ≤ p) ⊎ (16 ≤ q) → T (pairs_of s p q) → ⊥
pairs_placed s p q h t = both_ways (pairs_of s p q) (go s.from h) (of_T (pairs_of s p q) t)
  where
    out : (a b : ℕ) → (16 ≤ a) ⊎ (16 ≤ b) → inside s.left s.right (relation_of s.relation.now) a b ≡ false
    out a b g = and_right (ltb a s.left) (ltb b s.right && relation_of s.relation.now a b) (and_right (ltb b s.right) (relation_of s.relation.now a b) (relation_placed s.relation.now a b g))

    swap : (16 ≤ p) ⊎ (16 ≤ q) → (16 ≤ q) ⊎ (16 ≤ p)
    swap (inl l) = inr l
    swap (inr l) = inl l

    go : (side : Side) → (16 ≤ p) ⊎ (16 ≤ q) → facing side (inside s.left s.right (relation_of s.relation.now)) p q ≡ false
    go Left g = out p q g
    go Right g = out q p (swap g)

-- the highest of the places below k
record TopBelow (R : PlaceRelation) (p k top : ℕ) : Type 0 where
  below : (q : ℕ) → q < k → T (R p q) → q < top
  reached : (q : ℕ) → q + 1 ≡ top → T (R p q)
  low : top ≤ k

abbrev pub top_of : PlaceRelation → ℕ → ℕ → ℕ
top_of R p k = fold (λ top q. cond (R p q) (q + 1) top) 0 (range_with_len 0 k)

top_step : (R : PlaceRelation) (p k : ℕ) → top_of R p (suc k) ≡ cond (R p k) (k + 1) (top_of R p k)
top_step R p k = ap (fold (λ top q. cond (R p q) (q + 1) top) 0) (range_to k) ∙ fold-append (λ top q. cond (R p q) (q + 1) top) 0 (range_with_len 0 k) (k ∷ [])

top_below : (R : PlaceRelation) (p k : ℕ) → TopBelow R p k (top_of R p k)
top_below R p zero = record { below = λ q l. absurd (omega arith); reached = λ q e. absurd (omega arith); low = omega arith }
top_below R p (suc k) = subst (TopBelow R p (suc k)) (sym (top_step R p k)) (go (R p k) refl (top_below R p k))
  where
    go : (b : Bool) → R p k ≡ b → TopBelow R p k (top_of R p k) → TopBelow R p (suc k) (cond b (k + 1) (top_of R p k))
    go true e h = record {
      below = λ q l r. omega arith;
      reached = λ q s. let same : k ≡ q = omega arith in subst (λ i. T (R p i)) same (T_of (R p k) e);
      low = omega arith;
    }
    go false e h = record {
      below = λ q l r. elim (cases_eq q k) [ inl s ↦ absurd (both_ways (R p k) e (of_T (R p k) (subst (λ i. T (R p i)) s r))) | inr n ↦ h.below q (omega arith) r ];
      reached = h.reached;
      low = omega (arith, h.low);
    }

-- a table of them
pub topped : (s : Pairs) (tops : List ℕ) → ((p : ℕ) → p < 16 → get_or tops p 0 ≡ top_of (pairs_of s) p 16) → Topped (pairs_of s) tops
topped s tops at = (
  λ p q l r. elim (cases_lt q 16) [
    | inl low ↦ subst (λ k. q < k) (sym (at p l)) ((top_below (pairs_of s) p 16).below q low r)
    | inr high ↦ absurd (pairs_placed s p q (inr high) r)
  ],
  λ p q l g. (top_below (pairs_of s) p 16).reached q (g ∙ at p l),
)

-- whether a place is related to one that is not below lo
reach_is : (s : Pairs) (tops : List ℕ) → Topped (pairs_of s) tops → length tops ≡ 16 → (p lo : ℕ) → (ltb lo (get_or tops p 0) ≡ true) ↔ ((q : ℕ) × ((lo ≤ q) × T (pairs_of s p q)))
reach_is s tops h long p lo = elim (cases_lt p 16) [
  | inl l ↦ (
    λ e. let less = ltb-true lo (get_or tops p 0) e in (get_or tops p 0 - 1, (omega arith, h.1 p (get_or tops p 0 - 1) l (omega arith))),
    λ w. lt-ltb lo (get_or tops p 0) (omega (arith, h.0 p w.0 l w.1.1, w.1.0)),
  )
  | inr l ↦ (
    λ e. absurd (omega (arith, ltb-true lo (get_or tops p 0) e, get_or_past tops p 0 (omega (arith, long)))),
    λ w. absurd (pairs_placed s p w.0 (inl l) w.1.1),
  )
]

-- and whether all places of a list are
pub all_reach : (s : Pairs) (tops : List ℕ) → Topped (pairs_of s) tops → length tops ≡ 16 → (lo : ℕ) (xs : List ℕ) → (list_all (λ p. ltb lo (get_or tops p 0)) xs ≡ true) ↔ AllReach (pairs_of s) lo xs
all_reach s tops h long lo [] = (λ e. tt, λ w. refl)
all_reach s tops h long lo (x ∷ xs) =
    let here = reach_is s tops h long x lo in
    let rest = all_reach s tops h long lo xs in (
      λ e. let both = and_parts (ltb lo (get_or tops x 0)) (list_all (λ p. ltb lo (get_or tops p 0)) xs) e in (here.0 both.0, rest.0 both.1),
      λ w. and_from (ltb lo (get_or tops x 0)) (list_all (λ p. ltb lo (get_or tops p 0)) xs) (here.1 w.0) (rest.1 w.1),
    )
