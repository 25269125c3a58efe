-- The left places that a search in vain has reached, and the marked places of a bag.
use Rattle.std.proofs.Common.{◌≡◌, ℕ, ◌+◌, ◌<◌, ◌≤◌, true, false, ltb, List, sym, ap, ◌∙◌, subst, inl, inr, arith}
use Rattle.std.proofs.lemmas.Bool.{both_ways, cases_eq, cases_lt, lt-ltb, le-ltb, false≢true}
use Rattle.places.specs.Bags.{Bag}
use Rattle.places.specs.Sets.{Subset, nowhere, with_place, Placed}
use Rattle.places.specs.Laws.{with_here, with_keeps, with_other, with_only}
use Rattle.pairing.specs.Search.{left_end, right_end, Reached}

pub reached_start : (xs : List (ℕ × ℕ)) (seen : Subset) (p : ℕ) → p < 16 → Reached xs seen p 0 (with_place nowhere p)
reached_start xs seen p l = record {
  start = with_here nowhere p l;
  ends_seen = λ k lk e. absurd (omega arith);
  only = λ i e. elim (with_only nowhere p i e) [ inl h ↦ inl (sym h) | inr h ↦ absurd (false≢true h) ];
}

pub reached_skip : {xs : List (ℕ × ℕ)} {seen S : Subset} {p k : ℕ} → seen (right_end xs k) ≡ false → Reached xs seen p k S → Reached xs seen p (k + 1) S
reached_skip {xs} {seen} {S} {p} {k} nay h = record {
  start = h.start;
  ends_seen = λ j l e. elim (cases_eq j k) [
    | inl q ↦ absurd (both_ways (seen (right_end xs k)) nay (subst (λ i. seen (right_end xs i) ≡ true) q e))
    | inr n ↦ h.ends_seen j (omega arith) e
  ];
  only = λ i e. elim (h.only i e) [ inl q ↦ inl q | inr w ↦ inr (w.0, (omega (arith, w.1.0), w.1.1, w.1.2)) ];
}

pub reached_mark : {xs : List (ℕ × ℕ)} {seen S : Subset} {p k : ℕ} → seen (right_end xs k) ≡ true → left_end xs k < 16 → Reached xs seen p k S → Reached xs seen p (k + 1) (with_place S (left_end xs k))
reached_mark {xs} {seen} {S} {p} {k} is low h = record {
  start = with_keeps S (left_end xs k) p h.start;
  ends_seen = λ j l e. elim (cases_eq j k) [
    | inl q ↦ subst (λ i. with_place S (left_end xs k) (left_end xs i) ≡ true) (sym q) (with_here S (left_end xs k) low)
    | inr n ↦ with_keeps S (left_end xs k) (left_end xs j) (h.ends_seen j (omega arith) e)
  ];
  only = λ i e. elim (with_only S (left_end xs k) i e) [
    | inl q ↦ inr (k, (omega arith, is, q))
    | inr f ↦ elim (h.only i f) [ inl q ↦ inl q | inr w ↦ inr (w.0, (omega (arith, w.1.0), w.1.1, w.1.2)) ]
  ];
}

-- the set has exactly the marked places below p
pub record Marks (m : Bag) (S : Subset) (p : ℕ) : Type 0 where
  pub below : (i : ℕ) → i < p → S i ≡ ltb 0 (m i)
  pub above : (i : ℕ) → p ≤ i → S i ≡ false

pub marks_none : (m : Bag) (S : Subset) → S ≡ nowhere → Marks m S 0
marks_none m S e = record { below = λ i l. absurd (omega arith); above = λ i l. ap (λ T. T i) e }

pub marks_skip : {m : Bag} {S : Subset} {p : ℕ} → m p ≡ 0 → Marks m S p → Marks m S (p + 1)
marks_skip {m} {S} {p} none h = record {
  below = λ i l. elim (cases_eq p i) [
    | inl e ↦ h.above i (omega arith) ∙ sym (le-ltb 0 (m i) (omega (arith, ap m e)))
    | inr n ↦ h.below i (omega arith)
  ];
  above = λ i l. h.above i (omega arith);
}

pub marks_more : {m : Bag} {S : Subset} {p : ℕ} → p < 16 → 0 < m p → Marks m S p → Marks m (with_place S p) (p + 1)
marks_more {m} {S} {p} low some h = record {
  below = λ i l. elim (cases_eq p i) [
    | inl e ↦ ap (with_place S p) (sym e) ∙ with_here S p low ∙ sym (lt-ltb 0 (m i) (omega (arith, ap m e)))
    | inr n ↦ with_other S p i n ∙ h.below i (omega arith)
  ];
  above = λ i l. with_other S p i (λ e. omega arith) ∙ h.above i (omega arith);
}

pub marks_all : {m : Bag} {S : Subset} {p : ℕ} → Placed m → 16 ≤ p → Marks m S p → (i : ℕ) → S i ≡ ltb 0 (m i)
marks_all {m} {S} {p} zm l h i = elim (cases_lt i p) [
  | inl k ↦ h.below i k
  | inr k ↦ h.above i k ∙ sym (le-ltb 0 (m i) (omega (arith, zm i (omega arith))))
]
