-- The laws of bags and sets of places that the crates above use. Assumes nothing.
use Rattle.std.specs.Prelude.{◌≡◌, ℕ, zero, suc, ◌+◌, ◌-◌, ◌<◌, ◌≤◌, Bool, true, false, cond, ◌&&◌, ◌⊎◌, [], get_or, ◌==◌, ◌≢◌, nat_lt, slice_index_or, refl}
use Rattle.std.proofs.Common.{sym, ap, ◌∙◌, inl, inr, arith, add-one}
use Rattle.std.proofs.Math.Path.{fun_ext}
use Rattle.std.proofs.lemmas.Bool.{cases_eq, cases_lt, eq-eqb, ne_eqb, lt-ltb, le-ltb, and_from, and_right}
use Rattle.places.specs.Bags.{Bag, empty, single, ◌⊕◌, ◌⊖◌}
use Rattle.places.specs.Sets.{Subset, everywhere, tokens_below, size, Placed, with_place}
use Rattle.places.specs.Meanings.{bag_of, set_of, relation_of}
use Rattle.places.specs.declared.place_bag.PlaceBag.{PlaceBag}
use Rattle.places.specs.declared.place_set.PlaceSet.{PlaceSet}
use Rattle.places.specs.declared.relation.Relation.{Relation}
use Rattle.std.proofs.lemmas.List.{get_or_past}

pub single_same : (a : ℕ) → single a a ≡ 1
single_same a = ap (λ b. cond b 1 0) (eq-eqb a a refl)

pub single_other : (a p : ℕ) → (a ≢ p) → single a p ≡ 0
single_other a p n = ap (λ b. cond b 1 0) (ne_eqb a p n)

-- a bag that has a token on r has the lone token
pub single_le : (m : Bag) (r k : ℕ) → 0 < m r → single r k ≤ m k
single_le m r k some = elim (cases_eq r k) [
  | inl e ↦ omega (arith, ap m e, ap (λ i. single r i) (sym e), single_same r)
  | inr n ↦ omega (arith, single_other r k n)
]

-- one place more
pub tokens_more : (k : ℕ) (S : Subset) (m : Bag) → tokens_below (k + 1) S m ≡ tokens_below k S m + cond (S k) (m k) 0
unfolding tokens_below
tokens_more k S m = rw add-one refl

pub tokens_none : (S : Subset) (m : Bag) → tokens_below 0 S m ≡ 0
unfolding tokens_below
tokens_none S m = refl

pub tokens_empty : (k : ℕ) (S : Subset) → tokens_below k S empty ≡ 0
unfolding tokens_below
tokens_empty zero S = refl
tokens_empty (suc k) S = omega (arith, tokens_empty k S, here (S k))
  where
    here : (b : Bool) → ◌≡◌ {A = ℕ} (cond b 0 0) 0
    here true = refl
    here false = refl

pub tokens_sum : (k : ℕ) (S : Subset) (m n : Bag) → tokens_below k S (m ⊕ n) ≡ tokens_below k S m + tokens_below k S n
unfolding tokens_below
tokens_sum zero S m n = refl
tokens_sum (suc k) S m n = omega (arith, tokens_sum k S m n, here (S k))
  where
    here : (b : Bool) → cond b (m k + n k) 0 ≡ cond b (m k) 0 + cond b (n k) 0
    here true = refl
    here false = refl

-- from place to place
pub tokens_le : (k : ℕ) (A B : Subset) (m n : Bag) → ((i : ℕ) → i < k → cond (A i) (m i) 0 ≤ cond (B i) (n i) 0) → tokens_below k A m ≤ tokens_below k B n
unfolding tokens_below
tokens_le zero A B m n h = omega arith
tokens_le (suc k) A B m n h = omega (arith, tokens_le k A B m n (λ i l. h i (omega arith)), h k (omega arith))

-- a place of the set has no more tokens than the set
pub tokens_at : (k : ℕ) (S : Subset) (m : Bag) (i : ℕ) → i < k → S i ≡ true → m i ≤ tokens_below k S m
unfolding tokens_below
tokens_at zero S m i l e = omega arith
tokens_at (suc k) S m i l e = elim (cases_eq i k) [
  | inl p ↦ omega (arith, ap m p, ap (λ b. cond b (m k) 0) (ap S (sym p) ∙ e))
  | inr n ↦ omega (arith, tokens_at k S m i (omega arith) e)
]

cond_none : (b : Bool) (n : ℕ) → n ≡ 0 → cond b n 0 ≡ 0
cond_none true n e = e
cond_none false n e = refl

tokens_beyond : (k : ℕ) (S : Subset) (a : ℕ) → k ≤ a → tokens_below k S (single a) ≡ 0
unfolding tokens_below
tokens_beyond zero S a l = refl
tokens_beyond (suc k) S a l = omega (arith, tokens_beyond k S a (omega arith), cond_none (S k) (single a k) (single_other a k (λ e. omega arith)))

-- a lone token counts one, where its place is in the set and below k, and else nothing
pub tokens_single : (k : ℕ) (S : Subset) (a : ℕ) → a < k → tokens_below k S (single a) ≡ cond (S a) 1 0
unfolding tokens_below
tokens_single zero S a l = absurd (omega arith)
tokens_single (suc k) S a l = elim (cases_eq a k) [
  | inl p ↦ omega (arith, tokens_beyond k S a (omega arith), ap (λ i. cond (S i) (single a i) 0) (sym p), ap (λ n. cond (S a) n 0) (single_same a))
  | inr n ↦ omega (arith, tokens_single k S a (omega arith), cond_none (S k) (single a k) (single_other a k n))
]

pub tokens_single_le : (k : ℕ) (S : Subset) (a : ℕ) → tokens_below k S (single a) ≤ cond (S a) 1 0
unfolding tokens_below
tokens_single_le zero S a = omega arith
tokens_single_le (suc k) S a = elim (cases_eq a k) [
  | inl p ↦ omega (arith, tokens_beyond k S a (omega arith), ap (λ i. cond (S i) (single a i) 0) (sym p), ap (λ n. cond (S a) n 0) (single_same a))
  | inr n ↦ omega (arith, tokens_single_le k S a, cond_none (S k) (single a k) (single_other a k n))
]

-- one token more, one token less
pub size_plus : (m : Bag) (i : ℕ) → i < 16 → size (single i ⊕ m) ≡ size m + 1
size_plus m i l = omega (arith, tokens_sum 16 everywhere (single i) m, tokens_single 16 everywhere i l)

-- a token put back where one was taken
pub put_back : (m : Bag) (i : ℕ) → 0 < m i → single i ⊕ (m ⊖ single i) ≡ m
put_back m i some = fun_ext (λ k. here k (cases_eq i k))
  where
    here : (k : ℕ) → (i ≡ k) ⊎ (i ≢ k) → cond (i == k) 1 0 + (m k - cond (i == k) 1 0) ≡ m k
    here k (inl e) = omega (arith, ap (λ b. cond b (suc 0) 0) (eq-eqb i k e), ap m e)
    here k (inr n) = omega (arith, ap (λ b. cond b (suc 0) 0) (ne_eqb i k n))

pub size_less : (m : Bag) (i : ℕ) → i < 16 → 0 < m i → size (m ⊖ single i) + 1 ≡ size m
size_less m i l some = sym (size_plus (m ⊖ single i) i l) ∙ ap size (put_back m i some)

-- the set with one place more
pub with_here : (S : Subset) (a : ℕ) → a < 16 → with_place S a a ≡ true
with_here S a l = ap (λ b. cond b true (S a)) (and_from (nat_lt a 16) (a == a) (lt-ltb a 16 l) (eq-eqb a a refl))

pub with_keeps : (S : Subset) (a p : ℕ) → S p ≡ true → with_place S a p ≡ true
with_keeps S a p e = here (nat_lt a 16 && a == p)
  where
    here : (b : Bool) → cond b true (S p) ≡ true
    here true = refl
    here false = e

pub with_other : (S : Subset) (a p : ℕ) → (a ≢ p) → with_place S a p ≡ S p
with_other S a p n = ap (λ b. cond b true (S p)) (and_right (nat_lt a 16) (a == p) (ne_eqb a p n))

pub with_only : (S : Subset) (a p : ℕ) → with_place S a p ≡ true → (a ≡ p) ⊎ (S p ≡ true)
with_only S a p e = elim (cases_eq a p) [ inl h ↦ inl h | inr n ↦ inr (sym (with_other S a p n) ∙ e) ]

-- a bag of the code has at most 64 tokens, on the places 0 to 15; a set of the code has only such places
pub bag_few : (b : PlaceBag) → size (bag_of b) ≤ 64
bag_few b = b.few

pub bag_placed : (b : PlaceBag) → Placed (bag_of b)
bag_placed b p l = get_or_past b.counts p 0 (omega (arith, b.whole))

pub set_placed : (s : PlaceSet) (p : ℕ) → 16 ≤ p → set_of s p ≡ false
set_placed s p l = ap (λ b. cond b (slice_index_or s.flags p false) false) (le-ltb p 16 l)

-- a relation of the code has only such places
pub relation_placed : (r : Relation) (p q : ℕ) → (16 ≤ p) ⊎ (16 ≤ q) → relation_of r p q ≡ false
relation_placed r p q (inl l) = ap (λ row. get_or row q false) (get_or_past r.rows p [] (omega (arith, r.square.0)))
relation_placed r p q (inr l) = elim (cases_lt p 16) [
  | inl low ↦ get_or_past (slice_index_or r.rows p []) q false (omega (arith, r.square.1 p low))
  | inr high ↦ ap (λ row. get_or row q false) (get_or_past r.rows p [] (omega (arith, r.square.0)))
]
