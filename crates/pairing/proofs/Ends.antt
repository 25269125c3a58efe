-- The two ends of the search: all tokens are paired, or a set outnumbers the places related to it.
use Rattle.std.proofs.Common.{◌≡◌, ◌≢◌, ◌⊎◌, ℕ, suc, ◌+◌, ◌-◌, ◌<◌, ◌≤◌, Bool, true, false, cond, ◌&&◌, T, eqb, List, [], ◌∷◌, length, sym, refl, ap, ◌∙◌, subst, inl, inr, arith}
use Rattle.std.proofs.lemmas.Bool.{cases_eq, cases_lt, and_parts, eq-eqb, ne_eqb}
use Rattle.std.proofs.lemmas.List.Sums.{sum_by-cons, get_or-le-sum_by}
use Rattle.places.specs.Bags.{Bag, single, ◌⊕◌}
use Rattle.places.specs.Sets.{Subset, PlaceRelation, everywhere, tokens_on, size, Placed}
use Rattle.places.specs.Laws.{single_same, tokens_empty, tokens_sum, tokens_le, tokens_at}
use Rattle.pairing.specs.Closure.{lefts, rights, AllIn, Pairing}
use Rattle.pairing.specs.Outnumbering.{beside, Outnumbers}
use Rattle.pairing.specs.Search.{starts, ends, left_end, right_end, unpaired, Held, Blocked, Going, Reached, PairedBelow, PairedOf, ShortOf, Fails}
use Rattle.pairing.specs.Laws.{some_is}
use Rattle.pairing.proofs.Counting.{carry}
use Rattle.pairing.proofs.Steps.{PlacedOn}

lefts_are : (xs : List (ℕ × ℕ)) (p : ℕ) → lefts xs p ≡ starts xs p
lefts_are [] p = refl
lefts_are (x ∷ xs) p = omega (arith, lefts_are xs p, sum_by-cons (λ y. cond (eqb y.0 p) 1 0) x xs)

rights_are : (xs : List (ℕ × ℕ)) (q : ℕ) → rights xs q ≡ ends xs q
rights_are [] q = refl
rights_are (x ∷ xs) q = omega (arith, rights_are xs q, sum_by-cons (λ y. cond (eqb y.1 q) 1 0) x xs)

-- the right ends in A are no more than the left ends in B, if each pair that ends in A starts in B
carried : (A B : Subset) (xs : List (ℕ × ℕ)) → ((k : ℕ) → k < length xs → A (right_end xs k) ≡ true → B (left_end xs k) ≡ true) → ((k : ℕ) → k < length xs → left_end xs k < 16) → tokens_on A (rights xs) ≤ tokens_on B (lefts xs)
carried A B [] h l = omega (arith, tokens_empty 16 A, tokens_empty 16 B)
carried A B (x ∷ xs) h l = carry A B x.1 x.0 (rights xs) (lefts xs) (h 0 (omega arith)) (l 0 (omega arith))
    (carried A B xs (λ k e. h (suc k) (omega arith)) (λ k e. l (suc k) (omega arith)))

-- and the other way round, of all pairs
carried_all : (xs : List (ℕ × ℕ)) → ((k : ℕ) → k < length xs → right_end xs k < 16) → size (lefts xs) ≤ size (rights xs)
carried_all [] l = omega (arith, tokens_empty 16 everywhere)
carried_all (x ∷ xs) l = carry everywhere everywhere x.0 x.1 (lefts xs) (rights xs) (λ _. refl) (l 0 (omega arith)) (carried_all xs (λ k e. l (suc k) (omega arith)))

-- p and the left ends of the pairs at seen places outnumber the places related to them
pub outnumbered : {R : PlaceRelation} {m n : Bag} {xs ys : List (ℕ × ℕ)} {p : ℕ} {rest free left : Bag} {seen : Subset} (S : Subset)
    → Going R m n xs rest free p → p < 16 → 0 < rest p → Blocked R xs free p 16 ys left seen → Reached xs seen p (length xs) S → Outnumbers R m n S
outnumbered {R} {m} {n} {xs} {ys} {p} {rest} {free} {left} {seen} S g lp some b h =
    omega (arith, few, carried seen S xs h.ends_seen g.held.low, more, tokens_sum 16 S (lefts xs) rest, tokens_at 16 S rest p lp h.start)
  where
    confined : (i q : ℕ) → S i ≡ true → q < 16 → R i q ≡ true → seen q ≡ true
    confined i q e l r = elim (h.only i e) [
      | inl w ↦ b.tried q l (subst (λ a. R a q ≡ true) w r)
      | inr w ↦ (b.stuck (right_end xs w.0) w.1.1).holders w.0 q w.1.0 refl l (subst (λ a. R a q ≡ true) (sym w.1.2) r)
    ]

    near : (i : ℕ) → i < 16 → beside R S i ≡ true → seen i ≡ true
    near i l e = let w = some_is (λ k. S k && R k i) 16 e in let f = and_parts (S w.0) (R w.0 i) w.1.1 in confined w.0 i f.0 l f.1

    part : (i : ℕ) → i < 16 → (v : Bool) → beside R S i ≡ v → cond v (n i) 0 ≤ cond (seen i) (rights xs i) 0
    part i l true e = omega (arith, g.rights_and_free i, (b.stuck i (near i l e)).taken, rights_are xs i, ap (λ v. cond v (rights xs i) 0) (near i l e))
    part i l false e = omega arith

    few : tokens_on (beside R S) n ≤ tokens_on seen (rights xs)
    few = tokens_le 16 (beside R S) seen n (rights xs) (λ i l. part i l (beside R S i) refl)

    more : tokens_on S (lefts xs ⊕ rest) ≤ tokens_on S m
    more = tokens_le 16 S S (lefts xs ⊕ rest) m (λ i l. omega (arith, ap (λ v. cond (S i) v 0) (ap (λ v. v + rest i) (lefts_are xs i) ∙ g.lefts_and_rest i)))

-- each place that was reached holds a token of m
pub reached_marked : {R : PlaceRelation} {m n : Bag} {xs : List (ℕ × ℕ)} {p : ℕ} {rest free : Bag} {seen : Subset} (S : Subset)
    → Going R m n xs rest free p → 0 < rest p → Reached xs seen p (length xs) S → (i : ℕ) → S i ≡ true → 0 < m i
reached_marked {R} {m} {n} {xs} {p} {rest} {free} {seen} S g some h i e = elim (h.only i e) [
  | inl w ↦ omega (arith, g.lefts_and_rest i, ap rest w)
  | inr w ↦ omega (arith, g.lefts_and_rest i, get_or-le-sum_by (λ x. cond (eqb x.0 i) 1 0) xs w.0 (0, 0) w.1.0, single_same i, ap (λ a. single a i) w.1.2)
]

all_in : (R : PlaceRelation) (xs : List (ℕ × ℕ)) → ((k : ℕ) → k < length xs → R (left_end xs k) (right_end xs k) ≡ true) → AllIn R xs
all_in R [] h = tt
all_in R (x ∷ xs) h = (subst T (sym (h 0 (omega arith))) tt, all_in R xs (λ k e. h (suc k) (omega arith)))

pub all_paired : {R : PlaceRelation} {m n : Bag} {xs : List (ℕ × ℕ)} {p : ℕ} {rest free : Bag} → Placed m → Placed n → size m ≡ size n → 16 ≤ p → Going R m n xs rest free p → Pairing R m n xs
all_paired {R} {m} {n} {xs} {p} {rest} {free} zm zn even all g = record { related = all_in R xs g.held.fits; left_ends = left; right_ends = right }
  where
    none_left : (k : ℕ) → rest k ≡ 0
    none_left k = elim (cases_lt k 16) [ inl l ↦ g.done k (omega arith) | inr l ↦ omega (arith, g.lefts_and_rest k, zm k l) ]

    left : (p : ℕ) → lefts xs p ≡ m p
    left p = omega (arith, lefts_are xs p, g.lefts_and_rest p, none_left p)

    sum : size (rights xs ⊕ free) ≤ size n
    sum = tokens_le 16 everywhere everywhere (rights xs ⊕ free) n (λ i l. omega (arith, rights_are xs i, g.rights_and_free i))

    most : size m ≤ size (lefts xs)
    most = tokens_le 16 everywhere everywhere m (lefts xs) (λ i l. omega (arith, left i))

    none_free : (k : ℕ) → free k ≡ 0
    none_free k = elim (cases_lt k 16) [
      | inl l ↦ omega (arith, tokens_at 16 everywhere free k l refl, tokens_sum 16 everywhere (rights xs) free, sum, most, carried_all xs g.held.high, even)
      | inr l ↦ omega (arith, g.rights_and_free k, zn k l)
    ]

    right : (q : ℕ) → rights xs q ≡ n q
    right q = omega (arith, rights_are xs q, g.rights_and_free q, none_free q)

length_counts : (xs : List (ℕ × ℕ)) → ((k : ℕ) → k < length xs → left_end xs k < 16) → length xs ≤ size (lefts xs)
length_counts [] l = omega arith
length_counts (x ∷ xs) l = omega (arith, tokens_sum 16 everywhere (single x.0) (lefts xs), tokens_at 16 everywhere (single x.0) x.0 (l 0 (omega arith)) refl, single_same x.0, length_counts xs (λ k e. l (suc k) (omega arith)))

-- there is room for pairs of all tokens of p
pub room_for : {R : PlaceRelation} {m n : Bag} {xs : List (ℕ × ℕ)} {p : ℕ} {rest free : Bag} → size m ≤ 64 → Going R m n xs rest free p → p < 16 → length xs + rest p ≤ 64
room_for {R} {m} {n} {xs} {p} {rest} {free} few g l = omega (arith, few, length_counts xs g.held.low, tokens_sum 16 everywhere (lefts xs) rest, tokens_at 16 everywhere rest p l refl, sum)
  where
    sum : size (lefts xs ⊕ rest) ≤ size m
    sum = tokens_le 16 everywhere everywhere (lefts xs ⊕ rest) m (λ i l. omega (arith, lefts_are xs i, g.lefts_and_rest i))

-- no token of p was paired yet; one more is
pub paired_none : {R : PlaceRelation} {xs : List (ℕ × ℕ)} {free : Bag} {p : ℕ} → Held R xs → PairedOf R xs free p 0 xs free
paired_none {R} {xs} {free} {p} h = record { held = h; longer = omega arith; starts_more = λ k. omega (arith, none (eqb p k)); sums = λ r. refl }
  where
    none : (b : Bool) → ◌≡◌ {A = ℕ} (cond b 0 0) 0
    none true = refl
    none false = refl

pub paired_more : {R : PlaceRelation} {xs ys zs : List (ℕ × ℕ)} {free left more : Bag} {p k : ℕ} → PairedOf R xs free p k ys left → PlacedOn R ys left p zs more → PairedOf R xs free p (k + 1) zs more
paired_more {R} {xs} {ys} {zs} {free} {left} {more} {p} {k} h a = record {
  held = a.held;
  longer = omega (arith, h.longer, a.one_more);
  starts_more = λ i. omega (arith, h.starts_more i, a.starts_more i, one (eqb p i));
  sums = λ r. a.sums r ∙ h.sums r;
}
  where
    one : (b : Bool) → cond b k 0 + cond b 1 0 ≡ cond b (k + 1) 0
    one true = refl
    one false = refl

-- p has no token left
pub going_next : {R : PlaceRelation} {m n : Bag} {xs : List (ℕ × ℕ)} {p : ℕ} {rest free : Bag} → rest p ≡ 0 → Going R m n xs rest free p → Going R m n xs rest free (p + 1)
going_next {R} {m} {n} {xs} {p} {rest} {free} none g = record {
  held = g.held;
  lefts_and_rest = g.lefts_and_rest;
  rights_and_free = g.rights_and_free;
  done = λ k l. elim (cases_lt k p) [ inl h ↦ g.done k h | inr h ↦ ap rest (same k l h) ∙ none ];
}
  where
    same : (k : ℕ) → k < p + 1 → p ≤ k → k ≡ p
    same k l h = omega arith

-- the tokens below p are paired, and some of those of p
paired_part : {R : PlaceRelation} {m n : Bag} {xs ys : List (ℕ × ℕ)} {free left : Bag} {p k : ℕ} → PairedBelow R m n xs free p → PairedOf R xs free p k ys left → k ≤ m p → Going R m n ys (unpaired m ys) left p
paired_part {R} {m} {n} {xs} {ys} {free} {left} {p} {k} h a l = record {
  held = a.held;
  lefts_and_rest = λ i. omega (arith, most i (cases_eq p i));
  rights_and_free = λ i. a.sums i ∙ h.going.rights_and_free i;
  done = λ i below. omega (arith, a.starts_more i, h.going.done i below);
}
  where
    most : (i : ℕ) → (p ≡ i) ⊎ (p ≢ i) → starts ys i ≤ m i
    most i (inl e) = omega (arith, a.starts_more i, h.none i (omega (arith, e)), ap m e, ap (λ b. cond b k 0) (eq-eqb p i e))
    most i (inr e) = omega (arith, a.starts_more i, h.going.lefts_and_rest i, ap (λ b. cond b k 0) (ne_eqb p i e))

pub paired_below : {R : PlaceRelation} {m n : Bag} {xs ys : List (ℕ × ℕ)} {free left : Bag} {p : ℕ} → PairedBelow R m n xs free p → PairedOf R xs free p (m p) ys left → PairedBelow R m n ys left (p + 1)
paired_below {R} {m} {n} {xs} {ys} {free} {left} {p} h a = record {
  going = going_next all (paired_part h a (omega arith));
  none = λ k l. omega (arith, a.starts_more k, h.none k (omega arith), ap (λ b. cond b (m p) 0) (ne_eqb p k (λ e. omega arith)));
}
  where
    all : m p - starts ys p ≡ 0
    all = omega (arith, a.starts_more p, ap (λ b. cond b (m p) 0) (eq-eqb p p refl))

-- a token of p is left, and no token could be made free for it
pub fails_short : {R : PlaceRelation} {m n : Bag} {xs : List (ℕ × ℕ)} {free : Bag} {p : ℕ} {S : Subset} → p < 16 → PairedBelow R m n xs free p → ShortOf R xs free p (m p) S → Fails R m n S
fails_short {R} {m} {n} {xs} {free} {p} {S} l h a = record {
  outnumbers = outnumbered S part l some a.in_vain.blocked a.in_vain.reached;
  some_place = (p, a.in_vain.reached.start);
  marked = reached_marked S part some a.in_vain.reached;
}
  where
    part : Going R m n a.pairs_then (unpaired m a.pairs_then) a.free_then p
    part = paired_part h a.paired (omega (arith, a.fewer))

    some : 0 < m p - starts a.pairs_then p
    some = omega (arith, a.fewer, a.paired.starts_more p, h.none p (omega arith), ap (λ b. cond b a.made 0) (eq-eqb p p refl))

-- nothing is paired yet
pub below_none : {R : PlaceRelation} (m n : Bag) → PairedBelow R m n [] n 0
below_none m n = record {
  going = record {
    held = record { low = λ j l. absurd (omega arith); high = λ j l. absurd (omega arith); fits = λ j l. absurd (omega arith) };
    lefts_and_rest = λ k. omega arith;
    rights_and_free = λ k. omega arith;
    done = λ k l. absurd (omega arith);
  };
  none = λ k l. refl;
}
