-- The steps of the search: what a place tried in vain, a pair moved and a pair added leave.
use Rattle.std.proofs.Common.{◌≡◌, ℕ, suc, ◌+◌, ◌-◌, ◌<◌, ◌≤◌, Bool, true, false, cond, eqb, ◌⊎◌, List, [], ◌∷◌, ◌++◌, length, get_or, set, MatchBool, sym, refl, ap, ◌∙◌, subst, inl, inr, arith}
use mathlib.Core.Path.{fun_ext}
use Rattle.std.proofs.lemmas.List.{get_or-set_same, get_or-set_other, length-set, length-append, length_push, get_or_append_left, get_or-append_right}
use Rattle.std.proofs.lemmas.Bool.{both_ways, cases_eq, cases_lt, cases_Bool, false≢true}
use Rattle.std.proofs.lemmas.List.Sums.{sum_by-set, sum_by_push}
use Rattle.places.specs.Bags.{Bag, single, ◌⊕◌, ◌⊖◌}
use Rattle.places.specs.Sets.{Subset, PlaceRelation, nowhere, with_place, size}
use Rattle.places.specs.Laws.{single_same, single_other, single_le, size_plus, with_here, with_keeps, with_other}
use Rattle.pairing.specs.Search.{starts, ends, left_end, right_end, unseen, Held, Holder, Stuck, Opened, Trying, Shut, Blocked, Room, Added}

-- what holds of each pair, after one was replaced
each_set : (P : (ℕ × ℕ) → Type 0) (ys : List (ℕ × ℕ)) (j : ℕ) (y : ℕ × ℕ) → j < length ys → ((k : ℕ) → k < length ys → P (get_or ys k (0, 0))) → P y → (k : ℕ) → k < length (set ys j y) → P (get_or (set ys j y) k (0, 0))
each_set P ys j y l h here k lk = elim (cases_eq k j) [
  | inl e ↦ subst P (sym (subst (λ n. get_or (set ys j y) n (0, 0) ≡ y) (sym e) (get_or-set_same ys j y (0, 0) l))) here
  | inr n ↦ subst P (sym (get_or-set_other ys j k y (0, 0) n)) (h k (omega (arith, length-set ys j y)))
]

-- and after one was added
each_push : (P : (ℕ × ℕ) → Type 0) (ys : List (ℕ × ℕ)) (y : ℕ × ℕ) → ((k : ℕ) → k < length ys → P (get_or ys k (0, 0))) → P y → (k : ℕ) → k < length (ys ++ y ∷ []) → P (get_or (ys ++ y ∷ []) k (0, 0))
each_push P ys y h here k l = elim (cases_lt k (length ys)) [
  | inl s ↦ subst P (sym (get_or_append_left ys (y ∷ []) (0, 0) k s)) (h k s)
  | inr g ↦ subst P (sym (get_or-append_right ys (y ∷ []) (length ys) k (0, 0) refl g ∙ ap (λ i. get_or (y ∷ []) i (0, 0)) (last g))) here
]
  where
    last : length ys ≤ k → k - length ys ≡ 0
    last g = omega (arith, length-append ys (y ∷ []))

pub fewer_unseen : (s : Subset) (q : ℕ) → q < 16 → s q ≡ false → unseen (with_place s q) + 1 ≡ unseen s
fewer_unseen s q l e = sym (size_plus (λ p. cond (with_place s q p) 0 1) q l) ∙ ap size (fun_ext (λ p. here p (cases_eq q p)))
  where
    here : (p : ℕ) → (q ≡ p) ⊎ (q ≡ p → ⊥) → single q p + cond (with_place s q p) 0 1 ≡ cond (s p) 0 1
    here p (inl h) = omega (
      arith,
      ap (λ i. single q i) (sym h),
      single_same q,
      ap (λ b. cond b 0 (suc 0)) (ap (with_place s q) (sym h) ∙ with_here s q l),
      ap (λ b. cond b 0 (suc 0)) (ap s (sym h) ∙ e),
    )
    here p (inr n) = omega (arith, single_other q p n, ap (λ b. cond b 0 (suc 0)) (with_other s q p n))

-- a token of r became free, so a pair that ends at q moves there
opened_shift : {R : PlaceRelation} {xs ys : List (ℕ × ℕ)} {free left : Bag} {s t : Subset} {j q r : ℕ}
    → q < 16 → r < 16 → t q ≡ true → t r ≡ false → ((k : ℕ) → s k ≡ true → t k ≡ true)
    → j < length xs → right_end xs j ≡ q → R (left_end xs j) r ≡ true
    → Opened R xs free t r ys left
    → Opened R xs free s q (set ys j (left_end ys j, r)) (single q ⊕ (left ⊖ single r))
opened_shift {R} {xs} {ys} {free} {left} {s} {t} {j} {q} {r} lq lr tq new grows lj atq rel o = record {
  long = length-set ys j (left_end ys j, r) ∙ o.long;
  held = record {
    low = each_set (λ x. x.0 < 16) ys j (left_end ys j, r) lyj o.held.low (o.held.low j lyj);
    high = each_set (λ x. x.1 < 16) ys j (left_end ys j, r) lyj o.held.high lr;
    fits = each_set (λ x. R x.0 x.1 ≡ true) ys j (left_end ys j, r) lyj o.held.fits (subst (λ x. R x.0 r ≡ true) (sym same) rel);
  };
  starts_same = λ k. omega (arith, sum_by-set (λ x. cond (eqb x.0 k) 1 0) ys j (left_end ys j, r) (0, 0) lyj, o.starts_same k);
  sums = λ k. omega (arith, moved k, single_le left r k o.there, o.sums k);
  frame = λ k l h not. get_or-set_other ys j k (left_end ys j, r) (0, 0) (λ e. not (ap (right_end xs) e ∙ atq)) ∙ o.frame k l (grows _ h) (other (right_end xs k) (grows _ h));
  there = omega (arith, single_same q);
}
  where
    -- a seen place is not r
    other : (k : ℕ) → t k ≡ true → k ≡ r → ⊥
    other k e is = both_ways (t r) new (subst (λ n. t n ≡ true) is e)

    same : get_or ys j (0, 0) ≡ get_or xs j (0, 0)
    same = o.frame j lj (subst (λ n. t n ≡ true) (sym atq) tq) (other (right_end xs j) (subst (λ n. t n ≡ true) (sym atq) tq))

    lyj : j < length ys
    lyj = omega (arith, o.long)

    moved : (k : ℕ) → ends (set ys j (left_end ys j, r)) k + single q k ≡ ends ys k + single r k
    moved k = subst (λ n. ends (set ys j (left_end ys j, r)) k + cond (eqb n k) 1 0 ≡ ends ys k + cond (eqb r k) 1 0) (ap (λ x. x.1) same ∙ atq)
        (sum_by-set (λ x. cond (eqb x.1 k) 1 0) ys j (left_end ys j, r) (0, 0) lyj)

-- the same, after places were tried in vain
pub opened_end : {R : PlaceRelation} {xs ps ys zs : List (ℕ × ℕ)} {free fs left fz : Bag} {s t : Subset} {j q r k : ℕ}
    → q < 16 → r < 16 → s q ≡ true → t r ≡ false
    → Trying R xs free s q ps fs t k
    → Holder R ps q r j
    → Opened R ps fs t r ys left
    → zs ≡ set ys j (left_end ys j, r) → fz ≡ single q ⊕ (left ⊖ single r)
    → Opened R xs free s q zs fz
opened_end {R} {xs} {ps} {ys} {zs} {free} {fs} {left} {fz} {s} {t} {j} {q} {r} {k} lq lr sq new trying h o ez ef =
    subst (λ z. Opened R xs free s q z fz) (sym ez) (subst (λ f. Opened R xs free s q (set ys j (left_end ys j, r)) f) (sym ef)
    (opened_shift lq lr (trying.grows q sq) new trying.grows found.there found.at found.could
    (subst (λ f. Opened R xs f t r ys left) trying.same_free (subst (λ n. Opened R n fs t r ys left) trying.same_pairs o))))
  where
    found : Holder R xs q r j
    found = subst (λ n. Holder R n q r j) trying.same_pairs h

-- q was marked first
pub opened_fresh : {R : PlaceRelation} {xs ys : List (ℕ × ℕ)} {free left : Bag} {s t : Subset} {q : ℕ} → t ≡ with_place s q → Opened R xs free t q ys left → Opened R xs free s q ys left
opened_fresh {R} {xs} {ys} {free} {left} {s} {t} {q} is o = record {
  long = o.long;
  held = o.held;
  starts_same = o.starts_same;
  sums = o.sums;
  frame = λ j l e not. o.frame j l (ap (λ u. u (right_end xs j)) is ∙ with_keeps s q (right_end xs j) e) not;
  there = o.there;
}

pub opened_free : {R : PlaceRelation} {xs : List (ℕ × ℕ)} {free : Bag} {s : Subset} {q : ℕ} → Held R xs → 0 < free q → Opened R xs free s q xs free
opened_free h some = record { long = refl; held = h; starts_same = λ p. refl; sums = λ r. refl; frame = λ j l e not. refl; there = some }

-- a free token became a pair
pub record PlacedOn (R : PlaceRelation) (xs : List (ℕ × ℕ)) (free : Bag) (p : ℕ) (ys : List (ℕ × ℕ)) (left : Bag) : Type 0 where
  pub held : Held R ys
  pub one_more : length ys ≡ length xs + 1
  pub starts_more : (k : ℕ) → starts ys k ≡ starts xs k + single p k
  pub sums : (r : ℕ) → ends ys r + left r ≡ ends xs r + free r

placed_here : {R : PlaceRelation} {xs ys : List (ℕ × ℕ)} {free left : Bag} {p q : ℕ} → p < 16 → Room R xs free p q ys left → PlacedOn R xs free p (ys ++ (p, q) ∷ []) (left ⊖ single q)
placed_here {R} {xs} {ys} {free} {left} {p} {q} lp r = record {
  held = record {
    low = each_push (λ x. x.0 < 16) ys (p, q) r.opened.held.low lp;
    high = each_push (λ x. x.1 < 16) ys (p, q) r.opened.held.high r.low;
    fits = each_push (λ x. R x.0 x.1 ≡ true) ys (p, q) r.opened.held.fits r.fits;
  };
  one_more = length_push ys (p, q) ∙ ap (λ n. n + 1) r.opened.long;
  starts_more = λ k. omega (arith, sum_by_push (λ x. cond (eqb x.0 k) 1 0) ys (p, q), r.opened.starts_same k);
  sums = λ k. omega (arith, sum_by_push (λ x. cond (eqb x.1 k) 1 0) ys (p, q), single_le left q k r.opened.there, r.opened.sums k);
}

pub placed_on : {R : PlaceRelation} {xs ys : List (ℕ × ℕ)} {free left : Bag} {p : ℕ} → p < 16 → Added R xs free p ys left → PlacedOn R xs free p ys left
placed_on {R} {xs} {ys} {free} {left} {p} lp a =
    subst (λ zs. PlacedOn R xs free p zs left) (sym a.pair_more) (subst (λ f. PlacedOn R xs free p (a.opened_pairs ++ (p, a.q) ∷ []) f) (sym a.token_less) (placed_here lp a.room))

-- no place was tried yet
pub trying_start : {R : PlaceRelation} {xs : List (ℕ × ℕ)} {free : Bag} {s : Subset} {q : ℕ} → Trying R xs free s q xs free s 0
trying_start {R} {xs} {free} {s} {q} = record {
  same_pairs = refl;
  same_free = refl;
  grows = λ r e. e;
  fewer = omega arith;
  tried = λ j r l at less. absurd (omega arith);
  stuck = λ r e n. absurd (both_ways (s r) n e);
}

-- r was tried for the pairs of q, with no need to look further
pub trying_skip : {R : PlaceRelation} {xs ps : List (ℕ × ℕ)} {free fs : Bag} {s t : Subset} {q r : ℕ} → Trying R xs free s q ps fs t r → ((j : ℕ) → j < length ps → right_end ps j ≡ q → R (left_end ps j) r ≡ true → t r ≡ true) → Trying R xs free s q ps fs t (r + 1)
trying_skip {R} {xs} {ps} {free} {fs} {s} {t} {q} {r} h here = record {
  same_pairs = h.same_pairs;
  same_free = h.same_free;
  grows = h.grows;
  fewer = h.fewer;
  tried = λ j k l at less rel. elim (cases_eq k r) [
    | inl e ↦ subst (λ i. t i ≡ true) (sym e) (subst (λ (ys : List (ℕ × ℕ)). j < length ys → right_end ys j ≡ q → R (left_end ys j) r ≡ true → t r ≡ true) h.same_pairs (here j) l at (subst (λ i. R (left_end xs j) i ≡ true) e rel))
    | inr n ↦ h.tried j k l at (omega arith) rel
  ];
  stuck = h.stuck;
}

-- no token of r could be made free
pub trying_more : {R : PlaceRelation} {xs ps ys : List (ℕ × ℕ)} {free fs left : Bag} {s t u : Subset} {q r : ℕ} → Trying R xs free s q ps fs t r → Shut R ps fs t r ys left u → Trying R xs free s q ys left u (r + 1)
trying_more {R} {xs} {ps} {ys} {free} {fs} {left} {s} {t} {u} {q} {r} a b = record {
  same_pairs = b.same_pairs ∙ a.same_pairs;
  same_free = b.same_free ∙ a.same_free;
  grows = λ k e. b.grows k (a.grows k e);
  fewer = omega (arith, a.fewer, b.fewer);
  tried = λ j k l at less rel. elim (cases_eq k r) [
    | inl e ↦ subst (λ i. u i ≡ true) (sym e) b.marked
    | inr n ↦ b.grows k (a.tried j k l at (omega arith) rel)
  ];
  stuck = λ k e n. elim (cases_Bool (t k)) [
    | inl h ↦ (let was = a.stuck k h n in record { taken = was.taken; holders = λ j i l at less rel. b.grows i (was.holders j i l at less rel) })
    | inr h ↦ subst (λ ps. Stuck R ps free u k) a.same_pairs (subst (λ fs. Stuck R ps fs u k) a.same_free (b.stuck k e h))
  ];
}

-- q was marked, and all places were tried for its pairs
pub shut_all : {R : PlaceRelation} {xs ys : List (ℕ × ℕ)} {free left : Bag} {s t u : Subset} {q : ℕ} → q < 16 → s q ≡ false → t ≡ with_place s q → free q ≡ 0 → Trying R xs free t q ys left u 16 → Shut R xs free s q ys left u
shut_all {R} {xs} {ys} {free} {left} {s} {t} {u} {q} low fresh is none a = record {
  same_pairs = a.same_pairs;
  same_free = a.same_free;
  grows = λ r e. a.grows r (ap (λ v. v r) is ∙ with_keeps s q r e);
  marked = a.grows q (ap (λ v. v q) is ∙ with_here s q low);
  fewer = omega (arith, a.fewer, ap unseen is, fewer_unseen s q low fresh);
  stuck = λ r e n. elim (cases_eq q r) [
    | inl h ↦ subst (λ k. Stuck R xs free u k) h (record { taken = none; holders = a.tried })
    | inr not ↦ a.stuck r e (ap (λ v. v r) is ∙ with_other s q r not ∙ n)
  ];
}

-- the places related to p were tried for one place more
pub blocked_skip : {R : PlaceRelation} {xs ys : List (ℕ × ℕ)} {free left : Bag} {p q : ℕ} {s : Subset} → Blocked R xs free p q ys left s → (R p q ≡ true → s q ≡ true) → Blocked R xs free p (q + 1) ys left s
blocked_skip {R} {xs} {ys} {free} {left} {p} {q} {s} b here = record {
  same_pairs = b.same_pairs;
  same_free = b.same_free;
  stuck = b.stuck;
  tried = λ r l rel. elim (cases_eq r q) [
    | inl e ↦ subst (λ i. s i ≡ true) (sym e) (here (subst (λ i. R p i ≡ true) e rel))
    | inr n ↦ b.tried r (omega arith) rel
  ];
}

pub blocked_more : {R : PlaceRelation} {xs ps ys : List (ℕ × ℕ)} {free fs left : Bag} {p q : ℕ} {s u : Subset} → Blocked R xs free p q ps fs s → Shut R ps fs s q ys left u → Blocked R xs free p (q + 1) ys left u
blocked_more {R} {xs} {ps} {ys} {free} {fs} {left} {p} {q} {s} {u} b a = record {
  same_pairs = a.same_pairs ∙ b.same_pairs;
  same_free = a.same_free ∙ b.same_free;
  stuck = λ k e. elim (cases_Bool (s k)) [
    | inl h ↦ (let was = b.stuck k h in record { taken = was.taken; holders = λ j i l at less rel. a.grows i (was.holders j i l at less rel) })
    | inr h ↦ subst (λ ps. Stuck R ps free u k) b.same_pairs (subst (λ fs. Stuck R ps fs u k) b.same_free (a.stuck k e h))
  ];
  tried = λ r l rel. elim (cases_eq r q) [
    | inl e ↦ subst (λ i. u i ≡ true) (sym e) a.marked
    | inr n ↦ a.grows r (b.tried r (omega arith) rel)
  ];
}

-- a token of q became free, after places were tried in vain
pub room_there : {R : PlaceRelation} {xs ps ys : List (ℕ × ℕ)} {free fs left : Bag} {p q : ℕ} {s : Subset} → q < 16 → R p q ≡ true → Blocked R xs free p q ps fs s → Opened R ps fs s q ys left → Room R xs free p q ys left
room_there {R} {xs} {ps} {ys} {free} {fs} {left} {p} {q} {s} l rel b o =
    let here : Opened R xs free s q ys left = subst (λ ps. Opened R ps free s q ys left) b.same_pairs (subst (λ fs. Opened R ps fs s q ys left) b.same_free o) in
    record {
      low = l;
      fits = rel;
      opened = record {
        long = here.long;
        held = here.held;
        starts_same = here.starts_same;
        sums = here.sums;
        frame = λ j lj e not. absurd (false≢true e);
        there = here.there;
      };
    }

-- no place was tried yet
pub blocked_start : {R : PlaceRelation} {xs : List (ℕ × ℕ)} {free : Bag} {p : ℕ} {s : Subset} → s ≡ nowhere → Blocked R xs free p 0 xs free s
blocked_start {R} {xs} {free} {p} {s} e = record {
  same_pairs = refl;
  same_free = refl;
  stuck = λ r h. absurd (both_ways (s r) (ap (λ t. t r) e) h);
  tried = λ r l. absurd (omega arith);
}

-- from what holds of each way
pub either_way : {P Q P' Q' : Type 0} (b : Bool) → MatchBool b P Q → (P → P') → (Q → Q') → MatchBool b P' Q'
either_way true h f g = f h
either_way false h f g = g h
