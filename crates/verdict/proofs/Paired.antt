-- Tokens that can be paired with places chosen and with later ones.
use Rattle.std.proofs.Common.{◌≡◌, ℕ, zero, suc, ◌+◌, ◌-◌, ◌<◌, ◌≤◌, Bool, true, T, ◌↔◌, nat_eq, List, [], ◌∷◌, ◌++◌, length, get_or, take, drop, sym, refl, ap, ◌∙◌, subst, inl, inr, append-nil, arith}
use mathlib.Core.Path.{fun_ext}
use Rattle.std.proofs.lemmas.List.{take_all}
use Rattle.std.proofs.lemmas.Bool.{cases_eq, both_ways, eqb-true, eq-eqb}
use Rattle.bags.specs.Equality.{Removes, absent, here, later}
use Rattle.places.specs.Bags.{Bag, single, ◌⊖◌}
use Rattle.places.specs.Sets.{PlaceRelation}
use Rattle.places.specs.Laws.{single_same, single_other, single_le}
use Rattle.pairing.specs.Closure.{Closure, none, more}
use Rattle.pairing.specs.Laws.{turned_closure, moved, partner, pick}
use Rattle.bisimulation.specs.Lists.{tokens_of, related_lists}
use Rattle.bisimulation.specs.Laws.{tokens_append}
use Rattle.bisimulation.specs.Spelled.{remove}
use Rattle.bisimulation.specs.Related.{tests}
use Rattle.verdict.specs.Relating.{pairs_of}
use Rattle.verdict.specs.Search.{AllFrom, AllReach, Completes}
use Rattle.verdict.specs.declared.pairs.Pairs.{Pairs}
use Rattle.verdict.proofs.Tests.{bool_same}
use Rattle.verdict.proofs.Tops.{pairs_placed}

-- a place of a list that has none below lo
from_at : (lo : ℕ) (ys : List ℕ) (y : ℕ) → AllFrom lo ys → 0 < tokens_of ys y → lo ≤ y
from_at lo [] y h some = absurd (omega arith)
from_at lo (x ∷ ys) y h some = elim (cases_eq x y) [
  | inl e ↦ omega (arith, h.0)
  | inr n ↦ from_at lo ys y h.1 (omega (arith, single_other x y n))
]

from_part : (lo : ℕ) (ys zs : List ℕ) → AllFrom lo ys → ((q : ℕ) → tokens_of zs q ≤ tokens_of ys q) → AllFrom lo zs
from_part lo ys [] h f = tt
from_part lo ys (z ∷ zs) h f = (from_at lo ys z h (omega (arith, f z, single_same z)), from_part lo ys zs h (λ q. omega (arith, f q)))

-- with no place chosen, the tokens are completed exactly when each reaches
reach_from : (R : PlaceRelation) (lo : ℕ) (xs : List ℕ) → AllReach R lo xs → Completes R (tokens_of xs) [] lo
reach_from R lo [] h = record { later = []; from_lo = tt; related = none }
reach_from R lo (x ∷ xs) h =
    let rest = reach_from R lo xs h.1 in
    record { later = h.0.0 ∷ rest.later; from_lo = (h.0.1.0, rest.from_lo); related = more x h.0.0 h.0.1.1 rest.related }

from_reach : (R : PlaceRelation) (lo : ℕ) (xs ys : List ℕ) → AllFrom lo ys → Closure R (tokens_of xs) (tokens_of ys) → AllReach R lo xs
from_reach R lo [] ys h c = tt
from_reach R lo (x ∷ xs) ys h c =
    let y = pick c x (omega (arith, single_same x)) in
    let z = remove ys y.other y.held in (
      (y.other, (from_at lo ys y.other h y.held, y.here)),
      from_reach R lo xs z.left (from_part lo ys z.left h (λ q. omega (arith, z.makes q))) (moved (λ p. omega arith) (λ q. sym (z.makes q)) y.rest),
    )

pub completes_none : {R : PlaceRelation} {lo : ℕ} (xs : List ℕ) → AllReach R lo xs ↔ Completes R (tokens_of xs) [] lo
completes_none {R} {lo} xs = (reach_from R lo xs, λ d. from_reach R lo xs d.later d.from_lo d.related)

-- a token for the next place, and the rest
pub completes_by : {R : PlaceRelation} {lo : ℕ} (xs : List ℕ) (i q : ℕ) (cs : List ℕ) → i < length xs → T (R (get_or xs i 0) q) → Completes R (tokens_of xs ⊖ single (get_or xs i 0)) cs lo → Completes R (tokens_of xs) (q ∷ cs) lo
completes_by {R} xs i q cs l r c = record {
  later = c.later;
  from_lo = c.from_lo;
  related = moved (λ p. omega (arith, single_le (tokens_of xs) (get_or xs i 0) p (there xs i l))) (λ p. refl) (more (get_or xs i 0) q r c.related);
}
  where
    there : (xs : List ℕ) (i : ℕ) → i < length xs → 0 < tokens_of xs (get_or xs i 0)
    there [] i l = absurd (omega arith)
    there (x ∷ xs) zero l = omega (arith, single_same x)
    there (x ∷ xs) (suc i) l = omega (arith, there xs i (omega arith))

-- where no token does for the next place, nothing completes
record Token (R : PlaceRelation) (b : Bag) (q : ℕ) (cs : List ℕ) (lo : ℕ) : Type 0 where
  place : ℕ
  held : 0 < b place
  here : T (R place q)
  rest : Completes R (b ⊖ single place) cs lo

token : {R : PlaceRelation} {lo : ℕ} (b : Bag) (q : ℕ) (cs : List ℕ) → Completes R b (q ∷ cs) lo → Token R b q cs lo
token b q cs c =
    let y = pick (turned_closure c.related) q (omega (arith, single_same q)) in
    record {
      place = y.other;
      held = y.held;
      here = y.here;
      rest = record { later = c.later; from_lo = c.from_lo; related = moved (λ p. refl) (λ p. omega arith) (turned_closure y.rest) };
    }

index : (xs : List ℕ) (x : ℕ) → 0 < tokens_of xs x → (i : ℕ) × ((i < length xs) × (get_or xs i 0 ≡ x))
index [] x some = absurd (omega arith)
index (y ∷ xs) x some = elim (cases_eq y x) [
  | inl e ↦ (0, (omega arith, e))
  | inr n ↦ (let r = index xs x (omega (arith, single_other y x n)) in (suc r.0, (omega (arith, r.1.0), r.1.1)))
]

-- no token before the one at i does
pub record NoneBefore (R : PlaceRelation) (lo : ℕ) (xs : List ℕ) (i q : ℕ) (cs : List ℕ) : Type 0 where
  pub none_does : (j : ℕ) → j < i → T (R (get_or xs j 0) q) → Completes R (tokens_of xs ⊖ single (get_or xs j 0)) cs lo → ⊥

pub before_none : {R : PlaceRelation} {lo : ℕ} {xs : List ℕ} {q : ℕ} {cs : List ℕ} → NoneBefore R lo xs 0 q cs
before_none = record { none_does = λ j l. absurd (omega arith) }

pub before_more : {R : PlaceRelation} {lo : ℕ} (xs : List ℕ) (i q : ℕ) (cs : List ℕ) → NoneBefore R lo xs i q cs → (T (R (get_or xs i 0) q) → Completes R (tokens_of xs ⊖ single (get_or xs i 0)) cs lo → ⊥) → NoneBefore R lo xs (i + 1) q cs
before_more {R} {lo} xs i q cs h fails = record {
  none_does = λ j l r c. elim (cases_eq j i) [
    | inl e ↦ fails (subst (λ k. T (R (get_or xs k 0) q)) e r) (subst (λ k. Completes R (tokens_of xs ⊖ single (get_or xs k 0)) cs lo) e c)
    | inr n ↦ h.none_does j (omega arith) r c
  ];
}

pub none_completes : {R : PlaceRelation} {lo : ℕ} {i q : ℕ} (xs cs : List ℕ) → length xs ≤ i → NoneBefore R lo xs i q cs → Completes R (tokens_of xs) (q ∷ cs) lo → ⊥
none_completes {R} {lo} {i} {q} xs cs l h c =
    let t = token (tokens_of xs) q cs c in
    let w = index xs t.place t.held in
    h.none_does w.0 (omega (arith, w.1.0)) (subst (λ x. T (R x q)) (sym w.1.1) t.here) (subst (λ x. Completes R (tokens_of xs ⊖ single x) cs lo) (sym w.1.1) t.rest)

-- where nothing later can be related, completing is being related
pub related_exactly : (s : Pairs) (xs ys : List ℕ) (b : Bool) → (b ≡ true) ↔ Completes (pairs_of s) (tokens_of xs) ys 16 → b ≡ related_lists (pairs_of s) xs ys
related_exactly s xs ys b h = bool_same b (related_lists (pairs_of s) xs ys) there back
  where
    alone : (zs : List ℕ) → AllFrom 16 zs → Closure (pairs_of s) (tokens_of xs) (tokens_of (ys ++ zs)) → Closure (pairs_of s) (tokens_of xs) (tokens_of ys)
    alone [] f c = moved (λ p. refl) (λ q. ap (λ vs. tokens_of vs q) (append-nil ys)) c
    alone (z ∷ zs) f c = let w = partner c z (omega (arith, tokens_append ys (z ∷ zs) z, single_same z)) in absurd (pairs_placed s w.0 z (inr f.0) w.1.0)

    there : b ≡ true → related_lists (pairs_of s) xs ys ≡ true
    there e = let c = h.0 e in (tests (pairs_of s) xs ys).1 (alone c.later c.from_lo c.related)

    back : related_lists (pairs_of s) xs ys ≡ true → b ≡ true
    back e = h.1 (record { later = []; from_lo = tt; related = moved (λ p. refl) (λ q. ap (λ vs. tokens_of vs q) (sym (append-nil ys))) ((tests (pairs_of s) xs ys).0 e) })

-- the tokens without the earliest on a place
without_at : (p : ℕ) (xs : List ℕ) (found : Bool) (zs : List ℕ) → Removes (λ y b. b ≡ nat_eq y p) xs found zs → (q : ℕ) → tokens_of zs q ≡ tokens_of xs q - single p q
without_at p [] found zs absent q = omega arith
without_at p (y ∷ ys) found zs (here _ _ h) q = let same : y ≡ p = eqb-true y p (sym h) in omega (arith, ap (λ v. single v q) same)
without_at p (y ∷ ys) found zs (later _ _ _ ws h r) q = elim (cases_eq p q) [
  | inl e ↦ omega (arith, without_at p ys found ws r q, single_other y q (λ s. both_ways (nat_eq y p) (sym h) (eq-eqb y p (s ∙ sym e))))
  | inr n ↦ omega (arith, without_at p ys found ws r q, single_other p q n)
]

pub without_tokens : (p : ℕ) (xs : List ℕ) (found : Bool) (zs : List ℕ) → Removes (λ y b. b ≡ nat_eq y p) xs found zs → tokens_of zs ≡ tokens_of xs ⊖ single p
without_tokens p xs found zs r = fun_ext (without_at p xs found zs r)

-- no places, and the first place and those behind it
pub nothing : (cs : List ℕ) → length cs < 1 → cs ≡ []
nothing [] l = refl
nothing (c ∷ cs) l = absurd (omega arith)

abbrev pub later_than_first : List ℕ → List ℕ
later_than_first cs = take (length cs - 1) (drop 1 cs)

pub first_and_later : (cs : List ℕ) → 1 ≤ length cs → cs ≡ get_or cs 0 0 ∷ later_than_first cs
first_and_later [] l = absurd (omega arith)
first_and_later (c ∷ cs) l = ap (λ ds. c ∷ ds) (sym (take_all (suc (length cs) - 1) cs (omega arith)))
