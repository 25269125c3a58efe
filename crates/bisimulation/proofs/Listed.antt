-- Lists of places stand for the bags of the obligations.
use Rattle.std.proofs.Common.{◌≡◌, ℕ, zero, suc, ◌<◌, ◌≤◌, Bool, true, false, cond, not, ◌&&◌, ◌||◌, T, eqb, ltb, List, [], ◌∷◌, map, length, Some, None, Option, sym, refl, ap, ◌∙◌, subst, inl, inr, arith}
use mathlib.Core.Path.{fun_ext}
use Rattle.std.proofs.lemmas.Bool.{cases_eq, cases_lt, cases_Bool, eqb-true, eq-eqb, lt-ltb, ltb-true, and_parts, and_from, false≢true, both_ways, not-true, not_from_false}
use Rattle.places.specs.Bags.{Bag}
use Rattle.places.specs.Sets.{PlaceRelation, turned}
use Rattle.places.specs.declared.Side.{Side}
use Rattle.pairing.specs.Closure.{Closure}
use Rattle.pairing.specs.Laws.{T_of, of_T, some_from, some_is, moved, partner}
use Rattle.nets.specs.Meaning.{Meaning, Limits}
use Rattle.nets.specs.Firing.{pre_set, post_set, SelfBlocked}
use Rattle.bisimulation.specs.Bisimulation.{between, Alike}
use Rattle.bisimulation.specs.Obligations.{Obligation, Answer, Given}
use Rattle.bisimulation.specs.Lists.{tokens_of, list_of, same_list, related_lists, lists, times, ascends}
use Rattle.bisimulation.specs.Verdicts.{all_below, lowest_below, takes, gives, self_blocked, obliges, same_truth, alike, answers, answer_for, bags_for, ObligationAt, obligations_below}
use Rattle.bisimulation.proofs.Among.{In, in_left, in_right, in_either, in_map, map_in, all_from, all_at, Lowest, lowest}
use Rattle.bisimulation.proofs.Enumerated.{each_once}
use Rattle.bisimulation.specs.Related.{tests}
use Rattle.bisimulation.specs.Spelled.{spelled, same_is, is_same, ascending_list, ascends_below}

-- the relation has only places below the two numbers
pub record Bounded (left right : ℕ) (R : PlaceRelation) : Type 0 where
  pub lefts_below : (p q : ℕ) → T (R p q) → p < left
  pub rights_below : (p q : ℕ) → T (R p q) → q < right

pub bounded_between : (n k : Meaning) (R : PlaceRelation) → Bounded n.places k.places (between n k R)
bounded_between n k R = record {
  lefts_below = λ p q t. ltb-true p n.places (and_parts (ltb p n.places) (ltb q k.places && R p q) (of_T _ t)).0;
  rights_below = λ p q t. ltb-true q k.places (and_parts (ltb q k.places) (R p q) (and_parts (ltb p n.places) (ltb q k.places && R p q) (of_T _ t)).1).0;
}

pub bounded_turned : {left right : ℕ} {R : PlaceRelation} → Bounded left right R → Bounded right left (turned R)
bounded_turned b = record { lefts_below = λ q p t. b.rights_below p q t; rights_below = λ q p t. b.lefts_below p q t }

-- a related bag has no token beyond the places
pub beyond : {left right : ℕ} {R : PlaceRelation} {m l : Bag} → Bounded left right R → Closure R m l → (q : ℕ) → right ≤ q → l q ≡ 0
beyond {l = l} b c q h = elim (cases_eq (l q) 0) [
  | inl z ↦ z
  | inr z ↦ (let x = partner c q (omega arith) in absurd (omega (arith, b.rights_below x.0 q x.1.0)))
]

-- self-blocked
pub blocked_is : (n : Meaning) (t : ℕ) → self_blocked n t ≡ true → SelfBlocked n t
blocked_is n t e =
    let w = some_is (λ p. ltb 0 (pre_set n t p) && n.inhibits t p) n.places e in
    let both = and_parts (ltb 0 (pre_set n t w.0)) (n.inhibits t w.0) w.1.1 in
    (w.0, (ltb-true 0 (pre_set n t w.0) both.0, both.1))

pub is_blocked : (n : Meaning) (t : ℕ) → Limits n → SelfBlocked n t → self_blocked n t ≡ true
is_blocked n t lim s = some_from (λ p. ltb 0 (pre_set n t p) && n.inhibits t p) n.places s.0 inside (and_from (ltb 0 (pre_set n t s.0)) (n.inhibits t s.0) (lt-ltb 0 (pre_set n t s.0) s.1.0) s.1.1)
  where
    inside : s.0 < n.places
    inside = elim (cases_lt s.0 n.places) [ inl l ↦ l | inr g ↦ absurd (omega (arith, lim.no_place_input t s.0 g, s.1.0)) ]

-- the lists of what a transition takes and gives
pub takes_are : (n : Meaning) (t : ℕ) → Limits n → (p : ℕ) → tokens_of (takes n t) p ≡ pre_set n t p
takes_are n t lim = spelled n.places (pre_set n t) (λ p. lim.no_place_input t p)

pub gives_are : (n : Meaning) (t : ℕ) → Limits n → (p : ℕ) → tokens_of (gives n t) p ≡ post_set n t p
gives_are n t lim = spelled n.places (post_set n t) (λ p. lim.no_place_output t p)

-- an obligation, by lists
pub obliged : (mover : Meaning) (R : PlaceRelation) (t : ℕ) (ys : List ℕ) → Limits mover → obliges mover R t ys ≡ true → Obligation mover R t (tokens_of ys)
obliged mover R t ys lim e =
    let outer = and_parts (ltb t mover.transitions) (not (self_blocked mover t) && related_lists R (takes mover t) ys) e in
    let inner = and_parts (not (self_blocked mover t)) (related_lists R (takes mover t) ys) outer.1 in
    record {
      there = ltb-true t mover.transitions outer.0;
      unblocked = λ s. both_ways (self_blocked mover t) (not-true (self_blocked mover t) inner.0) (is_blocked mover t lim s);
      related = moved (takes_are mover t lim) (λ q. refl) ((tests R (takes mover t) ys).0 inner.1);
    }

pub obliging : (mover : Meaning) (R : PlaceRelation) (t : ℕ) (ys : List ℕ) → Limits mover → Obligation mover R t (tokens_of ys) → obliges mover R t ys ≡ true
obliging mover R t ys lim o = and_from (ltb t mover.transitions) (not (self_blocked mover t) && related_lists R (takes mover t) ys) (lt-ltb t mover.transitions o.there)
    (and_from (not (self_blocked mover t)) (related_lists R (takes mover t) ys) free
    ((tests R (takes mover t) ys).1 (moved (λ p. sym (takes_are mover t lim p)) (λ q. refl) o.related)))
  where
    free : not (self_blocked mover t) ≡ true
    free = elim (cases_Bool (self_blocked mover t)) [
      | inl e ↦ absurd (o.unblocked (blocked_is mover t e))
      | inr e ↦ not_from_false (self_blocked mover t) e
    ]

-- inhibitors alike
same_is_true : (a b : Bool) → same_truth a b ≡ true → a ≡ b
same_is_true true b e = sym e
same_is_true false b e = sym (not-true b e)

true_is_same : (a b : Bool) → a ≡ b → same_truth a b ≡ true
true_is_same true b e = sym e
true_is_same false b e = not_from_false b (sym e)

implied : (r s : Bool) → (not r || s) ≡ true → r ≡ true → s ≡ true
implied true s e r = e
implied false s e r = absurd (false≢true r)

imply : (r s : Bool) → (r ≡ true → s ≡ true) → (not r || s) ≡ true
imply true s f = f refl
imply false s f = refl

pub alike_is : (mover other : Meaning) (R : PlaceRelation) (t u : ℕ) → Bounded mover.places other.places R → alike mover other R t u ≡ true → Alike mover other R t u
alike_is mover other R t u b e p q r =
    let row = all_at (λ i. all_below (λ j. not (R i j) || same_truth (mover.inhibits t i) (other.inhibits u j)) other.places) mover.places e p (b.lefts_below p q r) in
    let cell = all_at (λ j. not (R p j) || same_truth (mover.inhibits t p) (other.inhibits u j)) other.places row q (b.rights_below p q r) in
    same_is_true (mover.inhibits t p) (other.inhibits u q) (implied (R p q) (same_truth (mover.inhibits t p) (other.inhibits u q)) cell (of_T _ r))

pub is_alike : (mover other : Meaning) (R : PlaceRelation) (t u : ℕ) → Alike mover other R t u → alike mover other R t u ≡ true
is_alike mover other R t u a = all_from (λ i. all_below (λ j. not (R i j) || same_truth (mover.inhibits t i) (other.inhibits u j)) other.places) mover.places
    (λ p lp. all_from (λ j. not (R p j) || same_truth (mover.inhibits t p) (other.inhibits u j)) other.places
    (λ q lq. imply (R p q) (same_truth (mover.inhibits t p) (other.inhibits u q)) (λ r. true_is_same (mover.inhibits t p) (other.inhibits u q) (a p q (T_of _ r)))))

-- an answer, by lists
pub answered : (mover other : Meaning) (R : PlaceRelation) (t u : ℕ) (ys : List ℕ) → Limits mover → Limits other → Bounded mover.places other.places R → u < other.transitions → answers mover other R t ys u ≡ true → Answer mover other R t (tokens_of ys) u
answered mover other R t u ys lm lo b there e =
    let one = and_parts (same_list (takes other u) ys) (eqb (mover.label t) (other.label u) && (related_lists R (gives mover t) (gives other u) && alike mover other R t u)) e in
    let two = and_parts (eqb (mover.label t) (other.label u)) (related_lists R (gives mover t) (gives other u) && alike mover other R t u) one.1 in
    let three = and_parts (related_lists R (gives mover t) (gives other u)) (alike mover other R t u) two.1 in
    let same = same_is (takes other u) ys one.0 in
    record {
      there = there;
      takes = λ q. sym (takes_are other u lo q) ∙ ap (λ zs. tokens_of zs q) same;
      label = eqb-true (mover.label t) (other.label u) two.0;
      gives = moved (gives_are mover t lm) (gives_are other u lo) ((tests R (gives mover t) (gives other u)).0 three.0);
      alike = alike_is mover other R t u b three.1;
    }

pub answering : (mover other : Meaning) (R : PlaceRelation) (t u : ℕ) (ys : List ℕ) → Limits mover → Limits other → ascends 0 other.places (length ys) ys ≡ true → Answer mover other R t (tokens_of ys) u → answers mover other R t ys u ≡ true
answering mover other R t u ys lm lo up a =
    and_from (same_list (takes other u) ys) (eqb (mover.label t) (other.label u) && (related_lists R (gives mover t) (gives other u) && alike mover other R t u)) (is_same (takes other u) ys listed)
    (and_from (eqb (mover.label t) (other.label u)) (related_lists R (gives mover t) (gives other u) && alike mover other R t u) (eq-eqb (mover.label t) (other.label u) a.label)
    (and_from (related_lists R (gives mover t) (gives other u)) (alike mover other R t u)
    ((tests R (gives mover t) (gives other u)).1 (moved (λ p. sym (gives_are mover t lm p)) (λ q. sym (gives_are other u lo q)) a.gives))
    (is_alike mover other R t u a.alike)))
  where
    listed : takes other u ≡ ys
    listed = ap (list_of other.places) (fun_ext a.takes) ∙ ascending_list other.places ys up

-- the answer that is computed is the one that is given
pub given : (mover other : Meaning) (R : PlaceRelation) (t : ℕ) (ys : List ℕ) → Limits mover → Limits other → Bounded mover.places other.places R → ascends 0 16 (length ys) ys ≡ true → Given mover other R t (tokens_of ys) (answer_for mover other R t ys)
given mover other R t ys lm lo b up = whole (obliges mover R t ys) refl
  where
    low : Obligation mover R t (tokens_of ys) → ascends 0 other.places (length ys) ys ≡ true
    low o = ascends_below 0 16 other.places ys up (beyond b o.related)

    fails : Obligation mover R t (tokens_of ys) → (u : ℕ) → answers mover other R t ys u ≡ false → Answer mover other R t (tokens_of ys) u → ⊥
    fails o u not_so a = both_ways (answers mover other R t ys u) not_so (answering mover other R t u ys lm lo (low o) a)

    found : (r : Option ℕ) → Lowest (answers mover other R t ys) other.transitions r → obliges mover R t ys ≡ true → Given mover other R t (tokens_of ys) r
    found None l e = λ o u a. fails o u (l u a.there) a
    found (Some u) l e =
        let o = obliged mover R t ys lm e in
        (o, answered mover other R t u ys lm lo b l.0 l.1, λ v less a. fails o v (l.2 v less) a)

    whole : (v : Bool) → obliges mover R t ys ≡ v → Given mover other R t (tokens_of ys) (cond v (lowest_below (answers mover other R t ys) other.transitions) None)
    whole true e = found (lowest_below (answers mover other R t ys) other.transitions) (lowest (answers mover other R t ys) other.transitions) e
    whole false e = λ o u a. both_ways (obliges mover R t ys) e (obliging mover R t ys lm o)

-- the lists that are gone through
within : (xs : List ℕ) (ls : List (List ℕ)) → In xs ls → 0 < times xs ls
unfolding times
within xs [] h = absurd h
within xs (l ∷ ls) (inl e) = omega (arith, ap (λ (v : Bool). cond {A = ℕ} v 1 0) (is_same xs l e))
within xs (l ∷ ls) (inr h) = omega (arith, within xs ls h)

member : (xs : List ℕ) (ls : List (List ℕ)) → 0 < times xs ls → In xs ls
unfolding times
member xs [] h = absurd (omega arith)
member xs (l ∷ ls) h = elim (cases_Bool (same_list xs l)) [
  | inl e ↦ inl (same_is xs l e)
  | inr e ↦ inr (member xs ls (omega (arith, ap (λ (b : Bool). cond {A = ℕ} b 1 0) e)))
]

-- an ascending list is among them, and what is among them ascends
pub among : (places size : ℕ) (ys : List ℕ) → ascends 0 places size ys ≡ true → In ys (lists places size)
among places size ys up = member ys (lists places size) (omega (arith, each_once places size ys, ap (λ (b : Bool). cond {A = ℕ} b 1 0) up))

pub among_ascends : (places size : ℕ) (ys : List ℕ) → In ys (lists places size) → ascends 0 places size ys ≡ true
among_ascends places size ys i = elim (cases_Bool (ascends 0 places size ys)) [
  | inl e ↦ e
  | inr e ↦ absurd (omega (arith, within ys (lists places size) i, each_once places size ys, ap (λ (b : Bool). cond {A = ℕ} b 1 0) e))
]

-- the obligations of the transitions below a number
pub in_obligations : (side : Side) (mover other : Meaning) (R : PlaceRelation) (T t : ℕ) (ys : List ℕ) → t < T → In ys (bags_for mover other R t) → In (record { side = side; transition = t; bag = ys }) (obligations_below side mover other R T)
in_obligations side mover other R zero t ys l i = absurd (omega arith)
in_obligations side mover other R (suc T) t ys l i = elim (cases_eq t T) [
  | inl e ↦ in_right (at t ys) (obligations_below side mover other R T) (map (at T) (bags_for mover other R T)) (subst (λ s. In (at t ys) (map (at s) (bags_for mover other R s))) e (in_map (at t) ys (bags_for mover other R t) i))
  | inr n ↦ in_left (at t ys) (obligations_below side mover other R T) (map (at T) (bags_for mover other R T)) (in_obligations side mover other R T t ys (omega arith) i)
]
  where
    at : ℕ → List ℕ → ObligationAt
    at s zs = record { side = side; transition = s; bag = zs }

pub record From (side : Side) (mover other : Meaning) (R : PlaceRelation) (T : ℕ) (o : ObligationAt) : Type 0 where
  pub on_side : o.side ≡ side
  pub below : o.transition < T
  pub bag_in : In o.bag (bags_for mover other R o.transition)

pub obligations_in : (side : Side) (mover other : Meaning) (R : PlaceRelation) (T : ℕ) (o : ObligationAt) → In o (obligations_below side mover other R T) → From side mover other R T o
obligations_in side mover other R zero o i = absurd i
obligations_in side mover other R (suc T) o i = elim (in_either o (obligations_below side mover other R T) (map (λ ys. record { side = side; transition = T; bag = ys }) (bags_for mover other R T)) i) [
  | inl earlier ↦ (let f = obligations_in side mover other R T o earlier in record { on_side = f.on_side; below = omega (arith, f.below); bag_in = f.bag_in })
  | inr here ↦ (
      let w = map_in (λ ys. record { side = side; transition = T; bag = ys }) o (bags_for mover other R T) here in
      let transition-is : o.transition ≡ T = ap (λ x. x.transition) w.1.1 in
      let bag-is : o.bag ≡ w.0 = ap (λ x. x.bag) w.1.1 in
      record {
        on_side = ap (λ x. x.side) w.1.1;
        below = omega arith;
        bag_in = subst (λ s. In o.bag (bags_for mover other R s)) (sym transition-is) (subst (λ zs. In zs (bags_for mover other R T)) (sym bag-is) w.1.0);
      }
      )
]
