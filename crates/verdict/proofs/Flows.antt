-- What a transition takes or gives, as a list.
use Rattle.std.proofs.Common.{◌≡◌, ℕ, zero, suc, ◌+◌, ◌-◌, ◌<◌, ◌≤◌, List, [], ◌∷◌, ◌++◌, length, sym, refl, ap, ◌∙◌, inl, inr, append_assoc, append-nil, add-one, arith, length-append}
use mathlib.Core.Path.{fun_ext}
use Rattle.std.proofs.lemmas.Bool.{cases_lt}
use Rattle.places.specs.Bags.{Bag}
use Rattle.places.specs.Sets.{everywhere, tokens_below, size}
use Rattle.places.specs.Laws.{tokens_empty}
use Rattle.nets.specs.Meaning.{Meaning, Limits}
use Rattle.bisimulation.specs.Lists.{pile, list_from, list_of}
use Rattle.nets.specs.Roles.{weights_in}
use Rattle.nets.specs.declared.role.Role.{Role}
use Rattle.nets.specs.declared.role.Role.TheVariants.{Input, Output}

pile_front : (k x : ℕ) (zs : List ℕ) → pile k x (x ∷ zs) ≡ x ∷ pile k x zs
unfolding pile
pile_front zero x zs = refl
pile_front (suc k) x zs = ap (λ ys. x ∷ ys) (pile_front k x zs)

pub pile_more : (k x : ℕ) (zs : List ℕ) → pile k x (x ∷ zs) ≡ pile (k + 1) x zs
unfolding pile
pile_more k x zs = rw add-one (pile_front k x zs)

pub pile_none : (x : ℕ) (zs : List ℕ) → pile 0 x zs ≡ zs
unfolding pile
pile_none x zs = refl

pub length_pile : (k x : ℕ) (zs : List ℕ) → length (pile k x zs) ≡ k + length zs
unfolding pile
length_pile zero x zs = omega arith
length_pile (suc k) x zs = omega (arith, length_pile k x zs)

-- k places were piled on the list xs
pub record Piled (xs ys : List ℕ) (x k : ℕ) : Type 0 where
  pub long : length ys ≡ length xs + k
  pub are : (zs : List ℕ) → ys ++ zs ≡ xs ++ pile k x zs

pub piled_none : (xs : List ℕ) (x : ℕ) → Piled xs xs x 0
piled_none xs x = record { long = omega arith; are = λ zs. ap (λ ys. xs ++ ys) (sym (pile_none x zs)) }

pub piled_more : {xs ys : List ℕ} {x k : ℕ} (ws : List ℕ) → ws ≡ ys ++ x ∷ [] → Piled xs ys x k → Piled xs ws x (k + 1)
piled_more {xs} {ys} {x} {k} ws e h = record {
  long = ap length e ∙ length-append ys (x ∷ []) ∙ omega (arith, h.long);
  are = λ zs. ap (λ vs. vs ++ zs) e ∙ append_assoc ys (x ∷ []) zs ∙ h.are (x ∷ zs) ∙ ap (λ vs. xs ++ vs) (pile_more k x zs);
}

pub piled_all : {xs ys : List ℕ} {x : ℕ} (k times : ℕ) → k ≡ times → Piled xs ys x k → (zs : List ℕ) → ys ++ zs ≡ xs ++ pile times x zs
piled_all {xs} {ys} {x} k times e h zs = h.are zs ∙ ap (λ n. xs ++ pile n x zs) e

-- how long the list of a bag is
pub list_length : (d lo : ℕ) (m : Bag) → tokens_below lo everywhere m + length (list_from d lo m) ≡ tokens_below (lo + d) everywhere m
unfolding list_from tokens_below
list_length zero lo m = omega (arith, ap (λ n. tokens_below n everywhere m) (omega_zero lo))
  where
    omega_zero : (n : ℕ) → n + 0 ≡ n
    omega_zero n = omega arith
list_length (suc d) lo m = omega (arith, length_pile (m lo) lo (list_from d (suc lo) m), list_length d (suc lo) m, ap (λ n. tokens_below n everywhere m) (shift lo d))
  where
    shift : (a b : ℕ) → suc a + b ≡ a + suc b
    shift a b = omega arith

below_size : (d k : ℕ) (m : Bag) → tokens_below k everywhere m ≤ tokens_below (k + d) everywhere m
unfolding tokens_below
below_size zero k m = omega (arith, ap (λ n. tokens_below n everywhere m) (plus_zero k))
  where
    plus_zero : (n : ℕ) → n + 0 ≡ n
    plus_zero n = omega arith
below_size (suc d) k m = omega (arith, below_size d k m, ap (λ n. tokens_below n everywhere m) (plus_suc k d))
  where
    plus_suc : (a b : ℕ) → a + suc b ≡ suc (a + b)
    plus_suc a b = omega arith

pub list_short : (places : ℕ) (m : Bag) → places ≤ 16 → length (list_of places m) ≤ size m
unfolding list_of tokens_below
list_short places m l = omega (arith, list_length places 0 m, below_size (16 - places) places m, ap (λ n. tokens_below n everywhere m) (whole places l), ap (λ n. tokens_below n everywhere m) (none places))
  where
    whole : (n : ℕ) → n ≤ 16 → n + (16 - n) ≡ 16
    whole n g = omega arith

    none : (n : ℕ) → 0 + n ≡ n
    none n = omega arith

small : (n : Meaning) (role : Role) (t : ℕ) → Limits n → size (weights_in n role t) ≤ 4
small n Input t lim = elim (cases_lt t n.transitions) [
  | inl l ↦ lim.few_inputs t l
  | inr g ↦ omega (arith, ap size (fun_ext (λ p. lim.no_transition_input t p g)), tokens_empty 16 everywhere)
]
small n Output t lim = elim (cases_lt t n.transitions) [
  | inl l ↦ lim.few_outputs t l
  | inr g ↦ omega (arith, ap size (fun_ext (λ p. lim.no_transition_output t p g)), tokens_empty 16 everywhere)
]

pub flow_short : (n : Meaning) (role : Role) (t : ℕ) → Limits n → length (list_of n.places (weights_in n role t)) ≤ 4
flow_short n role t lim = omega (arith, list_short n.places (weights_in n role t) lim.few_places, small n role t lim)

-- the places below p are in the list, and the others are to come
pub record ListedTo (m : Bag) (places p : ℕ) (xs : List ℕ) : Type 0 where
  pub are : list_of places m ≡ xs ++ list_from (places - p) p m

pub listed_none : (m : Bag) (places : ℕ) → ListedTo m places 0 []
unfolding list_of
listed_none m places = record { are = ap (λ n. list_from n 0 m) (minus_zero places) }
  where
    minus_zero : (n : ℕ) → n ≡ n - 0
    minus_zero n = omega arith

open_from : (d p : ℕ) (m : Bag) → 0 < d → list_from d p m ≡ pile (m p) p (list_from (d - 1) (p + 1) m)
unfolding list_from
open_from zero p m h = absurd (omega arith)
open_from (suc d) p m h = ap (λ n. pile (m p) p (list_from n (suc p) m)) (one_less d) ∙ ap (λ q. pile (m p) p (list_from (suc d - 1) q m)) (one_more p)
  where
    one_less : (n : ℕ) → n ≡ suc n - 1
    one_less n = omega arith

    one_more : (n : ℕ) → suc n ≡ n + 1
    one_more n = omega arith

pub listed_more : (m : Bag) (places p : ℕ) (xs ys : List ℕ) (w : ℕ) → p < places → w ≡ m p → ((zs : List ℕ) → ys ++ zs ≡ xs ++ pile w p zs) → ListedTo m places p xs → ListedTo m places (p + 1) ys
listed_more m places p xs ys w l e piled h =
    record { are = h.are ∙ ap (λ zs. xs ++ zs) (open_from (places - p) p m (omega arith)) ∙ ap (λ n. xs ++ pile n p (list_from (places - p - 1) (p + 1) m)) (sym e) ∙ sym (piled (list_from (places - p - 1) (p + 1) m)) ∙ ap (λ n. ys ++ list_from n (p + 1) m) (fewer places p) }
  where
    fewer : (a b : ℕ) → a - b - 1 ≡ a - (b + 1)
    fewer a b = omega arith

-- the list so far and the next weight are short
pub still_short : (m : Bag) (places p : ℕ) (xs : List ℕ) (w : ℕ) → p < places → w ≡ m p → length (list_of places m) ≤ 4 → ListedTo m places p xs → length xs + w ≤ 4
still_short m places p xs w l e few h =
    omega (arith, ap length h.are, length-append xs (list_from (places - p) p m), ap length (open_from (places - p) p m (omega arith)), length_pile (m p) p (list_from (places - p - 1) (p + 1) m))

pub listed_all : {m : Bag} {places p : ℕ} {xs : List ℕ} → places ≤ p → ListedTo m places p xs → xs ≡ list_of places m
unfolding list_from
listed_all {m} {places} {p} {xs} l h = sym (h.are ∙ ap (λ n. xs ++ list_from n p m) (nothing places p l) ∙ append-nil xs)
  where
    nothing : (a b : ℕ) → a ≤ b → a - b ≡ 0
    nothing a b g = omega arith
