-- The steps of bags, sets and relations on tables.
use Rattle.std.specs.List.{sum_by}
use Rattle.std.proofs.Common.{◌≡◌, ℕ, zero, suc, ◌+◌, ◌-◌, ◌<◌, ◌≤◌, false, cond, eqb, ◌⊎◌, List, [], length, get_or, take, set, replicate, sym, refl, ap, ◌∙◌, subst, inl, inr, add-one, arith}
use mathlib.Core.Path.{fun_ext}
use Rattle.std.proofs.lemmas.List.{get_or-set_same, get_or-set_other, get_or-replicate, get_or_past, length-replicate, take_all}
use Rattle.std.proofs.lemmas.Bool.{cases_eq, cases_lt, eq-eqb, ne_eqb}
use Rattle.places.specs.Bags.{Bag, empty, single, ◌⊕◌, ◌⊖◌}
use Rattle.places.specs.Sets.{everywhere, size, tokens_below, unrelated}
use Rattle.places.specs.Tables.{counted, rowed, Square}
use Rattle.places.specs.Laws.{tokens_none, tokens_more}
use Rattle.std.proofs.lemmas.List.Sums.{sum_by_more}

-- an entry of a table of counts after a write at i
at_set : (l : List ℕ) (i k v : ℕ) → i < length l → (Q : ℕ → ℕ → Type 0) → (i ≡ k → Q v (suc 0)) → ((i ≡ k → ⊥) → Q (get_or l k 0) 0) → Q (get_or (set l i v) k 0) (cond (eqb i k) 1 0)
at_set l i k v h Q same other = elim (cases_eq i k) [
  | inl e ↦ subst (λ b. Q (get_or (set l i v) k 0) (cond b 1 0)) (sym (eq-eqb i k e)) (subst (λ n. Q n (suc 0)) (sym (subst (λ n. get_or (set l i v) n 0 ≡ v) e (get_or-set_same l i v 0 h))) (same e))
  | inr n ↦ subst (λ b. Q (get_or (set l i v) k 0) (cond b 1 0)) (sym (ne_eqb i k n)) (subst (λ x. Q x 0) (sym (get_or-set_other l i k v 0 (λ e. n (sym e)))) (other n))
]

-- one token put on i
pub plus_one : (l : List ℕ) (i : ℕ) → i < length l → counted (set l i (get_or l i 0 + 1)) ≡ single i ⊕ counted l
plus_one l i h = fun_ext (λ k. at_set l i k (get_or l i 0 + 1) h (λ x one. x ≡ one + get_or l k 0) (λ e. omega (arith, ap (λ n. get_or l n 0) e)) (λ n. omega arith))

-- one token taken from i
pub less_one : (l : List ℕ) (i : ℕ) → i < length l → counted (set l i (get_or l i 0 - 1)) ≡ counted l ⊖ single i
less_one l i h = fun_ext (λ k. at_set l i k (get_or l i 0 - 1) h (λ x one. x ≡ get_or l k 0 - one) (λ e. omega (arith, ap (λ n. get_or l n 0) e)) (λ n. omega arith))

-- nothing is taken from a place that has no token
pub none_taken : (m : Bag) (i : ℕ) → m i ≡ 0 → m ≡ m ⊖ single i
none_taken m i none = fun_ext (λ k. here k (cases_eq i k))
  where
    here : (k : ℕ) → (i ≡ k) ⊎ (i ≡ k → ⊥) → m k ≡ m k - cond (eqb i k) 1 0
    here k (inl e) = omega (arith, ap m e)
    here k (inr n) = omega (arith, ap (λ b. cond b (suc 0) 0) (ne_eqb i k n))

pub all_default : {X : Type 0} (d : X) (k i : ℕ) → get_or (replicate k d) i d ≡ d
all_default d k i = elim (cases_lt i k) [ inl l ↦ get_or-replicate k i d d l | inr l ↦ get_or_past (replicate k d) i d (omega (arith, length-replicate k d)) ]

pub no_counts : counted (replicate 16 0) ≡ empty
no_counts = fun_ext (λ p. all_default 0 16 p)

pub no_rows : rowed (replicate 16 (replicate 16 false)) ≡ unrelated
no_rows = fun_ext (λ p. fun_ext (λ q. here p q (cases_lt p 16)))
  where
    here : (p q : ℕ) → (p < 16) ⊎ (16 ≤ p) → get_or (get_or (replicate 16 (replicate 16 false)) p []) q false ≡ false
    here p q (inl l) = ap (λ row. get_or row q false) (get_or-replicate 16 p (replicate 16 false) [] l) ∙ all_default false 16 q
    here p q (inr l) = ap (λ row. get_or row q false) (get_or_past (replicate 16 (replicate 16 false)) p [] l)

pub square_rows : Square (replicate 16 (replicate 16 false))
square_rows = (refl, λ p l. ap length (get_or-replicate 16 p (replicate 16 false) [] l))

-- a place with a token is in the table
pub in_table : (l : List ℕ) (i : ℕ) → (get_or l i 0 ≡ 0 → ⊥) → i < length l
in_table l i some = elim (cases_lt i (length l)) [ inl h ↦ h | inr h ↦ absurd (some (get_or_past l i 0 h)) ]

-- the tokens on the first places of a table are the sum of its first entries
tokens_sum_by : (l : List ℕ) (k : ℕ) → k ≤ length l → tokens_below k everywhere (counted l) ≡ sum_by (λ x. x) (take k l)
tokens_sum_by l zero h = tokens_none everywhere (counted l)
tokens_sum_by l (suc k) h =
    ap (λ n. tokens_below n everywhere (counted l)) (sym (add-one k)) ∙
    tokens_more k everywhere (counted l) ∙
    ap (λ n. n + get_or l k 0) (tokens_sum_by l k (omega arith)) ∙
    sym (sum_by_more (λ x. x) l k 0 (omega arith)) ∙
    ap (λ n. sum_by (λ x. x) (take n l)) (add-one k)

-- and those on all places the sum of all
pub size_sum_by : (l : List ℕ) → length l ≡ 16 → sum_by (λ x. x) l ≡ size (counted l)
size_sum_by l e = sym (tokens_sum_by l 16 (omega (arith, e)) ∙ ap (sum_by (λ x. x)) (take_all 16 l (omega (arith, e))))
