-- A set never outnumbers the places that its tokens are paired with.
use Rattle.std.proofs.Common.{◌≡◌, ℕ, suc, ◌<◌, ◌≤◌, Bool, true, false, cond, ◌&&◌, refl, ap, inl, inr, arith}
use Rattle.std.proofs.lemmas.Bool.{cases_lt, and_from}
use Rattle.places.specs.Bags.{Bag, single, ◌⊕◌}
use Rattle.places.specs.Sets.{Subset, PlaceRelation, tokens_on, Placed}
use Rattle.places.specs.Laws.{single_same, tokens_empty, tokens_sum, tokens_at, tokens_single_le}
use Rattle.pairing.specs.Closure.{Closure, none, more}
use Rattle.pairing.specs.Outnumbering.{beside, OutnumberedApart}
use Rattle.pairing.specs.Laws.{turned_closure, some_from, of_T}

-- a token on a, where A has a, is matched by one on b, where B has b
pub carry : (A B : Subset) (a b : ℕ) (m n : Bag) → (A a ≡ true → B b ≡ true) → b < 16 → tokens_on A m ≤ tokens_on B n → tokens_on A (single a ⊕ m) ≤ tokens_on B (single b ⊕ n)
carry A B a b m n h l w = omega (arith, tokens_sum 16 A (single a) m, tokens_sum 16 B (single b) n, tokens_single_le 16 A a, go (A a) refl)
  where
    go : (v : Bool) → A a ≡ v → cond (A a) 1 0 ≤ tokens_on B (single b)
    go true e = omega (arith, ap (λ v. cond v (suc 0) 0) e, tokens_at 16 B (single b) b l (h e), single_same b)
    go false e = omega (arith, ap (λ v. cond v (suc 0) 0) e)

-- where a token lies on a place, that place is below 16
low : (m : Bag) (a : ℕ) → Placed (single a ⊕ m) → a < 16
low m a z = elim (cases_lt a 16) [ inl h ↦ h | inr h ↦ omega (arith, z a h, single_same a) ]

rest : (m : Bag) (a : ℕ) → Placed (single a ⊕ m) → Placed m
rest m a z p l = omega (arith, z p l)

closure_counts : {R : PlaceRelation} {m n : Bag} (S : Subset) → Closure R m n → Placed m → Placed n → tokens_on S m ≤ tokens_on (beside R S) n
closure_counts {R} S none zm zn = omega (arith, tokens_empty 16 S, tokens_empty 16 (beside R S))
closure_counts {R} S (more a b {m} {n} r c) zm zn =
    carry S (beside R S) a b m n (λ h. some_from (λ p. S p && R p b) 16 a (low m a zm) (and_from (S a) (R a b) h (of_T _ r))) (low n b zn)
    (closure_counts S c (rest m a zm) (rest n b zn))

pub outnumbered_apart : OutnumberedApart
outnumbered_apart R m n S zm zn = (
  λ more c. omega (arith, more, closure_counts S c zm zn),
  λ more c. omega (arith, more, closure_counts S (turned_closure c) zn zm),
)
