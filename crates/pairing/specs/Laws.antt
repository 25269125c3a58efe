-- The laws of the closure, and of tests below a number, that the crates above use. Assumes nothing.
use Rattle.std.specs.Prelude.{◌≡◌, ℕ, zero, suc, ◌+◌, ◌<◌, Bool, true, false, ◌||◌, T, [], ◌∷◌, ◌++◌, refl}
use Rattle.std.specs.List.{list_any, range_with_len}
use Rattle.std.proofs.Common.{sym, ap, ◌∙◌, subst, subst₂, inl, inr, arith}
use Rattle.std.proofs.Math.Path.{fun_ext}
use Rattle.std.proofs.lemmas.List.Folds.{list_any-append}
use Rattle.std.proofs.lemmas.Bool.{cases_eq, or_left, or_right, or_cases, false≢true}
use Rattle.places.specs.Bags.{Bag, empty, single, ◌⊕◌, ◌⊖◌, ◌⊆◌}
use Rattle.places.specs.Sets.{PlaceRelation, turned}
use Rattle.places.specs.Laws.{single_same, single_other, single_le}
use Rattle.pairing.specs.Closure.{Closure, none, more}
use Rattle.pairing.specs.Outnumbering.{some_below}

-- the closure of the turned relation relates the bags the other way round
pub turned_closure : {R : PlaceRelation} {m n : Bag} → Closure R m n → Closure (turned R) n m
turned_closure none = none
turned_closure (more a b r c) = more b a r (turned_closure c)

-- bags are compared place by place
pub moved : {R : PlaceRelation} {m n l k : Bag} → ((p : ℕ) → m p ≡ n p) → ((q : ℕ) → l q ≡ k q) → Closure R m l → Closure R n k
moved {R} f g c = subst₂ (Closure R) (fun_ext f) (fun_ext g) c

-- each token on the right has a partner on the left
pub partner : {R : PlaceRelation} {m l : Bag} → Closure R m l → (q : ℕ) → 0 < l q → (p : ℕ) × (T (R p q) × (0 < m p))
partner none q some = absurd (omega arith)
partner {R} (more a b {m} {n} r c) q some = elim (cases_eq b q) [
  | inl e ↦ (a, (subst (λ (v : ℕ). T (R a v)) e r, omega (arith, single_same a)))
  | inr e ↦ (let x = partner c q (omega (arith, single_other b q e)) in (x.0, (x.1.0, omega arith)))
]

-- only the empty bag is related to the empty bag
pub emptied : {R : PlaceRelation} {m l : Bag} → Closure R m l → ((p : ℕ) → m p ≡ 0) → (q : ℕ) → l q ≡ 0
emptied {R} {m} {l} c e q = elim (cases_eq (l q) 0) [
  | inl z ↦ z
  | inr z ↦ (let x = partner c q (omega arith) in absurd (omega (arith, e x.0)))
]

-- a pair whose left end is a, and the rest
pub record Picked (R : PlaceRelation) (m l : Bag) (a : ℕ) : Type 0 where
  pub other : ℕ
  pub here : T (R a other)
  pub held : 0 < l other
  pub rest : Closure R (m ⊖ single a) (l ⊖ single other)

pub pick : {R : PlaceRelation} {m l : Bag} → Closure R m l → (a : ℕ) → 0 < m a → Picked R m l a
pick none a h = absurd (omega arith)
pick {R} (more b c {m} {n} r d) a h = elim (cases_eq b a) [
  | inl e ↦ record { other = c; here = subst (λ (v : ℕ). T (R v c)) e r; held = omega (arith, single_same c); rest = moved (λ p. omega (arith, ap (λ (v : ℕ). single v p) e)) (λ q. omega arith) d }
  | inr e ↦ (
      let x = pick d a (omega (arith, single_other b a e)) in
      record { other = x.other; here = x.here; held = omega (arith, x.held); rest = moved (λ p. omega (arith, single_le m a p (omega (arith, single_other b a e)))) (λ q. omega (arith, single_le n x.other q x.held)) (more b c r x.rest) }
      )
]

-- the pairs of the tokens of b: the bag of their other ends, and that the rest stays related
pub record Chosen (R : PlaceRelation) (m l b : Bag) : Type 0 where
  pub bag : Bag
  pub held : bag ⊆ l
  pub taken : Closure R b bag
  pub rest : Closure R (m ⊖ b) (l ⊖ bag)

-- the newest pair is not needed
skip : {R : PlaceRelation} (a c : ℕ) {m n : Bag} (b : Bag) → T (R a c) → Chosen R m n b → b ⊆ m → Chosen R (single a ⊕ m) (single c ⊕ n) b
skip a c b r x h = record {
  bag = x.bag;
  held = λ q. omega (arith, x.held q);
  taken = x.taken;
  rest = moved (λ p. omega (arith, h p)) (λ q. omega (arith, x.held q)) (more a c r x.rest);
}

-- it is: its left end is in b
use_it : {R : PlaceRelation} (a c : ℕ) {m n : Bag} (b : Bag) → T (R a c) → Chosen R m n (b ⊖ single a) → single a ⊆ b → Chosen R (single a ⊕ m) (single c ⊕ n) b
use_it a c b r x h = record {
  bag = single c ⊕ x.bag;
  held = λ q. omega (arith, x.held q);
  taken = moved (λ p. omega (arith, h p)) (λ q. refl) (more a c r x.taken);
  rest = moved (λ p. omega (arith, h p)) (λ q. omega arith) x.rest;
}

single_out : (a : ℕ) (b m : Bag) → b a ≡ 0 → b ⊆ single a ⊕ m → b ⊆ m
single_out a b m z h p = elim (cases_eq a p) [
  | inl e ↦ omega (arith, ap b e)
  | inr e ↦ omega (arith, h p, single_other a p e)
]

pub choose : {R : PlaceRelation} {m l : Bag} → Closure R m l → (b : Bag) → b ⊆ m → Chosen R m l b
choose none b h = record {
  bag = empty;
  held = λ p. omega arith;
  taken = moved (λ p. omega (arith, h p)) (λ q. refl) none;
  rest = moved (λ p. omega arith) (λ q. omega arith) none;
}
choose {R} (more a c {m} {n} r d) b h = elim (cases_eq (b a) 0) [
  | inl z ↦ skip a c b r (choose d b (single_out a b m z h)) (single_out a b m z h)
  | inr z ↦ use_it a c b r (choose d (b ⊖ single a) (λ p. omega (arith, h p))) (λ p. single_le b a p (omega arith))
]

-- a test and the statement that it passes
pub T_of : (b : Bool) → b ≡ true → T b
T_of b e = subst T (sym e) tt

pub of_T : (b : Bool) → T b → b ≡ true
of_T true t = refl
of_T false t = absurd t

-- the numbers below k and one more
plus_zero : (n : ℕ) → n ≡ n + 0
plus_zero n = omega arith

plus_more : (a n : ℕ) → a + 1 + n ≡ a + suc n
plus_more a n = omega arith

range_more : (a n : ℕ) → range_with_len a (suc n) ≡ range_with_len a n ++ (a + n) ∷ []
range_more a zero = ap (λ k. k ∷ []) (plus_zero a)
range_more a (suc n) = ap (λ ks. a ∷ ks) (range_more (a + 1) n ∙ ap (λ k. range_with_len (a + 1) n ++ k ∷ []) (plus_more a n))

zero_plus : (n : ℕ) → 0 + n ≡ n
zero_plus n = omega arith

pub range_to : (n : ℕ) → range_with_len 0 (suc n) ≡ range_with_len 0 n ++ n ∷ []
range_to n = range_more 0 n ∙ ap (λ k. range_with_len 0 n ++ k ∷ []) (zero_plus n)

or_false : (b : Bool) → (b || false) ≡ b
or_false true = refl
or_false false = refl

some_step : (f : ℕ → Bool) (k : ℕ) → some_below f (suc k) ≡ (some_below f k || f k)
some_step f k = ap (list_any f) (range_to k) ∙ list_any-append f (range_with_len 0 k) (k ∷ []) ∙ ap (λ b. some_below f k || b) (or_false (f k))

-- a test that passes at a number below k, and the number
pub some_from : (f : ℕ → Bool) (k i : ℕ) → i < k → f i ≡ true → some_below f k ≡ true
some_from f zero i l e = absurd (omega arith)
some_from f (suc k) i l e = some_step f k ∙ elim (cases_eq i k) [
  | inl p ↦ or_right (some_below f k) (f k) (ap f (sym p) ∙ e)
  | inr n ↦ or_left (some_below f k) (f k) (some_from f k i (omega arith) e)
]

pub some_is : (f : ℕ → Bool) (k : ℕ) → some_below f k ≡ true → (i : ℕ) × ((i < k) × (f i ≡ true))
some_is f zero e = absurd (false≢true e)
some_is f (suc k) e = elim (or_cases (some_below f k) (f k) (sym (some_step f k) ∙ e)) [
  | inl h ↦ (let r = some_is f k h in (r.0, (omega arith, r.1.1)))
  | inr h ↦ (k, (omega arith, h))
]
