-- Counting and removing where the equality is that of the values: the laws that callers use. Assumes nothing.
use Rattle.std.specs.Prelude.{◌≡◌, ℕ, suc, Bool, true, false, cond, ◌&&◌, ◌||◌, List, [], ◌∷◌, Decides, MatchBool, count_by, ◌==◌, nat_eq, refl}
use Rattle.std.specs.List.{list_any}
use Rattle.std.proofs.Common.{sym, ap, ◌∙◌, arith}
use Rattle.std.proofs.lemmas.List.Sums.{sum_by-cons}
use Rattle.std.proofs.lemmas.Bool.{eqb-true, eq-eqb}
use Rattle.bags.specs.Equality.{Counts, none, one, other, Removes, absent, here, later}

-- whether an element passes the test
abbrev pub some_passes : {X : Type 0} → (X → Bool) → List X → Bool
some_passes e xs = list_any e xs

-- the list without the earliest element that passes the test
abbrev pub without : {X : Type 0} → (X → Bool) → List X → List X
without e [] = []
without e (y ∷ ys) = cond (e y) ys (y ∷ without e ys)

-- whether two pairs of places are the same
abbrev pub same_pair : (ℕ × ℕ) → (ℕ × ℕ) → Bool
same_pair x y = x.0 == y.0 && x.1 == y.1

-- what the equality of numbers, and that of pairs of numbers, may answer: that of pairs asks for the second numbers only
-- where the first are equal
abbrev pub NumberEquals : ℕ → ℕ → Bool → Type 0
NumberEquals x y b = Decides b (y ≡ x)

abbrev pub PairEquals : (ℕ × ℕ) → (ℕ × ℕ) → Bool → Type 0
PairEquals x y b = (first : Bool) × NumberEquals x.0 y.0 first × MatchBool first (NumberEquals x.1 y.1 b) (b ≡ false)

-- where the equality can only answer as the test does, counting counts what passes the test
pub counts_by : {X : Type 0} {E : X → Bool → Type 0} (e : X → Bool) → ((y : X) (b : Bool) → E y b → b ≡ e y) → (xs : List X) (n : ℕ) → Counts E xs n → n ≡ count_by e xs
counts_by e tells [] n none = refl
counts_by e tells (y ∷ ys) n (one _ _ k h c) = omega (arith, counts_by e tells ys k c, sum_by-cons (λ x. cond (e x) 1 0) y ys, ap (λ b. cond b (suc 0) 0) (tells y true h))
counts_by e tells (y ∷ ys) n (other _ _ k h c) = omega (arith, counts_by e tells ys k c, sum_by-cons (λ x. cond (e x) 1 0) y ys, ap (λ b. cond b (suc 0) 0) (tells y false h))

-- and removing takes out the earliest that passes it, and says whether there is one
pub removes_by : {X : Type 0} {E : X → Bool → Type 0} (e : X → Bool) → ((y : X) (b : Bool) → E y b → b ≡ e y) → (xs : List X) (found : Bool) (zs : List X) → Removes E xs found zs → (found ≡ some_passes e xs) × (zs ≡ without e xs)
removes_by e tells [] found zs absent = (refl, refl)
removes_by e tells (y ∷ ys) found zs (here _ _ h) = (ap (λ b. b || some_passes e ys) (tells y true h), ap (λ b. cond b ys (y ∷ without e ys)) (tells y true h))
removes_by e tells (y ∷ ys) found zs (later _ _ _ ws h r) =
    let rest = removes_by e tells ys found ws r in (
      rest.0 ∙ ap (λ b. b || some_passes e ys) (tells y false h),
      ap (λ t. y ∷ t) rest.1 ∙ ap (λ b. cond b ys (y ∷ without e ys)) (tells y false h),
    )

pub number_tells : (x y : ℕ) (b : Bool) → NumberEquals x y b → b ≡ (y == x)
number_tells x y true h = sym (eq-eqb y x (h.0 refl))
number_tells x y false h = differs (y == x) refl
  where
    differs : (v : Bool) → (y == x) ≡ v → false ≡ v
    differs true e = h.1 (eqb-true y x e)
    differs false e = refl

pub pair_tells : (x y : ℕ × ℕ) (b : Bool) → PairEquals x y b → b ≡ same_pair y x
pair_tells x y b (true, h, k) = number_tells x.1 y.1 b k ∙ ap (λ v. v && y.1 == x.1) (number_tells x.0 y.0 true h)
pair_tells x y b (false, h, k) = k ∙ ap (λ v. v && y.1 == x.1) (number_tells x.0 y.0 false h)

-- at places and at pairs of places both are about the values themselves
abbrev pub ExactCounts : Type 0
ExactCounts = ((x : ℕ) (xs : List ℕ) (n : ℕ) → Counts (NumberEquals x) xs n → n ≡ count_by (λ y. nat_eq y x) xs)
    × ((x : ℕ × ℕ) (xs : List (ℕ × ℕ)) (n : ℕ) → Counts (PairEquals x) xs n → n ≡ count_by (λ y. same_pair y x) xs)

abbrev pub ExactRemoves : Type 0
ExactRemoves = ((x : ℕ) (xs : List ℕ) (found : Bool) (zs : List ℕ) → Removes (NumberEquals x) xs found zs → (found ≡ some_passes (λ y. nat_eq y x) xs) × (zs ≡ without (λ y. nat_eq y x) xs))
    × ((x : ℕ × ℕ) (xs : List (ℕ × ℕ)) (found : Bool) (zs : List (ℕ × ℕ)) → Removes (PairEquals x) xs found zs → (found ≡ some_passes (λ y. same_pair y x) xs) × (zs ≡ without (λ y. same_pair y x) xs))

-- and so they are about the answer that the contracts name at places and at pairs of places
abbrev pub EqualCounts : Type 0
EqualCounts = ((x : ℕ) (xs : List ℕ) (n : ℕ) → Counts (λ y b. b ≡ nat_eq y x) xs n → n ≡ count_by (λ y. nat_eq y x) xs)
    × ((x : ℕ × ℕ) (xs : List (ℕ × ℕ)) (n : ℕ) → Counts (λ y b. b ≡ (nat_eq y.0 x.0 && nat_eq y.1 x.1)) xs n → n ≡ count_by (λ y. same_pair y x) xs)

abbrev pub EqualRemoves : Type 0
EqualRemoves = ((x : ℕ) (xs : List ℕ) (found : Bool) (zs : List ℕ) → Removes (λ y b. b ≡ nat_eq y x) xs found zs → (found ≡ some_passes (λ y. nat_eq y x) xs) × (zs ≡ without (λ y. nat_eq y x) xs))
    × ((x : ℕ × ℕ) (xs : List (ℕ × ℕ)) (found : Bool) (zs : List (ℕ × ℕ)) → Removes (λ y b. b ≡ (nat_eq y.0 x.0 && nat_eq y.1 x.1)) xs found zs → (found ≡ some_passes (λ y. same_pair y x) xs) × (zs ≡ without (λ y. same_pair y x) xs))

pub exact_counts : ExactCounts
exact_counts = (λ x. counts_by (λ y. nat_eq y x) (number_tells x), λ x. counts_by (λ y. same_pair y x) (pair_tells x))

pub exact_removes : ExactRemoves
exact_removes = (λ x. removes_by (λ y. nat_eq y x) (number_tells x), λ x. removes_by (λ y. same_pair y x) (pair_tells x))

pub equal_counts : EqualCounts
equal_counts = (λ x. counts_by (λ y. nat_eq y x) (λ y b h. h), λ x. counts_by (λ y. same_pair y x) (λ y b h. h))

pub equal_removes : EqualRemoves
equal_removes = (λ x. removes_by (λ y. nat_eq y x) (λ y b h. h), λ x. removes_by (λ y. same_pair y x) (λ y b h. h))
