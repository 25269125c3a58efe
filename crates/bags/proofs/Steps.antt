-- The steps of a sequence on lists.
use Rattle.std.specs.List.{copy_within, count_by, position, position_or_len, remove}
use Rattle.std.proofs.Common.{◌≡◌, ℕ, zero, suc, ◌+◌, ◌-◌, ◌<◌, ◌≤◌, Bool, true, false, not, cond, Option, Some, None, MatchOption, List, [], ◌∷◌, ◌++◌, length, take, drop, set, sym, refl, ap, ◌∙◌, subst, add-one, arith}
use Rattle.std.proofs.Math.Dec.{ltb}
use Rattle.std.proofs.lemmas.Bool.{ltb-true, ltb-false}
use Rattle.std.proofs.lemmas.List.{take-take, length-take, length-drop, length-append, take_at, drop-take}
use Rattle.std.proofs.lemmas.List.Sums.{sum_by-cons}
use Rattle.bags.specs.Equality.{Counts, none, one, other, Removes, absent, here, later}

-- a write inside the front of a list
pub set_take : {X : Type 0} (n i : ℕ) (x : X) (xs : List X) → i < n → take n (set xs i x) ≡ set (take n xs) i x
set_take zero i x xs l = absurd (omega arith)
set_take (suc n) i x [] l = refl
set_take (suc n) zero x (y ∷ xs) l = refl
set_take (suc n) (suc i) x (y ∷ xs) l = ap (λ ys. y ∷ ys) (set_take n i x xs (omega arith))

-- what the elements are after the one at i is taken out and those behind it are moved up
pub closed : {X : Type 0} (xs : List X) (n i : ℕ) → i < n → n ≤ length xs → take (n - 1) (copy_within xs (i + 1) n i) ≡ remove (take n xs) i
closed xs n i l m =
    let k = n - (i + 1) in
    let e : n ≡ i + 1 + k = omega arith in
    let front = take i xs ++ take k (drop (i + 1) xs) in
    let long : length front ≡ n - 1 = omega (arith, length-append (take i xs) (take k (drop (i + 1) xs)), length-take i xs, length-take k (drop (i + 1) xs), length-drop (i + 1) xs) in
    take_at front (drop (i + k) xs) (n - 1) long ∙
    ap (λ t. t ++ take k (drop (i + 1) xs)) (sym (take-take i n xs (omega arith))) ∙
    ap (λ t. take i (take n xs) ++ t) (sym (ap (λ j. drop (i + 1) (take j xs)) e ∙ drop-take (i + 1) k xs)) ∙
    ap (λ j. take i (take n xs) ++ drop j (take n xs)) (add-one i)

-- an equality that answers as the test does
module _ {X : Type 0} (e : X → Bool) where
  counts_more : (y : X) (ys : List X) (b : Bool) → e y ≡ b → Counts (λ z c. c ≡ e z) ys (count_by e ys) → Counts (λ z c. c ≡ e z) (y ∷ ys) (count_by e (y ∷ ys))
  counts_more y ys true h c = subst (Counts (λ z c. c ≡ e z) (y ∷ ys)) (omega (arith, sum_by-cons (λ x. cond (e x) 1 0) y ys, ap (λ b. cond b (suc 0) 0) h)) (one y ys (count_by e ys) (sym h) c)
  counts_more y ys false h c = subst (Counts (λ z c. c ≡ e z) (y ∷ ys)) (omega (arith, sum_by-cons (λ x. cond (e x) 1 0) y ys, ap (λ b. cond b (suc 0) 0) h)) (other y ys (count_by e ys) (sym h) c)

  counts_tested : (xs : List X) → Counts (λ y b. b ≡ e y) xs (count_by e xs)
  counts_tested [] = none
  counts_tested (y ∷ ys) = counts_more y ys (e y) refl (counts_tested ys)

  pub counts_from : (xs : List X) (n : ℕ) → n ≡ count_by e xs → Counts (λ y b. b ≡ e y) xs n
  counts_from xs n h = subst (Counts (λ y b. b ≡ e y) xs) (sym h) (counts_tested xs)

  -- the earliest that passes the test is taken out at n, or none does and n is the length
  abbrev Located : List X → ℕ → Type 0
  Located xs n = (n < length xs → Removes (λ y b. b ≡ e y) xs true (remove xs n)) × (length xs ≤ n → Removes (λ y b. b ≡ e y) xs false xs)

  located_more : (y : X) (ys : List X) (n : ℕ) (b : Bool) → e y ≡ b → Located ys n → Located (y ∷ ys) (cond (not b) (1 + n) 0)
  located_more y ys n true h rest = (λ l. here y ys (sym h), λ l. absurd (omega arith))
  located_more y ys n false h rest = subst (Located (y ∷ ys)) {x = suc n} (omega arith) (
    λ l. later y ys true (remove ys n) (sym h) (rest.0 (omega arith)),
    λ l. later y ys false ys (sym h) (rest.1 (omega arith)),
  )

  located : (xs : List X) → Located xs (position_or_len e xs)
  located [] = (λ l. absurd (omega arith), λ l. absent)
  located (y ∷ ys) = located_more y ys (position_or_len e ys) (e y) refl (located ys)

  abbrev Found : List X → Option ℕ → Type 0
  Found xs r = MatchOption r (Removes (λ y b. b ≡ e y) xs false xs) (λ i. Removes (λ y b. b ≡ e y) xs true (remove xs i))

  found : (xs : List X) (n : ℕ) (b : Bool) → ltb n (length xs) ≡ b → Located xs n → Found xs (cond b (Some n) None)
  found xs n true q at = at.0 (ltb-true _ _ q)
  found xs n false q at = at.1 (ltb-false _ _ q)

  pub removes_from : (xs : List X) (r : Option ℕ) → r ≡ position e xs → MatchOption r (Removes (λ y b. b ≡ e y) xs false xs) (λ i. Removes (λ y b. b ≡ e y) xs true (remove xs i))
  removes_from xs r h = subst (Found xs) (sym h) (found xs (position_or_len e xs) (ltb (position_or_len e xs) (length xs)) refl (located xs))
