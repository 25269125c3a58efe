-- What a fold over digits keeps.
use Rattle.std.proofs.Common.{◌≡◌, ℕ, suc, ◌+◌, ◌-◌, ◌*◌, ◌^◌, ◌<◌, ◌≤◌, true, ◌&&◌, leb, List, [], ◌∷◌, ◌++◌, length, map, sym, refl, ap, ◌∙◌, pow-suc, add-zero, add-one, arith, lit<, Iter, Bor, length-append}
use native.Mathlib.Nat.{pow-le-pow_right}
use Rattle.std.proofs.lemmas.Bool.{and_parts, leb-true}
use Rattle.std.proofs.lemmas.List.Folds.{list_all-append}
use Rattle.std.proofs.lemmas.Fn.{fronts}
use Rattle.std.specs.Iterator.{Yields}
use Rattle.numerals.specs.Numerals.{is_digit, all_digits, is_numeral, value_after}

digit_range : (b : ℕ) → is_digit b ≡ true → (48 ≤ b) × (b ≤ 57)
digit_range b e = let p = and_parts (leb 48 b) (leb b 57) e in (leb-true 48 b p.0, leb-true b 57 p.1)

-- digits behind a number of k digits
value_small : (bs : List ℕ) (n k : ℕ) → all_digits bs ≡ true → n < 10 ^ k → value_after n bs < 10 ^ (k + length bs)
value_small [] n k d h = rw add-zero h
value_small (b ∷ bs) n k d h =
    let p = and_parts (is_digit b) (all_digits bs) d in
    let r = digit_range b p.0 in
    let next : n * 10 + (b - 48) < 10 ^ (k + 1) = simp (add-one, pow-suc) (omega (arith, h)) in
    let e : k + suc (length bs) ≡ k + 1 + length bs = omega arith in
    rw e (value_small bs (n * 10 + (b - 48)) (k + 1) p.1 next)

-- what a slice's iterator gave stands before what it has left
pub given_front : (s : Iter ℕ) (xs : List (Bor ℕ)) (t : Iter ℕ) → Yields fronts s xs t → s.rest.now ≡ map (λ y. y.now) xs ++ t.rest.now
given_front s [] t e = ap (λ i. i.rest.now) e
given_front s (x ∷ xs) t (j, first, more) = first ∙ ap (λ l. x.now ∷ l) (given_front j xs t more)

-- at a digit b of a numeral, where the digits before it have been read
pub at_digit : (bs done behind : List ℕ) (b : ℕ) → is_numeral bs ≡ true → bs ≡ done ++ b ∷ behind → ((48 ≤ b) × (b ≤ 57)) × (value_after 0 done < 10000)
at_digit bs done behind b h e =
    let p = and_parts (leb 1 (length bs) && leb (length bs) 5) (all_digits bs) h in
    let q = and_parts (leb 1 (length bs)) (leb (length bs) 5) p.0 in
    let parts = and_parts (all_digits done) (all_digits (b ∷ behind)) (sym (list_all-append is_digit done (b ∷ behind)) ∙ ap all_digits (sym e) ∙ p.1) in
    let few : 0 + length done ≤ 4 = omega (arith, leb-true (length bs) 5 q.1, ap length e, length-append done (b ∷ behind)) in
    let bound : 10 ^ (0 + length done) ≤ 10 ^ 4 = pow-le-pow_right (lit< tt) few in
    (digit_range b (and_parts (is_digit b) (all_digits behind) parts.1).0, omega (arith, value_small done 0 0 parts.0 (lit< tt)))

-- the value with one digit more
pub value_more : (xs : List (Bor ℕ)) (x : Bor ℕ) (n : ℕ) → value_after n (map (λ y. y.now) (xs ++ x ∷ [])) ≡ value_after n (map (λ y. y.now) xs) * 10 + (x.now - 48)
value_more [] x n = refl
value_more (y ∷ xs) x n = value_more xs x (n * 10 + (y.now - 48))
