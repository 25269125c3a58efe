-- The steps of the loop over a list of tokens.
use Rattle.std.proofs.Common.{◌≡◌, ℕ, ◌+◌, ◌<◌, cond, ltb, List, ◌∷◌, length, get_or, drop, Ok, Err, Result, sym, ap, ◌∙◌, arith}
use Rattle.std.proofs.lemmas.List.{at_drop_more}
use Rattle.std.proofs.lemmas.Bool.{lt-ltb, le-ltb}
use Rattle.places.specs.Bags.{Bag, single, ◌⊕◌}
use Rattle.places.specs.Sets.{size}
use Rattle.places.specs.Refusals.{Laid}
use Rattle.places.specs.declared.LayRefusal.{LayRefusal}
use Rattle.places.specs.declared.LayRefusal.TheVariants.{NoSuchPlace, Full}
use Rattle.std.specs.Result.{IsErrAnd}
use Rattle.places.specs.declared.place_bag.PlaceBag.{PlaceBag}
use Rattle.places.specs.Lists.{meant, with_tokens}

-- one token laid, or refused
laid_one : (m after : Bag) (x : ℕ) (xs : List ℕ) (done : Unit {0}) → Laid m x (Ok done) after → with_tokens m (x ∷ xs) ≡ with_tokens after xs
laid_one m after x xs done h =
    ap (λ b. cond b (cond (ltb (size m) 64) (with_tokens (single x ⊕ m) xs) (Err Full)) (Err NoSuchPlace)) (lt-ltb x 16 h.0) ∙
    ap (λ b. cond b (with_tokens (single x ⊕ m) xs) (Err Full)) (lt-ltb (size m) 64 h.1) ∙
    ap (λ n. with_tokens n xs) (sym h.2)

refused_one : (m after : Bag) (x : ℕ) (xs : List ℕ) (e : LayRefusal) → Laid m x (Err e) after → with_tokens m (x ∷ xs) ≡ Err e
refused_one m after x xs NoSuchPlace h = ap (λ b. cond b (cond (ltb (size m) 64) (with_tokens (single x ⊕ m) xs) (Err Full)) (Err NoSuchPlace)) (le-ltb x 16 h.0)
refused_one m after x xs Full h =
    ap (λ b. cond b (cond (ltb (size m) 64) (with_tokens (single x ⊕ m) xs) (Err Full)) (Err NoSuchPlace)) (lt-ltb x 16 h.0) ∙
    ap (λ b. cond b (with_tokens (single x ⊕ m) xs) (Err Full)) (le-ltb (size m) 64 (omega (arith, h.1)))

pub tokens_more : (m after : Bag) (xs : List ℕ) (i : ℕ) (done : Unit {0}) → i < length xs → Laid m (get_or xs i 0) (Ok done) after → with_tokens m (drop i xs) ≡ with_tokens after (drop (i + 1) xs)
tokens_more m after xs i done l h = at_drop_more (with_tokens m) xs i 0 l ∙ laid_one m after (get_or xs i 0) (drop (i + 1) xs) done h

pub tokens_refused : (m after : Bag) (xs : List ℕ) (i : ℕ) (e : LayRefusal) → i < length xs → Laid m (get_or xs i 0) (Err e) after → with_tokens m (drop i xs) ≡ Err e
tokens_refused m after xs i e l h = at_drop_more (with_tokens m) xs i 0 l ∙ refused_one m after (get_or xs i 0) (drop (i + 1) xs) e h

-- what a refusal that is passed on means
pub refused_so : (r : Result PlaceBag LayRefusal) (e : LayRefusal) → IsErrAnd r (λ x. x ≡ e) → meant r ≡ Err e
refused_so (Ok b) e h = absurd h
refused_so (Err x) e h = ap Err h
