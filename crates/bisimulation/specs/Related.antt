-- The test on lists and the closure: laws that the crates above use. Assumes nothing.
use Rattle.std.specs.Prelude.{◌≡◌, ℕ, ◌+◌, ◌<◌, Bool, true, false, cond, List, [], ◌∷◌, ◌++◌, refl}
use Rattle.std.proofs.Common.{sym, ap, ◌∙◌, inl, inr, arith}
use Rattle.std.proofs.lemmas.Bool.{cases_eq, cases_Bool, false≢true, cond-true, cond-false}
use Rattle.places.specs.Bags.{Bag, single, ◌⊕◌}
use Rattle.places.specs.Sets.{PlaceRelation}
use Rattle.places.specs.Laws.{single_same, single_other}
use Rattle.pairing.specs.Closure.{Closure, none, more}
use Rattle.pairing.specs.Laws.{T_of, of_T, moved, emptied, pick}
use Rattle.bisimulation.specs.Lists.{tokens_of, some_pick, related_lists}
use Rattle.bisimulation.specs.Laws.{tokens_append}
use Rattle.bisimulation.specs.Theorems.{ListsTested}

-- what a pick is
record Found (f : ℕ → List ℕ → Bool) (ys : Bag) : Type 0 where
  this : ℕ
  others : List ℕ
  makes : (q : ℕ) → single this q + tokens_of others q ≡ ys q
  passes : f this others ≡ true

found : (f : ℕ → List ℕ → Bool) (front ys : List ℕ) → some_pick f front ys ≡ true → Found f (tokens_of front ⊕ tokens_of ys)
unfolding some_pick
found f front [] e = absurd (false≢true e)
found f front (y ∷ ys) e = elim (cases_Bool (f y (front ++ ys))) [
  | inl h ↦ record { this = y; others = front ++ ys; makes = λ q. omega (arith, tokens_append front ys q); passes = h }
  | inr h ↦ (
      let x = found f (y ∷ front) ys (sym (cond-false (f y (front ++ ys)) true (some_pick f (y ∷ front) ys) h) ∙ e) in
      record { this = x.this; others = x.others; makes = λ q. omega (arith, x.makes q); passes = x.passes }
      )
]

cond_last : (b c : Bool) → c ≡ true → cond b true c ≡ true
cond_last true c e = refl
cond_last false c e = e

cond_parts : (b c : Bool) → cond b c false ≡ true → (b ≡ true) × (c ≡ true)
cond_parts true c e = (refl, e)
cond_parts false c e = absurd (false≢true e)

-- a test that passes whenever y is picked and the others make up the bag
finds : (f : ℕ → List ℕ → Bool) (y : ℕ) (front ys : List ℕ) → 0 < tokens_of ys y
    → ((others : List ℕ) → ((q : ℕ) → single y q + tokens_of others q ≡ tokens_of front q + tokens_of ys q) → f y others ≡ true)
    → some_pick f front ys ≡ true
unfolding some_pick
finds f y front [] h t = absurd (omega arith)
finds f y front (z ∷ ys) h t = elim (cases_eq z y) [
  | inl e ↦ cond-true (f z (front ++ ys)) true (some_pick f (z ∷ front) ys) (ap (λ (v : ℕ). f v (front ++ ys)) e ∙ t (front ++ ys) (λ q. omega (arith, tokens_append front ys q, ap (λ (v : ℕ). single v q) e)))
  | inr e ↦ cond_last (f z (front ++ ys)) _ (finds f y (z ∷ front) ys (omega (arith, single_other z y e)) (λ others g. t others (λ q. omega (arith, g q))))
]

-- the test at each pick
abbrev goes_on : PlaceRelation → ℕ → List ℕ → ℕ → List ℕ → Bool
goes_on R x xs y rest = cond (R x y) (related_lists R xs rest) false

tests_to : (R : PlaceRelation) (xs ys : List ℕ) → related_lists R xs ys ≡ true → Closure R (tokens_of xs) (tokens_of ys)
unfolding related_lists
tests_to R [] [] e = none
tests_to R [] (y ∷ ys) e = absurd (false≢true e)
tests_to R (x ∷ xs) ys e =
    let y = found (goes_on R x xs) [] ys e in
    let g = cond_parts (R x y.this) (related_lists R xs y.others) y.passes in
    moved (λ p. refl) (λ q. omega (arith, y.makes q)) (more x y.this (T_of _ g.0) (tests_to R xs y.others g.1))

tests_from : (R : PlaceRelation) (xs ys : List ℕ) → Closure R (tokens_of xs) (tokens_of ys) → related_lists R xs ys ≡ true
unfolding related_lists
tests_from R [] [] c = refl
tests_from R [] (y ∷ ys) c = absurd (omega (arith, emptied c (λ p. refl) y, single_same y))
tests_from R (x ∷ xs) ys c =
    let y = pick c x (omega (arith, single_same x)) in
    finds (goes_on R x xs) y.other [] ys y.held (λ others g.
    cond-true (R x y.other) (related_lists R xs others) false (of_T _ y.here)
    ∙ tests_from R xs others (moved (λ p. omega arith) (λ q. omega (arith, g q)) y.rest))

pub tests : ListsTested
tests R xs ys = (tests_to R xs ys, tests_from R xs ys)
