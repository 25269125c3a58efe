-- Lists of lines that are taken apart, and lines that stand in them.
use Rattle.std.proofs.Common.{◌≡◌, ℕ, ◌+◌, ◌⊎◌, List, [], ◌∷◌, ◌++◌, refl, inl, inr, arith}
use Rattle.std.proofs.lemmas.List.Sums.{sum_by-append}
use Rattle.relation_texts.specs.Forms.{says}
use Rattle.relation_texts.specs.Exactly.{SomeLine, edge_count, edges_in}

-- a line of one list, taken apart in two ways: at the same place, or the first way at an earlier or a later one
pub data Compared (before : List (List ℕ)) (line : List ℕ) (after : List (List ℕ)) (before' : List (List ℕ)) (line' : List ℕ) (after' : List (List ℕ)) : Type 0 where
  same : before ≡ before' → line ≡ line' → after ≡ after' → Compared before line after before' line' after'
  earlier : (between : List (List ℕ)) → before' ≡ before ++ line ∷ between → after ≡ between ++ line' ∷ after' → Compared before line after before' line' after'
  later : (between : List (List ℕ)) → before ≡ before' ++ line' ∷ between → after' ≡ between ++ line ∷ after → Compared before line after before' line' after'

pub compared : (before : List (List ℕ)) (line : List ℕ) (after before' : List (List ℕ)) (line' : List ℕ) (after' : List (List ℕ)) → before ++ line ∷ after ≡ before' ++ line' ∷ after' → Compared before line after before' line' after'
compared [] line after [] line' after' e = same refl (cc) (cc)
compared [] line after (b' ∷ before') line' after' e = earlier before' (cc) (cc)
compared (b ∷ before) line after [] line' after' e = later before (cc) (cc)
compared (b ∷ before) line after (b' ∷ before') line' after' e =
    let head : b ≡ b' = cc in
    elim (compared before line after before' line' after' (cc)) [
      | same p q r ↦ same (cc) q r
      | earlier between p q ↦ earlier between (cc) q
      | later between p q ↦ later between (cc) q
    ]

module _ (P : List ℕ → Type 0) where
  pub some_here : (before : List (List ℕ)) (line : List ℕ) (after : List (List ℕ)) → P line → SomeLine P (before ++ line ∷ after)
  some_here [] line after h = inl h
  some_here (b ∷ before) line after h = inr (some_here before line after h)

  pub some_front : (ls more : List (List ℕ)) → SomeLine P ls → SomeLine P (ls ++ more)
  some_front [] more h = absurd h
  some_front (l ∷ ls) more (inl h) = inl h
  some_front (l ∷ ls) more (inr h) = inr (some_front ls more h)

  pub some_cases : (ls : List (List ℕ)) (line : List ℕ) → SomeLine P (ls ++ line ∷ []) → SomeLine P ls ⊎ P line
  some_cases [] line (inl h) = inr h
  some_cases [] line (inr h) = absurd h
  some_cases (l ∷ ls) line (inl h) = inl (inl h)
  some_cases (l ∷ ls) line (inr h) = elim (some_cases ls line h) [ inl k ↦ inl (inr k) | inr k ↦ inr k ]

pub edges_more : (ls : List (List ℕ)) (line : List ℕ) → edges_in (ls ++ line ∷ []) ≡ edges_in ls + edge_count (says line)
edges_more ls line = omega (arith, sum_by-append (λ l. edge_count (says l)) ls (line ∷ []))
