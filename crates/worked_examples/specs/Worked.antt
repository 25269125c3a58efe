-- The worked examples that are proved, as one statement. Assumes nothing.
use Rattle.std.specs.Prelude.{◌≡◌, ℕ, [], ◌∷◌, ◌==◌, nat_eq}
use Rattle.places.specs.Sets.{Subset}
use Rattle.places.specs.declared.Side.{Side}
use Rattle.places.specs.declared.Side.TheVariants.{Left}
use Rattle.pairing.specs.Closure.{Closure}
use Rattle.pairing.specs.Answers.{Shows}
use Rattle.worked_examples.specs.Setting.{tokens, p, u, v, K}

-- two tokens on p, one each on u and v, under K: there is no pairing; left and the set of p alone may be shown with the
-- refusal, and nothing else may
pub record TwoAgainstOneEach : Type 0 where
  pub none : Closure K (tokens (p ∷ p ∷ [])) (tokens (u ∷ v ∷ [])) → ⊥
  pub left_p : Shows K (tokens (p ∷ p ∷ [])) (tokens (u ∷ v ∷ [])) Left (λ x. nat_eq p x)
  pub only : (side : Side) (S : Subset) → Shows K (tokens (p ∷ p ∷ [])) (tokens (u ∷ v ∷ [])) side S → (side ≡ Left) × ((x : ℕ) → S x ≡ (p == x))

pub record WorkedExamples : Type 0 where
  pub two_against_one_each : TwoAgainstOneEach
