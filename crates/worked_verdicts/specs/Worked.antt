-- The worked examples of verdicts, as one statement. Assumes nothing.
use Rattle.std.specs.Prelude.{◌≡◌, List, [], ◌∷◌, ℕ}
use Rattle.places.specs.Sets.{PlaceRelation}
use Rattle.places.specs.declared.Side.TheVariants.{Left}
use Rattle.bisimulation.specs.Verdicts.{ObligationAt, accepted, refused, verdict_of}
use Rattle.worked_examples.specs.Setting.{relating, p, q, u, v, z, K}
use Rattle.worked_verdicts.specs.Nets.{A, B, C, D, E, F, G}

-- the relation K without the pair of p and w
abbrev pub K_without_p_w : PlaceRelation
K_without_p_w = relating ((p, u) ∷ (q, v) ∷ (q, z) ∷ [])

-- an obligation of the left side
abbrev pub left_at : ℕ → List ℕ → ObligationAt
left_at t ys = record { side = Left; transition = t; bag = ys }

-- verdicts
pub record WorkedVerdicts : Type 0 where
  -- A may stand in for B under K, with 8 obligations
  pub a_b : verdict_of A B K ≡ accepted 8
  -- without the pair of p and w the transition back has no answer at v
  pub a_b_without : verdict_of A B K_without_p_w ≡ refused (left_at 1 (v ∷ []))
  -- an inhibitor at a place that is not related does not matter, and matters at one that is
  pub c_d : verdict_of C D (relating ((0, 0) ∷ [])) ≡ accepted 2
  pub c_d_with : verdict_of C D (relating ((0, 0) ∷ (1, 1) ∷ [])) ≡ refused (left_at 0 (0 ∷ []))
  -- a self-blocked transition makes no obligation
  pub e_f : verdict_of E F (relating ((0, 0) ∷ [])) ≡ accepted 0
  -- two relations that are accepted, and their union that is not
  pub g_identity : verdict_of G G (relating ((0, 0) ∷ (1, 1) ∷ [])) ≡ accepted 2
  pub g_exchange : verdict_of G G (relating ((0, 1) ∷ (1, 0) ∷ [])) ≡ accepted 2
  pub g_union : verdict_of G G (relating ((0, 0) ∷ (1, 1) ∷ (0, 1) ∷ (1, 0) ∷ [])) ≡ refused (left_at 0 (0 ∷ 0 ∷ []))
