-- The laws of lists that the crates above use. Assumes nothing.
use Rattle.std.specs.Prelude.{◌≡◌, ℕ, ◌+◌, cond, not, List, [], ◌∷◌, ◌++◌, Some, Option, is_some}
use Rattle.std.proofs.Common.{arith}
use Rattle.bisimulation.specs.Lists.{tokens_of}

-- x where it has no answer, and else what comes later: a step of `first_open`
abbrev pub open_or : {X : Type 0} → Option ℕ → X → Option X → Option X
open_or v x later = cond (not (is_some v)) (Some x) later

pub tokens_append : (xs ys : List ℕ) (p : ℕ) → tokens_of (xs ++ ys) p ≡ tokens_of xs p + tokens_of ys p
tokens_append [] ys p = omega arith
tokens_append (x ∷ xs) ys p = omega (arith, tokens_append xs ys p)
