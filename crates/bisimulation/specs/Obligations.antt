-- Obligations and their answers, for a net that moves and the other net. Assumes nothing.
-- The right side has the same definitions, at the exchanged nets and the turned relation.
use Rattle.std.specs.Prelude.{◌≡◌, ℕ, ◌<◌, Some, None, Option}
use Rattle.places.specs.Bags.{Bag}
use Rattle.places.specs.Sets.{PlaceRelation, turned}
use Rattle.pairing.specs.Closure.{Closure}
use Rattle.nets.specs.Meaning.{Meaning}
use Rattle.nets.specs.Firing.{pre_set, post_set, SelfBlocked}
use Rattle.bisimulation.specs.Bisimulation.{Alike}

-- an obligation: a transition of the mover that is not self-blocked, and a bag of places of the other net that is
-- related to its pre-set
pub record Obligation (mover : Meaning) (R : PlaceRelation) (t : ℕ) (bag : Bag) : Type 0 where
  pub there : t < mover.transitions
  pub unblocked : SelfBlocked mover t → ⊥
  pub related : Closure R (pre_set mover t) bag

-- an answer to it: a transition of the other net whose pre-set is that bag, with the same label, a related post-set, and
-- inhibitors alike
pub record Answer (mover other : Meaning) (R : PlaceRelation) (t : ℕ) (bag : Bag) (u : ℕ) : Type 0 where
  pub there : u < other.transitions
  pub takes : (q : ℕ) → pre_set other u q ≡ bag q
  pub label : mover.label t ≡ other.label u
  pub gives : Closure R (post_set mover t) (post_set other u)
  pub alike : Alike mover other R t u

-- the answer that is given: the lowest; none where there is none, and none where there is no obligation
abbrev pub Given : Meaning → Meaning → PlaceRelation → ℕ → Bag → Option ℕ → Type 0
Given mover other R t bag None = Obligation mover R t bag → (u : ℕ) → Answer mover other R t bag u → ⊥
Given mover other R t bag (Some u) = Obligation mover R t bag × Answer mover other R t bag u × ((v : ℕ) → v < u → Answer mover other R t bag v → ⊥)

-- each obligation of the mover has an answer
abbrev pub AllAnswered : Meaning → Meaning → PlaceRelation → Type 0
AllAnswered mover other R = (t : ℕ) (bag : Bag) → Obligation mover R t bag → (u : ℕ) × Answer mover other R t bag u

-- and so has each of either side
pub record Answered (n k : Meaning) (R : PlaceRelation) : Type 0 where
  pub lefts : AllAnswered n k R
  pub rights : AllAnswered k n (turned R)
