-- When a transition is enabled, and what firing it leaves. Assumes nothing.
use Rattle.std.specs.Prelude.{◌≡◌, ℕ, ◌+◌, ◌<◌, true}
use Rattle.places.specs.Bags.{Bag, ◌⊕◌, ◌⊖◌, ◌⊆◌}
use Rattle.places.specs.Sets.{size}
use Rattle.nets.specs.Meaning.{Meaning}

-- the bag of inputs, and the bag of outputs
abbrev pub pre_set : Meaning → ℕ → Bag
pre_set n t = n.input t

abbrev pub post_set : Meaning → ℕ → Bag
post_set n t = n.output t

-- an input place of t also inhibits t
abbrev pub SelfBlocked : Meaning → ℕ → Type 0
SelfBlocked n t = (p : ℕ) × ((0 < pre_set n t p) × (n.inhibits t p ≡ true))

-- t is enabled at the marking m: there is such a transition, m holds its pre-set, and no place that inhibits it holds
-- a token
pub record Enabled (n : Meaning) (m : Bag) (t : ℕ) : Type 0 where
  pub there : t < n.transitions
  pub held : pre_set n t ⊆ m
  pub free : (p : ℕ) → n.inhibits t p ≡ true → m p ≡ 0

-- the marking after t has fired: m without the pre-set, plus the post-set
abbrev pub fired : Meaning → Bag → ℕ → Bag
fired n m t = (m ⊖ pre_set n t) ⊕ post_set n t

-- theorem: firing an enabled transition changes the number of tokens by the difference of its two sums
abbrev pub FiringCounts : Type 0
FiringCounts = (n : Meaning) (m : Bag) (t : ℕ) → Enabled n m t → size (fired n m t) + size (pre_set n t) ≡ size m + size (post_set n t)
