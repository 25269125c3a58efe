-- Bags of places. Assumes nothing.
use Rattle.std.specs.Prelude.{ℕ, ◌+◌, ◌-◌, ◌≤◌, cond, ◌==◌}

infixl 60 ◌⊕◌
infixl 60 ◌⊖◌
infix 40 ◌⊆◌
-- a bag (a multiset) of places: how often it holds each place
abbrev pub Bag : Type 0
Bag = ℕ → ℕ

-- the bag that holds nothing
abbrev pub empty : Bag
empty p = 0

-- the bag of one token on the place a
abbrev pub single : ℕ → Bag
single a p = cond (a == p) 1 0

-- the sum
abbrev pub ◌⊕◌ : Bag → Bag → Bag
◌⊕◌ m n p = m p + n p

-- the difference, which stops at 0
abbrev pub ◌⊖◌ : Bag → Bag → Bag
◌⊖◌ m n p = m p - n p

-- inclusion
abbrev pub ◌⊆◌ : Bag → Bag → Type 0
m ⊆ n = (p : ℕ) → m p ≤ n p
