-- Place bisimulation of two nets with inhibitor arcs. Assumes nothing.
use Rattle.std.specs.Prelude.{◌≡◌, ℕ, ◌&&◌, T, nat_lt}
use Rattle.places.specs.Bags.{Bag, ◌⊖◌}
use Rattle.places.specs.Sets.{PlaceRelation}
use Rattle.pairing.specs.Closure.{Closure}
use Rattle.nets.specs.Meaning.{Meaning}
use Rattle.nets.specs.Firing.{pre_set, post_set, Enabled}

-- the relation without its absent pairs: those that name a place which either net lacks
abbrev pub between : Meaning → Meaning → PlaceRelation → PlaceRelation
between n k R p q = nat_lt p n.places && (nat_lt q k.places && R p q)

-- of every two related places, the one inhibits t₁ exactly when the other inhibits t₂
abbrev pub Alike : Meaning → Meaning → PlaceRelation → ℕ → ℕ → Type 0
Alike n k R t₁ t₂ = (p q : ℕ) → T (R p q) → n.inhibits t₁ p ≡ k.inhibits t₂ q

-- what joins a transition t₁ that is enabled at m₁ and a transition t₂ that is enabled at m₂
pub record Matches (n k : Meaning) (R : PlaceRelation) (m₁ m₂ : Bag) (t₁ t₂ : ℕ) : Type 0 where
  pub pre_sets : Closure R (pre_set n t₁) (pre_set k t₂)
  pub post_sets : Closure R (post_set n t₁) (post_set k t₂)
  pub labels : n.label t₁ ≡ k.label t₂
  pub rests : Closure R (m₁ ⊖ pre_set n t₁) (m₂ ⊖ pre_set k t₂)
  pub inhibitors : Alike n k R t₁ t₂

-- R is a place bisimulation of the left net n and the right net k: at all related markings, however many tokens, each
-- transition that is enabled on one side is matched by one that is enabled on the other
pub record Bisimulation (n k : Meaning) (R : PlaceRelation) : Type 0 where
  pub from_left : (m₁ m₂ : Bag) → Closure R m₁ m₂ → (t₁ : ℕ) → Enabled n m₁ t₁ → (t₂ : ℕ) × (Enabled k m₂ t₂ × Matches n k R m₁ m₂ t₁ t₂)
  pub from_right : (m₁ m₂ : Bag) → Closure R m₁ m₂ → (t₂ : ℕ) → Enabled k m₂ t₂ → (t₁ : ℕ) × (Enabled n m₁ t₁ × Matches n k R m₁ m₂ t₁ t₂)
