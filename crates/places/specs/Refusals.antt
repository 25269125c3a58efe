-- Why a token is not laid: the number of each refusal, and when it is given. Assumes nothing.
use Rattle.std.specs.Prelude.{◌≡◌, ℕ, ◌<◌, ◌≤◌, Ok, Err, Result}
use Rattle.std.proofs.Common.{arith}
use Rattle.places.specs.Bags.{Bag, single, ◌⊕◌}
use Rattle.places.specs.Sets.{size}
use Rattle.places.specs.declared.LayRefusal.{LayRefusal}
use Rattle.places.specs.declared.LayRefusal.TheVariants.{NoSuchPlace, Full}

abbrev pub lay_number : LayRefusal → ℕ
lay_number NoSuchPlace = 23
lay_number Full = 24

-- the bag after a token was laid on p, or after it was refused
abbrev pub Laid : Bag → ℕ → Result (Unit {0}) LayRefusal → Bag → Type 0
Laid m p (Ok done) after = (p < 16) × (size m < 64) × (after ≡ single p ⊕ m)
Laid m p (Err NoSuchPlace) after = (16 ≤ p) × (after ≡ m)
Laid m p (Err Full) after = (p < 16) × (size m ≡ 64) × (after ≡ m)

-- the law that callers use: where there is such a place and fewer than 64 tokens, the token is laid
pub laid_fits : (m : Bag) (p : ℕ) (r : Result (Unit {0}) LayRefusal) (after : Bag) → Laid m p r after → p < 16 → size m < 64 → after ≡ single p ⊕ m
laid_fits m p (Ok done) after h l few = h.2
laid_fits m p (Err NoSuchPlace) after h l few = absurd (omega (arith, h.0))
laid_fits m p (Err Full) after h l few = absurd (omega (arith, h.1))
