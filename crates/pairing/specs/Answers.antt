-- What the search for a pairing may answer. Assumes nothing.
use Rattle.std.specs.Prelude.{◌≡◌, ℕ, ◌<◌, true, ◌↔◌, List, is_ok, Ok, Err, Result, ◌≢◌, nat_lt}
use Rattle.bags.specs.Items.{items}
use Rattle.bags.specs.declared.sequence.Sequence.{Sequence}
use Rattle.places.specs.Bags.{Bag}
use Rattle.places.specs.Sets.{Subset, PlaceRelation, turned, size}
use Rattle.places.specs.Meanings.{set_of}
use Rattle.places.specs.declared.Side.{Side}
use Rattle.places.specs.declared.Side.TheVariants.{Left, Right}
use Rattle.pairing.specs.Closure.{Closure, Pairing}
use Rattle.pairing.specs.Outnumbering.{Outnumbers}
use Rattle.pairing.specs.Refusals.{shown_with}
use Rattle.pairing.specs.declared.PairingRefusal.{PairingRefusal}

-- a pairing that the search may find for m and n under R. Which pairing it is, is free: all that callers know of a
-- pairing that was found, they know from here.
pub record Found (R : PlaceRelation) (m n : Bag) (xs : List (ℕ × ℕ)) : Type 0 where
  pub pairing : Pairing R m n xs

-- the bag of a side
abbrev pub on_side : Side → Bag → Bag → Bag
on_side Left m n = m
on_side Right m n = n

-- the bag of the side is the larger
abbrev pub LargerOn : Side → Bag → Bag → Type 0
LargerOn Left m n = size n < size m
LargerOn Right m n = size m < size n

-- the set of places of a side outnumbers the related places of the other side
abbrev pub OutnumbersFrom : Side → PlaceRelation → Bag → Bag → Subset → Type 0
OutnumbersFrom Left R m n S = Outnumbers R m n S
OutnumbersFrom Right R m n S = Outnumbers (turned R) n m S

-- a side and a set that the refusal may show for m and n under R. Which set it is, is otherwise free.
pub record Shows (R : PlaceRelation) (m n : Bag) (side : Side) (S : Subset) : Type 0 where
  pub outnumbers : OutnumbersFrom side R m n S
  pub larger_right : (side ≡ Right) ↔ (size m < size n)
  pub some_place : (p : ℕ) × (S p ≡ true)
  pub marked : (p : ℕ) → S p ≡ true → 0 < on_side side m n p
  pub all_marked : (size m ≢ size n) → (p : ℕ) → S p ≡ nat_lt 0 (on_side side m n p)

-- what the answer of the search says
abbrev pub Answers : PlaceRelation → Bag → Bag → Result (Sequence (ℕ × ℕ) 64) PairingRefusal → Type 0
Answers R m n (Ok pairs) = Found R m n (items pairs)
Answers R m n (Err refusal) = Shows R m n (shown_with refusal).0 (set_of (shown_with refusal).1)

-- and a pairing comes back exactly when the closure relates the two bags
pub record Decided (R : PlaceRelation) (m n : Bag) (r : Result (Sequence (ℕ × ℕ) 64) PairingRefusal) : Type 0 where
  pub says : Answers R m n r
  pub exact : (is_ok r ≡ true) ↔ Closure R m n
