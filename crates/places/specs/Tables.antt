-- What the tables of the code stand for. Assumes nothing.
use Rattle.std.specs.Prelude.{◌≡◌, ℕ, ◌<◌, Bool, false, cond, List, [], length, nat_lt, slice_index, slice_index_or}
use Rattle.places.specs.Bags.{Bag}
use Rattle.places.specs.Sets.{Subset, PlaceRelation}

-- a table of counts, the entry at p being that of the place p
abbrev pub counted : List ℕ → Bag
counted counts p = slice_index counts p

-- a table of flags
abbrev pub flagged : List Bool → Subset
flagged flags p = cond (nat_lt p 16) (slice_index_or flags p false) false

-- a table of rows of flags
abbrev pub rowed : List (List Bool) → PlaceRelation
rowed rows p q = slice_index_or (slice_index_or rows p []) q false

-- 16 rows of 16 flags
abbrev pub Square : List (List Bool) → Type 0
Square rows = (length rows ≡ 16) × ((p : ℕ) → p < 16 → length (slice_index_or rows p []) ≡ 16)
