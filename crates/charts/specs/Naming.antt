-- Lists of names, each by its number. Assumes nothing.
use Rattle.std.specs.Prelude.{◌≡◌, ℕ, ◌<◌, Bool, true, not, ◌&&◌, List, [], ◌∷◌, length, Option, ◌==◌, slice_index}
use Rattle.std.specs.List.{list_any, position_from as first_from}
use Rattle.names.specs.Numbers.{is_packed}

-- where the number x stands first in a list, counted on from i
abbrev pub position_from : ℕ → ℕ → List ℕ → Option ℕ
position_from i x ys = first_from (λ y. y == x) i ys

-- where the number x stands first in a list, counted from 0
abbrev pub position : ℕ → List ℕ → Option ℕ
position x ys = position_from 0 x ys

-- whether the number x stands in a list
abbrev pub has_name : ℕ → List ℕ → Bool
has_name x ys = list_any (λ y. y == x) ys

-- every number of the list has a name packed into it
abbrev pub AllNames : List ℕ → Type 0
AllNames ns = (i : ℕ) → i < length ns → is_packed (slice_index ns i) ≡ true

-- no number stands twice in the list; a recursion of our own, since std has no test for it that computes
abbrev pub distinct : List ℕ → Bool
distinct [] = true
distinct (x ∷ xs) = not (has_name x xs) && distinct xs
