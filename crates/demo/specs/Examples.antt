-- How the pairs of an example are compared. Assumes nothing.
use Rattle.std.specs.Prelude.{ℕ, Bool, ◌&&◌, List, length, count_by, ◌==◌}
use Rattle.std.specs.List.{list_all}
use Rattle.bags.specs.Exact.{same_pair}

-- whether each pair of zs occurs as often in xs as in ys
abbrev pub as_often : List (ℕ × ℕ) → List (ℕ × ℕ) → List (ℕ × ℕ) → Bool
as_often xs ys zs = list_all (λ z. count_by (λ y. same_pair y z) xs == count_by (λ y. same_pair y z) ys) zs

-- whether two lists have the same pairs, in whatever order: they are of one length, and each pair of the second
-- occurs as often in the first
abbrev pub same_pairs : List (ℕ × ℕ) → List (ℕ × ℕ) → Bool
same_pairs xs ys = length xs == length ys && as_often xs ys ys
