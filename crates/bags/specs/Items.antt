-- What a sequence holds: the list of its elements, the earliest first. Assumes nothing.
use Rattle.std.specs.Prelude.{◌≤◌, ℕ, List, length, take}
use Rattle.std.proofs.Common.{arith}
use Rattle.std.proofs.lemmas.List.{length-take}
use Rattle.bags.specs.declared.sequence.Sequence.{Sequence}

abbrev pub items : {X : Type 0} {n : ℕ} → Sequence X n → List X
items s = take s.len s.cells

-- a sequence of room n has at most n elements
pub items_few : {X : Type 0} {n : ℕ} (s : Sequence X n) → length (items s) ≤ n
items_few s = omega (arith, length-take s.len s.cells, s.within)
