-- What a short list holds. Assumes nothing.
use Rattle.std.specs.Prelude.{ℕ, List}
use Rattle.bags.specs.Items.{items}
use Rattle.bags.specs.declared.sequence.Sequence.{Sequence}

-- a list of up to four places
abbrev pub ShortList : Type 0
ShortList = Sequence ℕ 4

-- its places, in order
abbrev pub listed : ShortList → List ℕ
listed s = items s
