use Rattle.std.proofs.Common.{◌≡◌}
use Rattle.nets.specs.Tables.{table_meaning}
use Rattle.verdict.specs.Relating.{pairs_of}
use Rattle.verdict.proofs.Halves.{SoFar}
use Rattle.verdict.proofs.sides.side_open.Given as goal

abbrev pub invariant-loop-t : goal.invariant-loop-t
invariant-loop-t l = (l.t-end ≡ (table_meaning l.half.mover.now).transitions) × SoFar l.half.side (table_meaning l.half.mover.now) (table_meaning l.half.other.now) (pairs_of l.half.pairs) l.start l.t l.count
