use Rattle.std.proofs.Common.{◌≡◌, length}
use Rattle.nets.specs.Tables.{table_meaning}
use Rattle.bisimulation.specs.Verdicts.{obligations_below}
use Rattle.verdict.specs.Relating.{pairs_of}
use Rattle.verdict.proofs.listing.count_side.Given as goal

abbrev pub invariant-loop-t : goal.invariant-loop-t
invariant-loop-t l = (l.t-end ≡ (table_meaning l.half.mover.now).transitions)
    × (l.count ≡ length (obligations_below l.half.side (table_meaning l.half.mover.now) (table_meaning l.half.other.now) (pairs_of l.half.pairs) l.t))
