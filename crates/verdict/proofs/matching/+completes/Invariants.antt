use Rattle.std.proofs.Common.{length, get_or}
use Rattle.verdict.specs.Relating.{pairs_of}
use Rattle.verdict.specs.ShortLists.{listed}
use Rattle.verdict.proofs.Paired.{NoneBefore, later_than_first}
use Rattle.verdict.proofs.matching.+completes.Given as goal

abbrev pub decreases-completes : goal.decreases-completes
decreases-completes l = length l.chosen.now

abbrev pub invariant-loop-token : goal.invariant-loop-token
invariant-loop-token l = NoneBefore (pairs_of l.half.pairs) l.from (listed l.fn.tokens) l.token-index (get_or l.chosen 0 0) (later_than_first l.chosen)
