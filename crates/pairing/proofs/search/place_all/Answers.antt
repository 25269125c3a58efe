use Rattle.pairing.proofs.Ends.{paired_more}
use Rattle.pairing.proofs.Steps.{placed_on}
use Rattle.pairing.proofs.search.place_all.Goals as goal

pub loop-preserved : goal.loop-preserved
loop-preserved c = paired_more c.loop.invariant (placed_on c.requires.low c.in_ok-place_next.ensures)
