use Rattle.pairing.proofs.Counting.{outnumbered_apart}
use Rattle.pairing.proofs.outnumbered_is_apart.Goals as goal

pub returns : goal.returns
returns c = outnumbered_apart
