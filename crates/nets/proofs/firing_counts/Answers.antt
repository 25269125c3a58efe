use Rattle.nets.proofs.Fires.{firing_counts}
use Rattle.nets.proofs.firing_counts.Goals as goal

pub returns : goal.returns
returns c = firing_counts
