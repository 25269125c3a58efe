use Rattle.bisimulation.proofs.Union.{union_fails}
use Rattle.bisimulation.proofs.union_fails.Goals as goal

pub returns : goal.returns
returns c = union_fails
