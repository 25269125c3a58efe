use Rattle.bisimulation.proofs.Accepts.{accepted_exactly}
use Rattle.bisimulation.proofs.accepted_exactly.Goals as goal

pub returns : goal.returns
returns c = accepted_exactly
