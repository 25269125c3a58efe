use Rattle.bisimulation.proofs.Accepts.{refused_breaks}
use Rattle.bisimulation.proofs.refused_breaks.Goals as goal

pub returns : goal.returns
returns c = refused_breaks
