use Rattle.bisimulation.proofs.Decides.{decides}
use Rattle.bisimulation.proofs.answers_decide.Goals as goal

pub returns : goal.returns
returns c = decides
