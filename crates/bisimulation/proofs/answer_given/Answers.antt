use Rattle.bisimulation.proofs.Accepts.{answer_given}
use Rattle.bisimulation.proofs.answer_given.Goals as goal

pub returns : goal.returns
returns c = answer_given
