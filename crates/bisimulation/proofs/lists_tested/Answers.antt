use Rattle.bisimulation.specs.Related.{tests}
use Rattle.bisimulation.proofs.lists_tested.Goals as goal

pub returns : goal.returns
returns c = tests
