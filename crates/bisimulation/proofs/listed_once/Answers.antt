use Rattle.bisimulation.proofs.Enumerated.{each_once, in_order}
use Rattle.bisimulation.proofs.listed_once.Goals as goal

pub returns : goal.returns
returns c = record { once = each_once; ordered = in_order }
