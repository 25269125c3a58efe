use Rattle.names.proofs.Back.{packed_once}
use Rattle.names.proofs.packing_is_one_to_one.Goals as goal

pub returns : goal.returns
returns c = packed_once
