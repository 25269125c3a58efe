use Rattle.pairing.proofs.Paired.{paired_exactly}
use Rattle.pairing.proofs.closure_is_pairing.Goals as goal

pub returns : goal.returns
returns c = paired_exactly
