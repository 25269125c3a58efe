use Rattle.items.proofs.Exact.{written_exactly}
use Rattle.items.proofs.items_are_exact.Goals as goal

pub returns : goal.returns
returns c = written_exactly
