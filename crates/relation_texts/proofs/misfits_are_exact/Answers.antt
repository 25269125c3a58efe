use Rattle.relation_texts.proofs.Stopping.{misfits_exactly}
use Rattle.relation_texts.proofs.misfits_are_exact.Goals as goal

pub returns : goal.returns
returns c = misfits_exactly
