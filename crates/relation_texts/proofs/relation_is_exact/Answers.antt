use Rattle.relation_texts.proofs.Exact.{relation_exactly}
use Rattle.relation_texts.proofs.relation_is_exact.Goals as goal

pub returns : goal.returns
returns c = relation_exactly
