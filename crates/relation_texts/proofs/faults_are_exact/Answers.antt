use Rattle.relation_texts.proofs.Exact.{faults_exactly}
use Rattle.relation_texts.proofs.faults_are_exact.Goals as goal

pub returns : goal.returns
returns c = faults_exactly
