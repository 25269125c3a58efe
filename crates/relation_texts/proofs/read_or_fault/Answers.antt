use Rattle.relation_texts.proofs.Exact.{read_or_fault}
use Rattle.relation_texts.proofs.read_or_fault.Goals as goal

pub returns : goal.returns
returns c = read_or_fault
