use Rattle.relation_texts.proofs.WrittenLines.{forms_exactly}
use Rattle.relation_texts.proofs.forms_are_exact.Goals as goal

pub returns : goal.returns
returns c = forms_exactly
