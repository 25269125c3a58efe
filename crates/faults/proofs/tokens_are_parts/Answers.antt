use Rattle.faults.proofs.Parts.{token_laws}
use Rattle.faults.proofs.tokens_are_parts.Goals as goal

pub returns : goal.returns
returns c = token_laws
