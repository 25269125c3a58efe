use Rattle.lines.proofs.Back.{words_rebuild}
use Rattle.lines.proofs.words_rebuild.Goals as goal

pub returns : goal.returns
returns c = words_rebuild
