use Rattle.lines.proofs.Back.{lines_join}
use Rattle.lines.proofs.lines_join.Goals as goal

pub returns : goal.returns
returns c = lines_join
