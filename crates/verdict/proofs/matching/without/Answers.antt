use Rattle.verdict.specs.ShortLists.{listed}
use Rattle.verdict.proofs.Paired.{without_tokens}
use Rattle.verdict.proofs.matching.without.Goals as goal

pub returns : goal.returns
returns c = without_tokens c.args.place (listed c.args.tokens) c.remove.result (listed c.remove.new.self) c.remove.ensures
