use Rattle.verdict.specs.ShortLists.{listed}
use Rattle.verdict.proofs.Paired.{related_exactly}
use Rattle.verdict.proofs.matching.related.Goals as goal

pub returns : goal.returns
returns c = related_exactly c.args.half.now.pairs (listed c.args.xs) c.args.ys.now c.completes.result c.completes.ensures
