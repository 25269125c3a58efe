use Rattle.demo.proofs.Sets.{same_sets}
use Rattle.demo.proofs.compare.same_places.Goals as goal

pub returns : goal.returns
returns c = same_sets c.args.a.now c.args.b.now c.same_below.result c.same_below.ensures
