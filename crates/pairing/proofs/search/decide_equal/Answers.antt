use Rattle.places.specs.Laws.{bag_placed}
use Rattle.pairing.proofs.Decides.{decided_as}
use Rattle.pairing.proofs.search.decide_equal.Goals as goal

pub returns : goal.returns
returns c = decided_as c.pair_equal.result c.map_err.result (bag_placed c.args.left.now) (bag_placed c.args.right.now) c.requires c.pair_equal.ensures c.map_err.ensures.cases
