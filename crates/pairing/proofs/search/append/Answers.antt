use Rattle.bags.specs.Changes.{pushed_fits}
use Rattle.pairing.proofs.search.append.Goals as goal

pub returns : goal.returns
returns c = pushed_fits _ _ _ c.push.result _ c.push.ensures c.requires
