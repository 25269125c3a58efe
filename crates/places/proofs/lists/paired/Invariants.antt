use Rattle.std.proofs.Common.{◌≡◌, drop}
use Rattle.places.specs.Meanings.{relation_of}
use Rattle.places.specs.Sets.{unrelated}
use Rattle.places.specs.Lists.{with_pairs}
use Rattle.places.proofs.lists.paired.Given as goal

abbrev pub invariant-loop-pair : goal.invariant-loop-pair
invariant-loop-pair l = with_pairs unrelated l.pairs ≡ with_pairs (relation_of l.relation) (drop l.pair-index l.pairs)
