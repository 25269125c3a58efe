use Rattle.std.proofs.Common.{◌≡◌, drop}
use Rattle.places.specs.Bags.{empty}
use Rattle.places.specs.Meanings.{bag_of}
use Rattle.places.specs.Lists.{with_tokens}
use Rattle.places.proofs.lists.laid.Given as goal

abbrev pub invariant-loop-token : goal.invariant-loop-token
invariant-loop-token l = with_tokens empty l.tokens ≡ with_tokens (bag_of l.bag) (drop l.token-index l.tokens)
