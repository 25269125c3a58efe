use Rattle.std.proofs.Common.{◌+◌, ◌*◌}
use Rattle.bags.specs.Items.{items}
use Rattle.places.specs.Meanings.{bag_of, relation_of, set_of}
use Rattle.pairing.specs.Search.{unseen, Trying}
use Rattle.pairing.proofs.search.+open_place_reopen.Given as goal

abbrev pub decreases-open_place : goal.decreases-open_place
decreases-open_place l = 2 * unseen (set_of l.seen.now)

abbrev pub decreases-reopen : goal.decreases-reopen
decreases-reopen l = 2 * unseen (set_of l.seen.now) + 1

abbrev pub invariant-reopen-loop-r : goal.invariant-reopen-loop-r
invariant-reopen-loop-r l = Trying (relation_of l.relation) (items l.initial.pairs) (bag_of l.initial.free) (set_of l.initial.seen) l.q (items l.pairs) (bag_of l.free) (set_of l.seen) l.r
