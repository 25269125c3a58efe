use Rattle.std.proofs.Common.{◌≡◌, drop}
use Rattle.places.specs.Meanings.{set_of}
use Rattle.places.specs.Sets.{nowhere}
use Rattle.places.specs.Lists.{with_places}
use Rattle.places.proofs.lists.gathered.Given as goal

abbrev pub invariant-loop-place : goal.invariant-loop-place
invariant-loop-place l = with_places nowhere l.places ≡ with_places (set_of l.set) (drop l.place-index l.places)
