use Rattle.std.proofs.Common.{◌+◌, ◌-◌, ◌*◌}
use Rattle.verdict.specs.Search.{other_of}
use Rattle.verdict.proofs.walk.+first_open_go_down.Given as goal

abbrev pub decreases-first_open : goal.decreases-first_open
decreases-first_open g l = 2 * (((other_of l.job.now).places - l.from) + l.left)

abbrev pub decreases-go_down : goal.decreases-go_down
decreases-go_down g l = 2 * (((other_of l.job.now).places - l.from) + l.left) + 1
