use Rattle.std.proofs.Common.{◌+◌, ◌-◌, ◌*◌}
use Rattle.verdict.specs.Search.{other_of}
use Rattle.verdict.proofs.writing.+write_down_write_from.Given as goal

abbrev pub decreases-write_from : goal.decreases-write_from
decreases-write_from l = 2 * (((other_of l.job.now).places - l.from) + l.left)

abbrev pub decreases-write_down : goal.decreases-write_down
decreases-write_down l = 2 * (((other_of l.job.now).places - l.from) + l.left) + 1
