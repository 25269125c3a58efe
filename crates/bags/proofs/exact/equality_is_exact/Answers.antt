use Rattle.bags.specs.Exact.{equal_counts, equal_removes, exact_counts, exact_removes}
use Rattle.bags.proofs.exact.equality_is_exact.Goals as goal

pub returns : goal.returns
returns c = record { counts = exact_counts; removes = exact_removes; counts_equal = equal_counts; removes_equal = equal_removes }
