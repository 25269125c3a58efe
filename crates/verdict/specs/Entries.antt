-- What is written for a bag of a job. Assumes nothing.
use Rattle.std.specs.Prelude.{ℕ, List, Option}
use Rattle.bisimulation.specs.Verdicts.{answer_for, ObligationAt}
use Rattle.verdict.specs.Results.{at}
use Rattle.verdict.specs.Search.{mover_of, other_of, related_by}
use Rattle.verdict.specs.declared.job.Job.{Job}

abbrev pub entry : Job → List ℕ → ObligationAt × Option ℕ
entry j ys = (at j.half.now.side j.t ys, answer_for (mover_of j) (other_of j) (related_by j) j.t ys)
