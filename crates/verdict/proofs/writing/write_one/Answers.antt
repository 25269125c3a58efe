use Rattle.std.proofs.Common.{ap, ◌∙◌}
use Rattle.bisimulation.specs.Verdicts.{answers, lowest_below}
use Rattle.verdict.specs.Search.{mover_of, other_of, related_by}
use Rattle.verdict.specs.ShortLists.{listed}
use Rattle.verdict.proofs.Wrote.{wrote_one}
use Rattle.verdict.proofs.writing.write_one.Goals as goal

pub returns : goal.returns
returns c =
    let j = c.args.job.now in
    wrote_one j c.args.at (listed c.args.bag) c.obligation-obligation.result c.find_answer-answer.result c.args.out.now c.requires.known c.obligation-obligation.ensures (c.find_answer-answer.ensures ∙ ap (λ ys. lowest_below (answers (mover_of j) (other_of j) (related_by j) j.t ys) (other_of j).transitions) c.as_slice.ensures)
