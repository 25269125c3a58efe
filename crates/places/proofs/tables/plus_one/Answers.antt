use Rattle.std.proofs.Common.{◌+◌, get_or, refl, ap, ◌∙◌, arith}
use Rattle.std.proofs.lemmas.List.{length-set}
use Rattle.places.specs.Sets.{everywhere, size}
use Rattle.places.specs.Tables.{counted}
use Rattle.places.specs.Laws.{tokens_at, size_plus}
use Rattle.places.proofs.Steps.{plus_one}
use Rattle.places.proofs.tables.plus_one.Goals as goal

pub overflow_add-counts : goal.overflow_add-counts
overflow_add-counts c = omega (arith, c.requires.1, tokens_at 16 everywhere (counted c.args.counts.now) c.args.p c.requires.0 refl)

pub returns : goal.returns
returns c =
    let after = plus_one c.args.counts.now c.args.p (omega (arith, c.requires.0, c.told-counts)) in
    record {
      long = length-set c.args.counts.now c.args.p (get_or c.args.counts.now c.args.p 0 + 1) ∙ c.told-counts;
      total = ap size after ∙ size_plus (counted c.args.counts.now) c.args.p c.requires.0;
      after = after;
    }
