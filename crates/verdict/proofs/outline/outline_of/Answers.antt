use Rattle.std.proofs.Common.{rules, ◌≡◌, refl, arith}
use Rattle.nets.specs.Made.{made_at}
use Rattle.nets.specs.Tables.{table_meaning}
use Rattle.verdict.specs.Relating.{FlowsOf}
use Rattle.verdict.proofs.outline.outline_of.Goals as goal

pub returns : goal.returns
returns c = record {
  long = c.from_fn.ensures.items.long;
  each = λ t l d. made_at _ (λ p. p.0 ≡ c.args.net) (FlowsOf (table_meaning c.args.net.now)) (λ p same i flows q made. (search rules, search rules)) c.from_fn.result d _ 0 32 refl c.from_fn.ensures.items.each t (omega arith) l;
}
