use Rattle.std.proofs.Common.{rules, ◌≡◌, refl, arith}
use Rattle.nets.specs.Copies.{RowOf}
use Rattle.nets.specs.Rows.{blank}
use Rattle.nets.specs.Made.{made_at}
use Rattle.nets.proofs.copy.all_rows.Goals as goal

pub returns : goal.returns
returns g c =
    let n = g.N.Net.meaning c.args.net.now in
    record {
      long = c.from_fn.ensures.items.long;
      each = λ t l. made_at _ (λ p. p.0 ≡ c.args.net) (RowOf n) (λ p same i row q made. (search rules, search rules)) c.from_fn.result blank _ 0 32 refl c.from_fn.ensures.items.each t (omega arith) l;
    }
