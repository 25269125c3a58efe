use Rattle.std.proofs.Common.{rules, ◌≡◌, refl, arith}
use Rattle.nets.specs.Made.{made_at}
use Rattle.verdict.specs.Relating.{pairs_of}
use Rattle.verdict.proofs.Tops.{topped, top_of}
use Rattle.verdict.proofs.pairs.tops.Goals as goal

pub returns : goal.returns
returns c = topped c.args.pairs.now c.from_fn.result
    (λ t l. made_at _ (λ p. p.0 ≡ c.args.pairs) (λ p k. k ≡ top_of (pairs_of c.args.pairs.now) p 16) (λ p same i k q made. (search rules, search rules)) c.from_fn.result 0 _ 0 16 refl c.from_fn.ensures.items.each t (omega arith) l)
