-- Firing and the number of tokens.
use Rattle.std.proofs.Common.{◌≡◌, ap, arith}
use mathlib.Core.Path.{fun_ext}
use Rattle.places.specs.Bags.{◌⊕◌, ◌⊖◌}
use Rattle.places.specs.Sets.{everywhere, size}
use Rattle.places.specs.Laws.{tokens_sum}
use Rattle.nets.specs.Firing.{pre_set, post_set, FiringCounts}

pub firing_counts : FiringCounts
firing_counts n m t e = omega (
  arith,
  tokens_sum 16 everywhere (m ⊖ pre_set n t) (post_set n t),
  tokens_sum 16 everywhere (m ⊖ pre_set n t) (pre_set n t),
  ap size back,
)
  where
    back : (m ⊖ pre_set n t) ⊕ pre_set n t ≡ m
    back = fun_ext (λ p. omega (arith, e.held p))
