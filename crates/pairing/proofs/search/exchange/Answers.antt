use Rattle.std.proofs.Common.{◌<◌, ap, ◌∙◌, arith}
use Rattle.places.specs.Bags.{single, ◌⊕◌}
use Rattle.places.specs.Meanings.{bag_of}
use Rattle.places.specs.Refusals.{laid_fits}
use Rattle.places.specs.Sets.{size}
use Rattle.places.specs.Laws.{size_less, bag_few}
use Rattle.pairing.proofs.search.exchange.Goals as goal

pub returns : goal.returns
returns c =
    let fewer : size (bag_of c.take.new.self) < 64 = omega (arith, ap size c.take.ensures.after, size_less (bag_of c.args.free.now) c.args.r c.requires.low.1 c.requires.some, bag_few c.args.free.now) in
    laid_fits _ _ c.lay.result _ c.lay.ensures c.requires.low.0 fewer ∙ ap (λ m. single c.args.q ⊕ m) c.take.ensures.after
