use Rattle.std.proofs.Common.{set, ap, ◌∙◌}
use Rattle.bags.specs.Changes.{replaced_there}
use Rattle.bags.specs.Items.{items}
use Rattle.pairing.specs.Search.{left_end}
use Rattle.pairing.proofs.search.move_end.Goals as goal

pub returns : goal.returns
returns c = replaced_there _ _ _ c.replace.result _ c.replace.ensures c.requires ∙ ap (λ xs. set (items c.args.pairs.now) c.args.j (left_end xs c.args.j, c.args.r)) c.as_slice.ensures
