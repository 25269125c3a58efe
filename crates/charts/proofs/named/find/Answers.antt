use Rattle.std.proofs.Common.{◌≡◌, ◌∙◌, rules}
use Rattle.charts.proofs.Found.{first_named}
use Rattle.charts.proofs.named.find.Goals as goal

pub returns : goal.returns
returns g c =
    let same : c.map.result ≡ c.first.result = search rules in
    same ∙ first_named g.T.Named.named c.args.entries.now c.number.result _ _ c.first.ensures.value c.number.ensures
