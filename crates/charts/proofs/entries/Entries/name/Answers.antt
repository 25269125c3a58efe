use Rattle.charts.proofs.Found.{name_at}
use Rattle.charts.proofs.entries.Entries.name.Goals as goal

pub returns : goal.returns
returns g c =
    let at = c.in_ok-entry.ensures in
    name_at g.T.Named.named c.args.self.now.entries.items c.args.i c.in_ok-entry.entry.now c.number.result c.from_number.result at.3.0 (at.3.1 _) c.args.self.now.named c.number.ensures c.from_number.ensures
