use Rattle.std.proofs.Common.{is_some, map, ap, ◌∙◌}
use Rattle.names.specs.Meanings.{number_of}
use Rattle.charts.specs.NamingLaws.{found_has}
use Rattle.charts.proofs.entries.Entries.has.Goals as goal

pub returns : goal.returns
returns g c = c.is_some.ensures ∙ ap is_some c.find.ensures ∙ found_has 0 (number_of c.args.name) (map g.T.Named.named c.args.self.now.entries.items)
