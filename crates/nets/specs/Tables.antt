-- What a table means. Assumes nothing.
use Rattle.nets.specs.Meaning.{Meaning, Limits}
use Rattle.nets.specs.Rows.{tabled, tabled_limits}
use Rattle.nets.specs.declared.table.Table.{Table}

abbrev pub table_meaning : Table → Meaning
table_meaning t = tabled t.places t.transitions t.rows

abbrev pub table_limits : (t : Table) → Limits (table_meaning t)
table_limits t = tabled_limits t.places t.transitions t.rows t.narrow t.low t.takes t.gives t.labelled
