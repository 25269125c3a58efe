-- What the open transition of a chart means. Assumes nothing.
use Rattle.names.specs.Meanings.{number_of}
use Rattle.charts.specs.Rows.{row_view}
use Rattle.charts.specs.Views.{TransitionEntry}
use Rattle.charts.specs.declared.opened.Opened.{Opened}

-- a transition by its name and label, and its row
abbrev pub opened_entry : Opened → TransitionEntry
opened_entry o = record { name = number_of o.name; label = number_of o.label; row = row_view o.row }
