-- What a table of transitions means. Assumes nothing.
use Rattle.std.specs.Prelude.{List}
use Rattle.charts.specs.Tables.{listed_transitions}
use Rattle.charts.specs.Views.{TransitionEntry}
use Rattle.charts.specs.declared.transition_table.TransitionTable.{TransitionTable}

-- its transitions
abbrev pub transitions_of : TransitionTable → List TransitionEntry
transitions_of t = listed_transitions t.transitions.entries.items
