-- What a chart of the code means. Assumes nothing.
use Rattle.std.specs.Option.{option_map}
use Rattle.nets.specs.Meaning.{Meaning}
use Rattle.charts.specs.Openings.{opened_entry}
use Rattle.charts.specs.PlaceTables.{places_of}
use Rattle.charts.specs.TransitionTables.{transitions_of}
use Rattle.charts.specs.Views.{View, view_meaning}
use Rattle.charts.specs.declared.chart.Chart.{Chart}

-- a chart by its lists
abbrev pub chart_view : Chart → View
chart_view c = record {
  places = places_of c.places;
  transitions = transitions_of c.transitions;
  opened = option_map opened_entry c.opened;
}

-- the net of its closed transitions
abbrev pub chart_meaning : Chart → Meaning
chart_meaning c = view_meaning (chart_view c)
