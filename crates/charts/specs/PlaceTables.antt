-- What a table of places means. Assumes nothing.
use Rattle.std.specs.Prelude.{List}
use Rattle.charts.specs.Tables.{listed_places}
use Rattle.charts.specs.Views.{PlaceEntry}
use Rattle.charts.specs.declared.place_table.PlaceTable.{PlaceTable}

-- its places
abbrev pub places_of : PlaceTable → List PlaceEntry
places_of t = listed_places t.places.entries.items
