-- What an item of the code means. Assumes nothing.
use Rattle.items.specs.Items.{ItemSaid, Tail, nothing, times, inhibits, other}
use Rattle.items.specs.declared.item.Item.{Item}
use Rattle.items.specs.declared.item.Suffix.{Suffix}
use Rattle.items.specs.declared.item.Suffix.TheVariants.{Plain, Times, Inhibits}
use Rattle.names.specs.Meanings.{number_of}
use Rattle.std.specs.Prelude.{Some, None, Option}

abbrev pub meant : Item → ItemSaid
meant i = record { place = number_of i.place; role = i.role; number = i.number }

-- an item, or none
abbrev pub meant_by : Option Item → Option ItemSaid
meant_by None = None
meant_by (Some i) = Some (meant i)

-- what stands behind a name
abbrev pub tail_by : Option Suffix → Tail
tail_by None = other
tail_by (Some Plain) = nothing
tail_by (Some (Times ds)) = times ds.now
tail_by (Some (Inhibits ds)) = inhibits ds.now
