-- What a list of places holds. Assumes nothing.
use Rattle.std.specs.Prelude.{ℕ, List, take}
use Rattle.verdict.specs.declared.place_list.PlaceList.{PlaceList}

-- its places, in order
abbrev pub places_in : PlaceList → List ℕ
places_in l = take l.len l.items
