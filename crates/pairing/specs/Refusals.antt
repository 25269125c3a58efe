-- The refusal of a pairing: its number and its values. Assumes nothing.
use Rattle.std.specs.Prelude.{ℕ}
use Rattle.places.specs.declared.Side.{Side}
use Rattle.places.specs.declared.place_set.PlaceSet.{PlaceSet}
use Rattle.pairing.specs.declared.PairingRefusal.{PairingRefusal}
use Rattle.pairing.specs.declared.PairingRefusal.TheVariants.{NoPairing}

abbrev pub refusal_number : PairingRefusal → ℕ
refusal_number (NoPairing side-and-set) = 33

-- the side that is shown, and the set of its places
abbrev pub shown_with : PairingRefusal → Side × PlaceSet
shown_with (NoPairing side-and-set) = side-and-set
