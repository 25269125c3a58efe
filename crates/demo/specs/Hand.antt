-- What was worked out by hand for an example. Assumes nothing.
use Rattle.std.specs.Prelude.{◌≡◌, ℕ, Bool, false, List, Ok, Err, Result}
use denote.Ref.{Bor}
use Rattle.places.specs.Sets.{nowhere}
use Rattle.places.specs.Lists.{with_places}
use Rattle.places.specs.Meanings.{set_of}
use Rattle.pairing.specs.Refusals.{refusal_number, shown_with}
use Rattle.pairing.specs.declared.PairingRefusal.{PairingRefusal}
use Rattle.demo.specs.Examples.{same_pairs}
use Rattle.demo.specs.declared.examples.Shown.{Shown}

-- whether the pairs that were found are those that were worked out
abbrev pub pairs_expected : Result (Bor (List (ℕ × ℕ))) Shown → List (ℕ × ℕ) → Bool
pairs_expected (Ok pairs) found = same_pairs found pairs.now
pairs_expected (Err shown) found = false

-- the refusal has the number, the side and the places that were worked out
abbrev pub ShownAs : Shown → PairingRefusal → Type 0
ShownAs shown refusal =
    (refusal_number refusal ≡ shown.number) × ((shown_with refusal).0 ≡ shown.side) × ((p : ℕ) → set_of (shown_with refusal).1 p ≡ with_places nowhere shown.places.now p)

-- a refusal was worked out, and it is this one
abbrev pub RefusalExpected : Result (Bor (List (ℕ × ℕ))) Shown → PairingRefusal → Type 0
RefusalExpected (Ok pairs) refusal = ⊥
RefusalExpected (Err shown) refusal = ShownAs shown refusal
