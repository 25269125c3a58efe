-- Which words are items and markings, told by how they are written. Assumes nothing.
use Rattle.std.specs.Prelude.{◌≡◌, ℕ, true, ◌↔◌, List, [], ◌∷◌, ◌++◌, Some, Ok, Result}
use Rattle.faults.specs.declared.causes.NumberFault.{NumberFault}
use Rattle.items.specs.Items.{ItemSaid, input_item, output_item}
use Rattle.items.specs.Numbers.{ranged, marking}
use Rattle.items.specs.declared.item.Role.TheVariants.{Arc, Inhibitor}
use Rattle.names.specs.Names.{valid_name, packed}
use Rattle.numerals.specs.Numerals.{numeral}
use Rattle.numerals.specs.declared.Numeral.{Numeral}

-- an arc as it is written: NAME, or NAME*N
pub data ArcWritten : List ℕ → ItemSaid → Type 0 where
  alone : (name : List ℕ) → valid_name name ≡ true → ArcWritten name (record { place = packed name; role = Arc; number = Ok 1 })
  weighed : (name digits : List ℕ) (n : Numeral) → valid_name name ≡ true → numeral digits ≡ Some n → ArcWritten (name ++ 42 ∷ digits) (record { place = packed name; role = Arc; number = ranged 1 4 n })

-- an input item as it is written: an arc, or NAME?-N
pub data InputWritten : List ℕ → ItemSaid → Type 0 where
  an_arc : {word : List ℕ} {i : ItemSaid} → ArcWritten word i → InputWritten word i
  inhibiting : (name digits : List ℕ) (n : Numeral) → valid_name name ≡ true → numeral digits ≡ Some n → InputWritten (name ++ 63 ∷ 45 ∷ digits) (record { place = packed name; role = Inhibitor; number = ranged 1 1 n })

-- a marking as it is written: (N)
pub data MarkingWritten : List ℕ → Result ℕ NumberFault → Type 0 where
  bracketed : (digits : List ℕ) (n : Numeral) → numeral digits ≡ Some n → MarkingWritten (40 ∷ (digits ++ 41 ∷ [])) (ranged 0 64 n)

-- the words that are items and markings are exactly those that are so written
pub record WrittenExactly : Type 0 where
  pub inputs : (word : List ℕ) (i : ItemSaid) → (input_item word ≡ Some i) ↔ InputWritten word i
  pub outputs : (word : List ℕ) (i : ItemSaid) → (output_item word ≡ Some i) ↔ ArcWritten word i
  pub markings : (word : List ℕ) (r : Result ℕ NumberFault) → (marking word ≡ Some r) ↔ MarkingWritten word r
