-- The items of a net text: an arc or an inhibitor, by the bytes of a word. The byte 42 is *, 63 is ?, 45 is -. Assumes nothing.
use Rattle.std.specs.Prelude.{ℕ, cond, ◌||◌, List, [], ◌∷◌, take, drop, Some, None, Ok, Option, Result, ◌==◌}
use Rattle.std.specs.List.{position_or_len}
use Rattle.faults.specs.declared.causes.NumberFault.{NumberFault}
use Rattle.items.specs.Numbers.{ranged_numeral}
use Rattle.items.specs.declared.item.Role.{Role}
use Rattle.items.specs.declared.item.Role.TheVariants.{Arc, Inhibitor}
use Rattle.names.specs.Names.{valid_name, packed}
use Rattle.numerals.specs.Numerals.{numeral}

-- what an item says: its place, told by the number that the place's name is packed into; whether it is an arc or an inhibitor; and its number, the weight of an arc
pub record ItemSaid : Type 0 where
  pub place : ℕ
  pub role : Role
  pub number : Result ℕ NumberFault

-- what stands behind a name: nothing, `*` and more, `?-` and more, anything else
pub data Tail : Type 0 where
  nothing : Tail
  times : List ℕ → Tail
  inhibits : List ℕ → Tail
  other : Tail

-- behind a `?`
abbrev pub behind_mark : List ℕ → Tail
behind_mark [] = other
behind_mark (b ∷ bs) = cond (b == 45) (inhibits bs) other

abbrev pub tail_of : List ℕ → Tail
tail_of [] = nothing
tail_of (b ∷ bs) = cond (b == 42) (times bs) (cond (b == 63) (behind_mark bs) other)

-- how many bytes stand before the first `*` or `?`
abbrev pub name_length : List ℕ → ℕ
name_length bs = position_or_len (λ b. b == 42 || b == 63) bs

-- an item of the place p in a role, by the number behind it
abbrev pub item_of : ℕ → Role → Option (Result ℕ NumberFault) → Option ItemSaid
item_of p role None = None
item_of p role (Some n) = Some (record { place = p; role = role; number = n })

-- an item of the place p: NAME is an arc of the weight 1, NAME*N an arc of the weight N, 1 to 4; NAME?-N is an inhibitor, and N is 1
abbrev pub item_by : ℕ → Tail → Option ItemSaid
item_by p nothing = item_of p Arc (Some (Ok 1))
item_by p (times ds) = item_of p Arc (ranged_numeral 1 4 (numeral ds))
item_by p (inhibits ds) = item_of p Inhibitor (ranged_numeral 1 1 (numeral ds))
item_by p other = None

-- a name and what stands behind it
abbrev pub item_parts : List ℕ → List ℕ → Option ItemSaid
item_parts name tail = cond (valid_name name) (item_by (packed name) (tail_of tail)) None

-- an input item: NAME, NAME*N or NAME?-N; none where the word is no such item
abbrev pub input_item : List ℕ → Option ItemSaid
input_item bs = item_parts (take (name_length bs) bs) (drop (name_length bs) bs)

-- an arc, and no inhibitor
abbrev pub arc_by : Role → ItemSaid → Option ItemSaid
arc_by Arc i = Some i
arc_by Inhibitor i = None

abbrev pub arc_only : Option ItemSaid → Option ItemSaid
arc_only None = None
arc_only (Some i) = arc_by i.role i

-- an output item: NAME or NAME*N; none where the word is no such item
abbrev pub output_item : List ℕ → Option ItemSaid
output_item bs = arc_only (input_item bs)
