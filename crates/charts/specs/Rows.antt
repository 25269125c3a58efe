-- What a row means, and what adding to it does. Assumes nothing.
use Rattle.std.specs.Prelude.{ℕ, ◌+◌, Bool, cond, not, ◌&&◌, ◌||◌, Ok, Err, Result, ◌==◌, nat_le, nat_lt}
use Rattle.std.specs.List.{list_all, range_with_len}
use Rattle.places.specs.Bags.{Bag, empty, ◌⊕◌}
use Rattle.places.specs.Sets.{Subset, nowhere, size, with_place}
use Rattle.places.specs.Tables.{counted}
use Rattle.places.specs.Meanings.{set_of}
use Rattle.charts.specs.declared.refusals.RowRefusal.{RowRefusal}
use Rattle.charts.specs.declared.refusals.RowRefusal.TheVariants.{Weight, NoSuchPlace, Repeated, TooHeavy}
use Rattle.charts.specs.declared.weights.Weights.{Weights}
use Rattle.charts.specs.declared.row.ChartRow.{ChartRow}

-- the bag of one weight: w at the place a
abbrev pub weighted : ℕ → ℕ → Bag
weighted a w p = cond (a == p) w 0

-- the bag with the weight w more at the place a
abbrev pub with_weight : Bag → ℕ → ℕ → Bag
with_weight m a w = weighted a w ⊕ m

-- the answer where the weight w is added at the place a: the weight is 1 to 4, there is such a place, it has no weight
-- yet, and the weights add up to at most 4; or the first of these that does not hold
abbrev pub added_as : Bag → ℕ → ℕ → Result (Unit {0}) RowRefusal
added_as m a w = cond (nat_le 1 w && nat_le w 4) (cond (nat_lt a 16) (cond (m a == 0) (cond (nat_le (size m + w) 4) (Ok tt) (Err TooHeavy)) (Err Repeated)) (Err NoSuchPlace)) (Err Weight)

-- the answer where the place a is to inhibit: there is such a place, and it does not inhibit yet
abbrev pub inhibited_as : Subset → ℕ → Result (Unit {0}) RowRefusal
inhibited_as S a = cond (nat_lt a 16) (cond (S a) (Err Repeated) (Ok tt)) (Err NoSuchPlace)

-- a row: its input weights, its output weights, and the places that inhibit
pub record RowView : Type 0 where
  pub inputs : Bag
  pub outputs : Bag
  pub inhibitors : Subset

-- the row with nothing in it
abbrev pub empty_row : RowView
empty_row = record { inputs = empty; outputs = empty; inhibitors = nowhere }

-- the row with one input more, one output more, one inhibitor more
abbrev pub with_input : RowView → ℕ → ℕ → RowView
with_input r a w = record { inputs = with_weight r.inputs a w; outputs = r.outputs; inhibitors = r.inhibitors }

abbrev pub with_output : RowView → ℕ → ℕ → RowView
with_output r a w = record { inputs = r.inputs; outputs = with_weight r.outputs a w; inhibitors = r.inhibitors }

abbrev pub with_inhibitor : RowView → ℕ → RowView
with_inhibitor r a = record { inputs = r.inputs; outputs = r.outputs; inhibitors = with_place r.inhibitors a }

-- whether the row has neither a weight nor an inhibitor at the place p
abbrev pub empty_at : RowView → ℕ → Bool
empty_at r p = r.inputs p == 0 && (r.outputs p == 0 && not (r.inhibitors p))

-- whether the row is empty at the places from P on that are below k
unfoldable pub empty_from : ℕ → ℕ → RowView → Bool
empty_from P k r = list_all (λ p. nat_lt p P || empty_at r p) (range_with_len 0 k)

-- whether the row has weights and inhibitors only at places below P
abbrev pub declared_only : ℕ → RowView → Bool
declared_only P r = empty_from P 16 r

-- what the weights of the code mean
abbrev pub weights_of : Weights → Bag
weights_of w = counted w.counts

-- what a row of the code means
abbrev pub row_view : ChartRow → RowView
row_view r = record { inputs = weights_of r.inputs; outputs = weights_of r.outputs; inhibitors = set_of r.inhibitors }
