-- Rows that are copied from a net. Assumes nothing.
use Rattle.std.specs.Prelude.{◌≡◌, ℕ, ◌<◌, false, List, length, slice_index, slice_index_or}
use Rattle.nets.specs.Meaning.{Meaning}
use Rattle.nets.specs.Rows.{row_at}
use Rattle.nets.specs.declared.row.Row.{Row}

-- the row has the label of t, and its weights and inhibitors at the places below 16
pub record RowOf (n : Meaning) (t : ℕ) (row : Row) : Type 0 where
  pub label_is : row.label ≡ n.label t
  pub long_inputs : length row.inputs ≡ 16
  pub long_outputs : length row.outputs ≡ 16
  pub long_inhibitors : length row.inhibitors ≡ 16
  pub inputs_are : (p : ℕ) → p < 16 → slice_index row.inputs p ≡ n.input t p
  pub outputs_are : (p : ℕ) → p < 16 → slice_index row.outputs p ≡ n.output t p
  pub inhibitors_are : (p : ℕ) → p < 16 → slice_index_or row.inhibitors p false ≡ n.inhibits t p

-- the rows of the transitions below 32
pub record RowsOf (n : Meaning) (rows : List Row) : Type 0 where
  pub long : length rows ≡ 32
  pub each : (t : ℕ) → t < 32 → RowOf n t (row_at rows t)
