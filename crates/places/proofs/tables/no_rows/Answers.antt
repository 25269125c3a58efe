use Rattle.places.proofs.Steps.{no_rows, square_rows}
use Rattle.places.proofs.tables.no_rows.Goals as goal

pub returns : goal.returns
returns c = record { square = square_rows; value = no_rows }
