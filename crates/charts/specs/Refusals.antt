-- The numbers of the refusals, and what a refused call leaves. Assumes nothing.
use Rattle.std.specs.Prelude.{ℕ, Ok, Err, Result}
use Rattle.charts.specs.declared.refusals.RowRefusal.{RowRefusal}
use Rattle.charts.specs.declared.refusals.RowRefusal.TheVariants.{Weight, NoSuchPlace, Repeated, TooHeavy}
use Rattle.charts.specs.declared.refusals.ChartRefusal.{ChartRefusal}
use Rattle.charts.specs.declared.refusals.ChartRefusal.TheVariants.{Marking, DeclaredAgain, NotDeclared, TooManyPlaces, TooManyTokens, TooManyTransitions, Sum}

-- the number of each refusal of a row
abbrev pub row_number : RowRefusal → ℕ
row_number Weight = 3
row_number NoSuchPlace = 5
row_number Repeated = 7
row_number TooHeavy = 7

-- the number of each refusal of a chart
abbrev pub chart_number : ChartRefusal → ℕ
chart_number Marking = 3
chart_number DeclaredAgain = 4
chart_number NotDeclared = 5
chart_number TooManyPlaces = 6
chart_number TooManyTokens = 6
chart_number TooManyTransitions = 6
chart_number (Sum role) = 7

-- what stands after a call: what it makes of what stood before, or, where it was refused, what stood before
abbrev pub unless_refused : {T E X : Type 0} → Result T E → X → X → X
unless_refused (Ok value) before after = after
unless_refused (Err refusal) before after = before
