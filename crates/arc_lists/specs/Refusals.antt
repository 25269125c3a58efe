-- Why a list of arcs is refused. Assumes nothing.
use Rattle.std.specs.Prelude.{ℕ, Bool, true, false, Ok, Err, Result}
use Rattle.arc_lists.specs.declared.ArcListRefusal.{ArcListRefusal}
use Rattle.arc_lists.specs.declared.ArcListRefusal.TheVariants.{OverLimits}

-- the number of each refusal
abbrev pub arc_list_number : ArcListRefusal → ℕ
arc_list_number OverLimits = 22

-- what the check answers, by whether the list passes
abbrev pub checked : Bool → Result (Unit {0}) ArcListRefusal
checked true = Ok tt
checked false = Err OverLimits
