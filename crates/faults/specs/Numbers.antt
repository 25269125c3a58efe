-- The number of each fault. Assumes nothing.
use Rattle.std.specs.Prelude.{ℕ}
use Rattle.faults.specs.declared.causes.NumberFault.{NumberFault}
use Rattle.faults.specs.declared.causes.NumberFault.TheVariants.{LeadingZero, OutOfRange, Mismatch}
use Rattle.faults.specs.declared.causes.LineFault.{LineFault}
use Rattle.faults.specs.declared.causes.LineFault.TheVariants.{NetForm, RelationForm, Number, DeclaredAgain, NotDeclared, TooMany, RoleAgain, SumOutside, HeaderAgain, HeaderMissing, PairAgain}
use Rattle.faults.specs.declared.causes.Cause.{Cause}
use Rattle.faults.specs.declared.causes.Cause.TheVariants.{NetTooLong, RelationTooLong, Line}

-- what is wrong with a number
abbrev pub number_fault : NumberFault → ℕ
number_fault LeadingZero = 3
number_fault OutOfRange = 3
number_fault Mismatch = 14

-- what is wrong with a line
abbrev pub line_fault : LineFault → ℕ
line_fault NetForm = 2
line_fault RelationForm = 12
line_fault (Number f) = number_fault f
line_fault DeclaredAgain = 4
line_fault NotDeclared = 5
line_fault TooMany = 6
line_fault RoleAgain = 7
line_fault SumOutside = 7
line_fault HeaderAgain = 13
line_fault HeaderMissing = 13
line_fault PairAgain = 15

-- what is wrong with a text
abbrev pub text_fault : Cause → ℕ
text_fault NetTooLong = 1
text_fault RelationTooLong = 11
text_fault (Line f) = line_fault f
