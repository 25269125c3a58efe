-- The kinds of arcs by their numbers, and links. Assumes nothing.
use Rattle.std.specs.Prelude.{◌≡◌, ℕ, ◌<◌, Bool, List, Result, MatchResult}
use Rattle.nets.specs.declared.role.Role.{Role}
use Rattle.nets.specs.declared.role.Role.TheVariants.{Input as in_role, Output as out_role}
use Rattle.arc_lists.specs.Arcs.{arc_is, weights, some_arc}
use Rattle.arc_lists.specs.declared.arc.Arc.{Arc}
use Rattle.arc_lists.specs.declared.kind.Kind.{Kind}
use Rattle.arc_lists.specs.declared.kind.Kind.TheVariants.{Input, Output, Inhibitor}
use Rattle.arc_lists.specs.declared.kind.UnknownKind.{UnknownKind}
use Rattle.arc_lists.specs.declared.link.Link.{Link}

-- the number that stands for a kind in a record
abbrev pub kind_number : Kind → ℕ
kind_number Input = 0
kind_number Output = 1
kind_number Inhibitor = 2

-- the number of the kind of arcs that give a place a role
abbrev pub role_number : Role → ℕ
role_number in_role = 0
role_number out_role = 1

-- the result is the kind with this number; none where it is above 2
abbrev pub Decodes : ℕ → Result Kind UnknownKind → Type 0
Decodes number r = MatchResult r (λ kind. kind_number kind ≡ number) (λ _. 2 < number)

-- whether an arc weighs a link; the sum of the weights of those that do; whether some arc does
abbrev pub weighs : Link → Arc → Bool
weighs l a = arc_is (kind_number l.kind) l.transition l.place a

abbrev pub link_weights : Link → List Arc → ℕ
link_weights l arcs = weights (kind_number l.kind) l.transition l.place arcs

abbrev pub some_weighs : Link → List Arc → Bool
some_weighs l arcs = some_arc (kind_number l.kind) l.transition l.place arcs
