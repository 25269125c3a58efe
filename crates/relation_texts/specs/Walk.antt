-- What a relation text says: a walk over its lines. Assumes nothing.
use Rattle.std.specs.Prelude.{ℕ, ◌+◌, ◌-◌, min, Bool, true, cond, not, ◌&&◌, List, [], ◌∷◌, length, is_some, Some, None, Ok, Err, Option, Result, ◌==◌, nat_le, nat_lt}
use Rattle.faults.specs.Faults.{Fault, in_line}
use Rattle.faults.specs.declared.causes.Cause.TheVariants.{RelationTooLong}
use Rattle.faults.specs.declared.causes.LineFault.{LineFault}
use Rattle.faults.specs.declared.causes.LineFault.TheVariants.{Number, HeaderAgain, HeaderMissing, PairAgain}
use Rattle.faults.specs.declared.causes.NumberFault.TheVariants.{Mismatch}
use Rattle.lines.specs.Lines.{lines}
use Rattle.places.specs.Sets.{PlaceRelation, unrelated, with_pair}
use Rattle.relation_texts.specs.Forms.{OfLine, then, says}
use Rattle.relation_texts.specs.declared.forms.Count.{Count}
use Rattle.relation_texts.specs.declared.forms.Said.{Said}
use Rattle.relation_texts.specs.declared.forms.Said.TheVariants.{Nothing, Header, Edge}
use Rattle.relation_texts.specs.declared.reading.Announced.{Announced}

-- what the lines so far have said: the announced number of pairs with its line, where the header has come; how many edges; their pairs
pub record SoFar : Type 0 where
  pub announced : Option Announced
  pub edges : ℕ
  pub pairs : PlaceRelation

-- before the first line
abbrev pub nothing_yet : SoFar
nothing_yet = record { announced = None; edges = 0; pairs = unrelated }

-- a rule: where it is not kept, the line is wrong in that way at that column
abbrev pub rule : {A : Type 0} → Bool → LineFault → ℕ → OfLine A → OfLine A
rule kept cause c next = cond kept next (Err (record { cause = cause; column = c }))

-- v is the number of one of n places that are numbered on from `before`; which place it is, counted from 0
abbrev pub is_place : ℕ → ℕ → ℕ → Bool
is_place before n v = nat_lt before v && nat_le v (before + n)

abbrev pub place_of : ℕ → ℕ → ℕ
place_of before v = v - before - 1

-- what the lines have said, with a header in the line with the number n; with an edge between the places p and q
abbrev pub with_header : ℕ → Count → SoFar → SoFar
with_header n pairs s = record { announced = Some (record { pairs = pairs; line = n }); edges = s.edges; pairs = s.pairs }

abbrev pub with_edge : ℕ → ℕ → SoFar → SoFar
with_edge p q s = record { announced = s.announced; edges = s.edges + 1; pairs = with_pair s.pairs p q true }

-- a header in the line with the number n, `p` at column c, after the lines before it
abbrev pub headed : ℕ → ℕ → ℕ → SoFar → ℕ → Count → Count → OfLine SoFar
headed L R n s c places pairs =
    rule (not (is_some s.announced)) HeaderAgain c
    (rule (places.value == L + R) (Number Mismatch) places.column
    (Ok (with_header n pairs s)))

-- an edge, `e` at column c, after the lines before it
abbrev pub edged : ℕ → ℕ → SoFar → ℕ → Count → Count → OfLine SoFar
edged L R s c left right =
    rule (is_some s.announced) HeaderMissing c
    (rule (is_place 0 L left.value) (Number Mismatch) left.column
    (rule (is_place L R right.value) (Number Mismatch) right.column
    (rule (not (s.pairs (place_of 0 left.value) (place_of L right.value))) PairAgain c
    (Ok (with_edge (place_of 0 left.value) (place_of L right.value) s)))))

-- the line with the number n, by what it says, after the lines before it
abbrev pub taken : ℕ → ℕ → ℕ → SoFar → Said → OfLine SoFar
taken L R n s Nothing = Ok s
taken L R n s (Header c places pairs) = headed L R n s c places pairs
taken L R n s (Edge c left right) = edged L R s c left right

-- behind the last line, n being the number of the line that would be next
abbrev pub finished_by : List ℕ → ℕ → Option Announced → ℕ → PlaceRelation → Result PlaceRelation Fault
finished_by text n None edges pairs = Err (in_line text n (record { cause = HeaderMissing; column = 1 }))
finished_by text n (Some a) edges pairs = cond (a.pairs.value == edges) (Ok pairs) (Err (in_line text a.line (record { cause = Number Mismatch; column = a.pairs.column })))

abbrev pub finished : List ℕ → ℕ → SoFar → Result PlaceRelation Fault
finished text n s = finished_by text n s.announced s.edges s.pairs

-- on from the line with the number n: to the next, or to the fault
abbrev pub onward : List ℕ → ℕ → OfLine SoFar → (SoFar → Result PlaceRelation Fault) → Result PlaceRelation Fault
onward text n (Ok s) next = next s
onward text n (Err f) next = Err (in_line text n f)

-- the lines from the one with the number n on, after what the lines before have said
abbrev pub walk : List ℕ → ℕ → ℕ → ℕ → SoFar → List (List ℕ) → Result PlaceRelation Fault
walk text L R n s [] = finished text n s
walk text L R n s (line ∷ more) = onward text n (then (says line) (taken L R n s)) (λ t. walk text L R (n + 1) t more)

-- a net has at most 16 places; a larger number counts as 16
abbrev pub at_most_16 : ℕ → ℕ
at_most_16 n = min n 16

-- what a relation text says between nets of so many places: a relation, or the fault to report
abbrev pub relation_text : List ℕ → ℕ → ℕ → Result PlaceRelation Fault
relation_text text left right =
    cond (nat_le (length text) 4096) (walk text (at_most_16 left) (at_most_16 right) 1 nothing_yet (lines text))
    (Err (record { cause = RelationTooLong; text = text; line = 0; column = 0 }))
