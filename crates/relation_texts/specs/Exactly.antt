-- Which faults a relation text has, told line by line, which of them is reported, and which relation is read. Assumes nothing.
use Rattle.std.specs.Prelude.{◌≡◌, ℕ, ◌+◌, ◌<◌, ◌≤◌, true, ◌⊎◌, ◌↔◌, List, [], ◌∷◌, ◌++◌, length, sum_by, Ok, Err, ◌≢◌}
use Rattle.faults.specs.Faults.{Fault, in_line}
use Rattle.faults.specs.Numbers.{line_fault}
use Rattle.faults.specs.declared.causes.Cause.TheVariants.{RelationTooLong}
use Rattle.faults.specs.declared.causes.LineFault.{LineFault}
use Rattle.faults.specs.declared.causes.LineFault.TheVariants.{RelationForm, Number, HeaderAgain, HeaderMissing, PairAgain}
use Rattle.faults.specs.declared.causes.NumberFault.TheVariants.{Mismatch}
use Rattle.lines.specs.Lines.{lines}
use Rattle.places.specs.Sets.{PlaceRelation}
use Rattle.relation_texts.specs.Forms.{OfLine, misfit, says}
use Rattle.relation_texts.specs.Walk.{at_most_16, relation_text}
use Rattle.relation_texts.specs.declared.forms.Count.{Count}
use Rattle.relation_texts.specs.declared.forms.Said.{Said}
use Rattle.relation_texts.specs.declared.forms.Said.TheVariants.{Nothing, Header, Edge}

-- some line of the list is such a line
abbrev pub SomeLine : (List ℕ → Type 0) → List (List ℕ) → Type 0
SomeLine P [] = ⊥
SomeLine P (line ∷ more) = P line ⊎ SomeLine P more

-- the line is a header
abbrev pub IsHeader : List ℕ → Type 0
IsHeader line = (c : ℕ) × ((places : Count) × ((pairs : Count) × (says line ≡ Ok (Header c places pairs))))

-- the line is an edge from the place with the number w to the place with the number v
abbrev pub IsEdge : ℕ → ℕ → List ℕ → Type 0
IsEdge w v line = (c : ℕ) × ((left : Count) × ((right : Count) × ((says line ≡ Ok (Edge c left right)) × ((left.value ≡ w) × (right.value ≡ v)))))

-- how many edges a line is: one or none; and how many of the lines are edges
abbrev pub edge_count : OfLine Said → ℕ
edge_count (Err f) = 0
edge_count (Ok Nothing) = 0
edge_count (Ok (Header c places pairs)) = 0
edge_count (Ok (Edge c left right)) = 1

abbrev pub edges_in : List (List ℕ) → ℕ
edges_in ls = sum_by (λ line. edge_count (says line)) ls

-- v is the number of one of n places that are numbered on from `before`
abbrev pub NumbersPlace : ℕ → ℕ → ℕ → Type 0
NumbersPlace before n v = (before < v) × (v ≤ before + n)

-- the faults of a line that says this, after the lines before it, between nets of L and R places; each with its column. A line may have several
pub data Breaks (L R : ℕ) (before : List (List ℕ)) : OfLine Said → LineFault → ℕ → Type 0 where
  -- 12: it fits no form
  unfit : {c : ℕ} → Breaks L R before (misfit c) RelationForm c
  -- 13: a header after a header; an edge with no header before it
  again : {c : ℕ} {places pairs : Count} → SomeLine IsHeader before → Breaks L R before (Ok (Header c places pairs)) HeaderAgain c
  missing : {c : ℕ} {left right : Count} → (SomeLine IsHeader before → ⊥) → Breaks L R before (Ok (Edge c left right)) HeaderMissing c
  -- 14: a wrong number of places; a number of no left place; a number of no right place
  wrong_places : {c : ℕ} {places pairs : Count} → (places.value ≢ L + R) → Breaks L R before (Ok (Header c places pairs)) (Number Mismatch) places.column
  wrong_left : {c : ℕ} {left right : Count} → (NumbersPlace 0 L left.value → ⊥) → Breaks L R before (Ok (Edge c left right)) (Number Mismatch) left.column
  wrong_right : {c : ℕ} {left right : Count} → (NumbersPlace L R right.value → ⊥) → Breaks L R before (Ok (Edge c left right)) (Number Mismatch) right.column
  -- 15: a pair again
  repeated : {c : ℕ} {left right : Count} → SomeLine (IsEdge left.value right.value) before → Breaks L R before (Ok (Edge c left right)) PairAgain c

-- a fault comes no later than another of the same line: by its number, and then by its column
abbrev pub NoLater : LineFault → ℕ → LineFault → ℕ → Type 0
NoLater f c g d = (line_fault f < line_fault g) ⊎ ((line_fault f ≡ line_fault g) × (c ≤ d))

-- the first fault of a line
pub record FirstOf (L R : ℕ) (before : List (List ℕ)) (x : OfLine Said) (f : LineFault) (c : ℕ) : Type 0 where
  pub breaks : Breaks L R before x f c
  pub first : (g : LineFault) (d : ℕ) → Breaks L R before x g d → NoLater f c g d

-- no line has a fault after the lines before it
abbrev pub Clean : ℕ → ℕ → List (List ℕ) → Type 0
Clean L R ls = (before : List (List ℕ)) (line : List ℕ) (after : List (List ℕ)) → ls ≡ before ++ line ∷ after → (f : LineFault) (c : ℕ) → Breaks L R before (says line) f c → ⊥

-- the line with the number n is a header, and announces so many pairs
pub record Announces (ls : List (List ℕ)) (n : ℕ) (pairs : Count) : Type 0 where
  pub before : List (List ℕ)
  pub line : List ℕ
  pub after : List (List ℕ)
  pub split : ls ≡ before ++ line ∷ after
  pub number : n ≡ length before + 1
  pub column : ℕ
  pub places : Count
  pub header : says line ≡ Ok (Header column places pairs)

-- the fault to report, its line and its column: the first fault of the first line that has one; where none has, a header that is missing, at column 1 of the line behind the last, or a header that announces another number of pairs
pub data Reported (L R : ℕ) (ls : List (List ℕ)) : LineFault → ℕ → ℕ → Type 0 where
  in_a_line : {f : LineFault} {c : ℕ} (before : List (List ℕ)) (line : List ℕ) (after : List (List ℕ)) → ls ≡ before ++ line ∷ after → Clean L R before → FirstOf L R before (says line) f c → Reported L R ls f (length before + 1) c
  no_header : Clean L R ls → (SomeLine IsHeader ls → ⊥) → Reported L R ls HeaderMissing (length ls + 1) 1
  miscounted : {n : ℕ} {pairs : Count} → Clean L R ls → Announces ls n pairs → (pairs.value ≢ edges_in ls) → Reported L R ls (Number Mismatch) n pairs.column

-- there is nothing to report
pub record Sound (L R : ℕ) (ls : List (List ℕ)) : Type 0 where
  pub clean : Clean L R ls
  pub number : ℕ
  pub pairs : Count
  pub announced : Announces ls number pairs
  pub counted : pairs.value ≡ edges_in ls

-- the relation has exactly the pairs of the edges: the left place p has the number p + 1, the right place q has L + q + 1
abbrev pub PairsOf : ℕ → List (List ℕ) → PlaceRelation → Type 0
PairsOf L ls P = (p q : ℕ) → (P p q ≡ true) ↔ SomeLine (IsEdge (p + 1) (L + q + 1)) ls

-- the fault to report of a text
pub data FaultOf (text : List ℕ) (L R : ℕ) : Fault → Type 0 where
  too_long : 4096 < length text → FaultOf text L R (record { cause = RelationTooLong; text = text; line = 0; column = 0 })
  in_lines : {f : LineFault} {n c : ℕ} → length text ≤ 4096 → Reported L R (lines text) f n c → FaultOf text L R (in_line text n (record { cause = f; column = c }))

-- a fault is reported exactly when it is the one to report
abbrev pub FaultsExactly : Type 0
FaultsExactly = (text : List ℕ) (left right : ℕ) (f : Fault) → (relation_text text left right ≡ Err f) ↔ FaultOf text (at_most_16 left) (at_most_16 right) f

-- a relation is read exactly when there is nothing to report and it has exactly the pairs of the edges
abbrev pub RelationExactly : Type 0
RelationExactly =
    (text : List ℕ) (left right : ℕ) (P : PlaceRelation) →
    (relation_text text left right ≡ Ok P) ↔
    ((length text ≤ 4096) × (Sound (at_most_16 left) (at_most_16 right) (lines text) × PairsOf (at_most_16 left) (lines text) P))

-- some relation is read exactly when there is no fault to report
abbrev pub ReadOrFault : Type 0
ReadOrFault =
    (text : List ℕ) (left right : ℕ) →
    ((P : PlaceRelation) × (relation_text text left right ≡ Ok P)) ↔
    ((f : Fault) → FaultOf text (at_most_16 left) (at_most_16 right) f → ⊥)
