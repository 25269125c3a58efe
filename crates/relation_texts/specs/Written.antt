-- Which lines fit the forms, told by how they are written. Assumes nothing.
use Rattle.std.specs.Prelude.{◌≡◌, ℕ, ◌↔◌, List, Some, Ok, codes}
use Rattle.lines.specs.Words.{Words, stop, word}
use Rattle.numerals.specs.Numerals.{numeral}
use Rattle.relation_texts.specs.Forms.{plain, said}
use Rattle.relation_texts.specs.declared.forms.Count.{Count}
use Rattle.relation_texts.specs.declared.forms.Said.{Said}
use Rattle.relation_texts.specs.declared.forms.Said.TheVariants.{Nothing, Header, Edge}

-- the bytes write the number out
abbrev pub Writes : List ℕ → Count → Type 0
Writes bs n = plain (numeral bs) ≡ Some n.value

-- a line as it is written, and what it says
pub data LineWritten : Words → Said → Type 0 where
  blank : {c : ℕ} → LineWritten (stop c) Nothing
  comment : {c : ℕ} {more : Words} → LineWritten (word c (codes "c") more) Nothing
  header : {c d e : ℕ} {places pairs : Count} (ns ms : List ℕ) → Writes ns places → Writes ms pairs → LineWritten (word c (codes "p") (word d (codes "edge") (word places.column ns (word pairs.column ms (stop e))))) (Header c places pairs)
  edge : {c d : ℕ} {left right : Count} (ws vs : List ℕ) → Writes ws left → Writes vs right → LineWritten (word c (codes "e") (word left.column ws (word right.column vs (stop d)))) (Edge c left right)

-- a line says something exactly when it is so written
abbrev pub FormsExactly : Type 0
FormsExactly = (w : Words) (s : Said) → (said w ≡ Ok s) ↔ LineWritten w s
