-- What the code holds and gives, in the words of the walk. Assumes nothing.
use Rattle.places.specs.Meanings.{relation_of}
use Rattle.relation_texts.specs.Forms.{OfLine}
use Rattle.relation_texts.specs.Walk.{SoFar}
use Rattle.relation_texts.specs.declared.reading.Reading.{Reading}
use Rattle.std.specs.Prelude.{Ok, Err}

-- what the lines so far have said
abbrev pub so_far : Reading → SoFar
so_far s = record { announced = s.announced; edges = s.edges; pairs = relation_of s.pairs }

-- what a line left, or what is wrong with it
abbrev pub left_by : OfLine (Unit {0}) → Reading → OfLine SoFar
left_by (Ok done) s = Ok (so_far s)
left_by (Err f) s = Err f
