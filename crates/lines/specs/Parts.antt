-- The lines and the words that begin with what a cut gave. Assumes nothing.
use Rattle.std.specs.Prelude.{ℕ, List, [], ◌∷◌, Some, None, Option}
use Rattle.std.specs.Borrow.{Bor}
use Rattle.lines.specs.Lines.{lines}
use Rattle.lines.specs.Words.{Words, stop, word, words}
use Rattle.lines.specs.declared.word_cursor.Word.{Word}

-- the line that was cut off, before the lines of what is left
abbrev pub line_before : Option (Bor (List ℕ)) → List ℕ → List (List ℕ)
line_before None rest = []
line_before (Some line) rest = line.now ∷ lines rest

-- the word that was cut off, before the words of what is left from column c on
abbrev pub word_before : Option Word → ℕ → List ℕ → Words
word_before None c rest = stop c
word_before (Some w) c rest = word w.column w.bytes.now (words c rest)
