-- What the cursors have left, and what they give. Assumes nothing.
use Rattle.std.specs.Prelude.{◌≡◌, ℕ, ◌<◌, ◌≤◌, List, length, MatchOption, Option}
use Rattle.std.specs.Borrow.{Bor}
use Rattle.lines.specs.Parts.{line_before, word_before}
use Rattle.lines.specs.Lines.{lines}
use Rattle.lines.specs.Words.{Words, words}
use Rattle.lines.specs.declared.line_cursor.LineCursor.{LineCursor}
use Rattle.lines.specs.declared.word_cursor.Word.{Word}
use Rattle.lines.specs.declared.word_cursor.WordCursor.{WordCursor}

-- the lines that a cursor has yet to give
abbrev pub lines_left : LineCursor → List (List ℕ)
lines_left c = lines c.rest.now

-- how many bytes of the text a cursor has before it
abbrev pub line_room : LineCursor → ℕ
line_room c = length c.rest.now

-- the lines that begin with what a cursor gave, and go on with what it has left then
abbrev pub line_then : Option (Bor (List ℕ)) → LineCursor → List (List ℕ)
line_then given c = line_before given c.rest.now

-- what a call of `next` gave: the lines left before are the line and the lines left then; behind the last line none, and no bytes are left
abbrev pub GivesLine : LineCursor → Option (Bor (List ℕ)) → LineCursor → Type 0
GivesLine c given d = (lines_left c ≡ line_then given d) × MatchOption given (line_room d ≡ 0) (λ line. (line_room d < line_room c) × (length line.now ≤ line_room c))

-- the words that a cursor has yet to give
abbrev pub words_left : WordCursor → Words
words_left c = words c.column c.rest.now

-- the column at which a cursor stands
abbrev pub column_of : WordCursor → ℕ
column_of c = c.column

-- how many bytes of the line a cursor has before it
abbrev pub word_room : WordCursor → ℕ
word_room c = length c.rest.now

-- the words that begin with what a cursor gave, and go on with what it has left then
abbrev pub word_then : Option Word → WordCursor → Words
word_then given c = word_before given c.column c.rest.now

-- what a call of `next` gave: the words left before are the word and the words left then; behind the last word none, and no bytes are left
abbrev pub GivesWord : WordCursor → Option Word → WordCursor → Type 0
GivesWord c given d = (words_left c ≡ word_then given d) × MatchOption given (word_room d ≡ 0) (λ _. word_room d < word_room c)
