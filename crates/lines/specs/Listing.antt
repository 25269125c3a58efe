-- The cursors' laws that the crates above use: what a cursor gives, one after another, as a list.
use Rattle.std.specs.Prelude.{ℕ, List, [], ◌∷◌, length}
use Rattle.std.proofs.Common.{ap}
use Rattle.std.proofs.lemmas.Iterator.{YieldsList}
use Rattle.std.proofs.lemmas.Iterator.Consumers.{YieldsList-from_shown}
use Rattle.lines.specs.Cursors.{lines_left, words_left, GivesLine, GivesWord}
use Rattle.lines.specs.Words.{Words, stop, word}
use Rattle.lines.specs.declared.line_cursor.LineCursor.{LineCursor}
use Rattle.lines.specs.declared.word_cursor.WordCursor.{WordCursor}

-- the lines that a cursor gives
pub lines_listed : (c : LineCursor) → YieldsList GivesLine (λ line. line.now) c (lines_left c)
lines_listed = YieldsList-from_shown GivesLine (λ line. line.now) lines_left (λ c d e. ap length e.0) (λ c line d e. e.0)

-- the words of a line, each with its column
abbrev pub listed : Words → List (ℕ × List ℕ)
listed (stop c) = []
listed (word c bs more) = (c, bs) ∷ listed more

-- the words that a cursor gives
pub words_listed : (c : WordCursor) → YieldsList GivesWord (λ w. (w.column, w.bytes.now)) c (listed (words_left c))
words_listed = YieldsList-from_shown GivesWord (λ w. (w.column, w.bytes.now)) (λ c. listed (words_left c)) (λ c d e. ap (λ w. length (listed w)) e.0) (λ c w d e. ap listed e.0)
