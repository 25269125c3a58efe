-- A fault of a text, and the token at fault. Assumes nothing.
use Rattle.std.specs.Prelude.{ℕ, ◌+◌, cond, List, [], ◌∷◌, ◌==◌}
use Rattle.lines.specs.Lines.{lines}
use Rattle.lines.specs.Words.{Words, stop, word, words}
use Rattle.faults.specs.declared.causes.Cause.{Cause}
use Rattle.faults.specs.declared.causes.Cause.TheVariants.{Line}
use Rattle.faults.specs.declared.causes.Flaw.{Flaw}
use Rattle.faults.specs.declared.causes.LineFault.{LineFault}
use Rattle.faults.specs.declared.fault.TextFault.{TextFault}

-- a fault: what is wrong, in which text, in which line and at which column; both count from 1, and are 0 where the text is too long
pub record Fault : Type 0 where
  pub cause : Cause
  pub text : List ℕ
  pub line : ℕ
  pub column : ℕ

-- what a fault of the code means
abbrev pub fault_of : TextFault → Fault
fault_of f = record { cause = f.cause; text = f.text.now; line = f.line; column = f.column }

-- a flaw of a line, as a fault of the text in the line with that number
abbrev pub in_line : List ℕ → ℕ → Flaw LineFault → Fault
in_line text n f = record { cause = Line f.cause; text = text; line = n; column = f.column }

-- the line with the number n, where the first has the number k; the empty line where there is none
abbrev pub line_from : ℕ → ℕ → List (List ℕ) → List ℕ
line_from k n [] = []
line_from k n (line ∷ more) = cond (k == n) line (line_from (k + 1) n more)

-- the word at column c; nothing where none begins there
abbrev pub word_at : ℕ → Words → List ℕ
word_at c (stop d) = []
word_at c (word d bs more) = cond (d == c) bs (word_at c more)

-- the token of a text at a line and a column; nothing where none begins there
abbrev pub token_at : List ℕ → ℕ → ℕ → List ℕ
token_at text n c = word_at c (words 1 (line_from 1 n (lines text)))

-- the token at fault
abbrev pub token_of : Fault → List ℕ
token_of f = token_at f.text f.line f.column
