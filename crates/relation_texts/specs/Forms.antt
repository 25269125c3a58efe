-- The forms of the lines of a relation text. Assumes nothing.
use Rattle.std.specs.Prelude.{ℕ, cond, List, [], ◌∷◌, Some, None, Ok, Err, codes, Option, Result, ◌==◌}
use Rattle.faults.specs.declared.causes.Flaw.{Flaw}
use Rattle.faults.specs.declared.causes.LineFault.{LineFault}
use Rattle.faults.specs.declared.causes.LineFault.TheVariants.{RelationForm}
use Rattle.lines.specs.Words.{Words, stop, word, words}
use Rattle.numerals.specs.Numerals.{numeral}
use Rattle.numerals.specs.declared.Numeral.{Numeral}
use Rattle.relation_texts.specs.declared.forms.Count.{Count}
use Rattle.relation_texts.specs.declared.forms.Said.{Said}
use Rattle.relation_texts.specs.declared.forms.Said.TheVariants.{Nothing, Header, Edge}
use Rattle.std.specs.Str.{bytes_eq}

-- what comes of a line, or what is wrong with it
abbrev pub OfLine : Type 0 → Type 0
OfLine A = Result A (Flaw LineFault)

-- where the first is well, the next
abbrev pub then : {A B : Type 0} → OfLine A → (A → OfLine B) → OfLine B
then (Ok x) next = next x
then (Err f) next = Err f

-- the line fits no form, at column c
abbrev pub no_form : ℕ → Flaw LineFault
no_form c = record { cause = RelationForm; column = c }

abbrev pub misfit : {A : Type 0} → ℕ → OfLine A
misfit c = Err (no_form c)

-- a number: one to five digits, with no zero before another digit
abbrev pub plain : Option Numeral → Option ℕ
plain None = None
plain (Some n) = cond n.padded None (Some n.value)

-- a number at column c, before other words
abbrev pub counted : ℕ → Option ℕ → Words → OfLine (Count × Words)
counted c None more = misfit c
counted c (Some v) more = Ok (record { column = c; value = v }, more)

-- a number comes first
abbrev pub number_first : Words → OfLine (Count × Words)
number_first (stop c) = misfit c
number_first (word c bs more) = counted c (plain (numeral bs)) more

-- nothing comes behind
abbrev pub last : {A : Type 0} → A → Words → OfLine A
last x (stop c) = Ok x
last x (word c bs more) = misfit c

-- two numbers, and nothing behind them
abbrev pub two_numbers : Words → OfLine (Count × Count)
two_numbers w = then (number_first w) (λ n. then (number_first n.1) (λ m. last (n.0, m.0) m.1))

-- behind `p` at column c: `edge`, the number of places, the number of pairs
abbrev pub header_line : ℕ → Words → OfLine Said
header_line c (stop d) = misfit d
header_line c (word d bs more) = cond (bytes_eq bs (codes "edge")) (then (two_numbers more) (λ n. Ok (Header c n.0 n.1))) (misfit d)

-- behind `e` at column c: a left place, a right place
abbrev pub edge_line : ℕ → Words → OfLine Said
edge_line c w = then (two_numbers w) (λ n. Ok (Edge c n.0 n.1))

-- a word of one byte, by that byte; none for any other word
abbrev pub letter : List ℕ → Option ℕ
letter [] = None
letter (b ∷ []) = Some b
letter (b ∷ c ∷ bs) = None

-- a line by its first word: `c` (99) begins a comment, `p` (112) the header, `e` (101) an edge
abbrev pub said_by : Option ℕ → ℕ → Words → OfLine Said
said_by None c more = misfit c
said_by (Some b) c more = cond (b == 99) (Ok Nothing) (cond (b == 112) (header_line c more) (cond (b == 101) (edge_line c more) (misfit c)))

-- what a line says: nothing, where it is blank or a comment; a header; an edge
abbrev pub said : Words → OfLine Said
said (stop c) = Ok Nothing
said (word c bs more) = said_by (letter bs) c more

-- what a line of bytes says
abbrev pub says : List ℕ → OfLine Said
says line = said (words 1 line)
