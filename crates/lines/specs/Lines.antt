-- A text, which is a list of bytes, as lines. The byte 10 is LF. Assumes nothing.
use Rattle.std.specs.Prelude.{ℕ, Bool, false, cond, not, List, [], ◌∷◌, ◌++◌, ◌==◌}
use Rattle.std.specs.List.{onto_first}

-- the byte b in front of the first line; where there is no line, a line of its own
abbrev pub in_front : ℕ → List (List ℕ) → List (List ℕ)
in_front b more = onto_first b more

-- the lines of a text: LF ends a line, and the last line may lack it
abbrev pub lines : List ℕ → List (List ℕ)
lines [] = []
lines (b ∷ bs) = cond (b == 10) ([] ∷ lines bs) (in_front b (lines bs))

-- the way back: each line with LF behind it
abbrev pub ended : List (List ℕ) → List ℕ
ended [] = []
ended (line ∷ more) = line ++ 10 ∷ ended more

-- the text has a last byte, and it is not LF
abbrev pub lacks_last : List ℕ → Bool
lacks_last [] = false
lacks_last (b ∷ []) = not (b == 10)
lacks_last (b ∷ c ∷ bs) = lacks_last (c ∷ bs)
