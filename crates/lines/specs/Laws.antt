-- The laws of lines and words. Assumes nothing.
use Rattle.std.specs.Prelude.{◌≡◌, ℕ, ◌+◌, ◌<◌, ◌≤◌, Bool, false, cond, List, [], ◌∷◌, ◌++◌, length, ◌==◌}
use Rattle.std.specs.List.{AllByRecursion, list_any}
use Rattle.lines.specs.Lines.{lines, ended, lacks_last}
use Rattle.lines.specs.Words.{Words, stop, word, words, put_back}

-- the byte b stands in the list
abbrev pub holds : ℕ → List ℕ → Bool
holds b xs = list_any (λ x. x == b) xs

-- no line of the list has LF in it
abbrev pub Unbroken : List (List ℕ) → Type 0
Unbroken ls = AllByRecursion (λ line. holds 10 line ≡ false) ls

-- the lines of a text, each with LF behind it, are the text, with one LF more where the text's last line lacks it; no line has LF in it
abbrev pub LinesJoin : Type 0
LinesJoin = (text : List ℕ) → (ended (lines text) ≡ cond (lacks_last text) (text ++ 10 ∷ []) text) × Unbroken (lines text)

-- what stands behind a word that ends before column c: the next word begins behind column c, with a space between
abbrev pub Behind : ℕ → Words → Type 0
Behind c (stop d) = c ≤ d
Behind c (word d bs more) = c < d

-- each word is not empty and has no space in it, and between two words there is a space
abbrev pub Parted : Words → Type 0
Parted (stop d) = Unit {0}
Parted (word d bs more) = (0 < length bs) × (holds 32 bs ≡ false) × Behind (d + length bs) more × Parted more

-- the words of a line, put back at their columns with spaces elsewhere, are the line; and they are parted
abbrev pub WordsRebuild : Type 0
WordsRebuild = (line : List ℕ) → (put_back 1 (words 1 line) ≡ line) × Parted (words 1 line)
