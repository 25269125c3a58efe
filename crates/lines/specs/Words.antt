-- A line, which is a list of bytes, as words with their columns. The byte 32 is the space. Assumes nothing.
use Rattle.std.specs.Prelude.{ℕ, ◌+◌, ◌-◌, cond, List, [], ◌∷◌, ◌++◌, length, replicate, ◌==◌}

-- the words of a line from some column on: each with its column and its bytes, and then the column one past the last byte
pub data Words : Type 0 where
  stop : ℕ → Words
  word : ℕ → List ℕ → Words → Words

-- the byte b at column c, no space, before the words behind it: it lengthens the word that begins in the next column, and else is a word of its own
abbrev pub begun : ℕ → ℕ → Words → Words
begun c b (stop d) = word c (b ∷ []) (stop d)
begun c b (word d bs more) = cond (d == c + 1) (word c (b ∷ bs) more) (word c (b ∷ []) (word d bs more))

-- the words of a line whose first byte stands at column c: only the space parts words
abbrev pub words : ℕ → List ℕ → Words
words c [] = stop c
words c (b ∷ bs) = cond (b == 32) (words (c + 1) bs) (begun c b (words (c + 1) bs))

-- the way back: from column c on, each word at its column and spaces elsewhere
abbrev pub put_back : ℕ → Words → List ℕ
put_back c (stop d) = replicate (d - c) 32
put_back c (word d bs more) = replicate (d - c) 32 ++ (bs ++ put_back (d + length bs) more)
