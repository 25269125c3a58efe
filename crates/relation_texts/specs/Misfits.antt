-- Where a line that fits no form stops fitting. Assumes nothing.
use Rattle.std.specs.Prelude.{◌≡◌, ℕ, ◌↔◌, List, [], ◌∷◌, ◌++◌, Some, codes}
use Rattle.lines.specs.Words.{Words, stop, word}
use Rattle.numerals.specs.Numerals.{numeral}
use Rattle.relation_texts.specs.Forms.{misfit, plain, said}

-- the bytes are a number: one to five digits, with no zero before another digit
abbrev pub IsNumber : List ℕ → Type 0
IsNumber bs = (v : ℕ) × (plain (numeral bs) ≡ Some v)

-- a line with these tokens fits a form
pub data Fits : List (List ℕ) → Type 0 where
  blank : Fits []
  comment : {a : List ℕ} {more : List (List ℕ)} → a ≡ codes "c" → Fits (a ∷ more)
  header : {a b n m : List ℕ} → a ≡ codes "p" → b ≡ codes "edge" → IsNumber n → IsNumber m → Fits (a ∷ b ∷ n ∷ m ∷ [])
  edge : {a w v : List ℕ} → a ≡ codes "e" → IsNumber w → IsNumber v → Fits (a ∷ w ∷ v ∷ [])

-- some line that fits begins with these tokens
abbrev pub Begins : List (List ℕ) → Type 0
Begins ts = (more : List (List ℕ)) × Fits (ts ++ more)

-- behind the tokens before, the line stops fitting at column c: at the first token with which no line that fits begins, or one past the last byte, where a token is missing
pub data StopsAt : List (List ℕ) → Words → ℕ → Type 0 where
  at_token : {before : List (List ℕ)} {c : ℕ} {bs : List ℕ} {more : Words} → (Begins (before ++ bs ∷ []) → ⊥) → StopsAt before (word c bs more) c
  at_end : {before : List (List ℕ)} {c : ℕ} → (Fits before → ⊥) → StopsAt before (stop c) c
  further : {before : List (List ℕ)} {c d : ℕ} {bs : List ℕ} {more : Words} → Begins (before ++ bs ∷ []) → StopsAt (before ++ bs ∷ []) more c → StopsAt before (word d bs more) c

-- a line fits no form at column c exactly when it stops fitting there
abbrev pub MisfitsExactly : Type 0
MisfitsExactly = (w : Words) (c : ℕ) → (said w ≡ misfit c) ↔ StopsAt [] w c
