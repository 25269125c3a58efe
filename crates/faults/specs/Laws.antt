-- The laws of the token at fault. Assumes nothing.
use Rattle.std.specs.Prelude.{◌≡◌, ℕ, ◌+◌, List, [], ◌++◌, length}
use Rattle.faults.specs.Faults.{line_from, token_at}
use Rattle.lines.specs.Lines.{lines}

-- a list of bytes is a part of another
pub record PartOf (part whole : List ℕ) : Type 0 where
  pub before : List ℕ
  pub behind : List ℕ
  pub split : before ++ (part ++ behind) ≡ whole

-- the token at a line and a column is a part of the text; it is empty at line 0, at the line behind the last, and one past a line's last byte
pub record TokenLaws : Type 0 where
  pub part : (text : List ℕ) (n c : ℕ) → PartOf (token_at text n c) text
  pub line_zero : (text : List ℕ) (c : ℕ) → token_at text 0 c ≡ []
  pub behind_last : (text : List ℕ) (c : ℕ) → token_at text (length (lines text) + 1) c ≡ []
  pub past_end : (text : List ℕ) (n : ℕ) → token_at text n (length (line_from 1 n (lines text)) + 1) ≡ []
