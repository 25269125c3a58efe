-- The law of words that the crates above use: the words of a line are parted, and none stands before the line's first column. Assumes nothing.
use Rattle.std.specs.Prelude.{◌≡◌, ℕ, suc, ◌+◌, ◌≤◌, Bool, true, false, cond, List, [], ◌∷◌, length, ◌==◌, refl}
use Rattle.std.proofs.Common.{subst, arith}
use Rattle.std.proofs.lemmas.Bool.{eqb-true, eqb-false, or_from}
use Rattle.lines.specs.Laws.{holds, Behind, Parted}
use Rattle.lines.specs.Words.{Words, stop, word, begun, words}

-- the column of what stands first
abbrev pub front : Words → ℕ
front (stop d) = d
front (word d bs more) = d

-- no word stands before the line's first column
pub from_front : (c : ℕ) (xs : List ℕ) → c ≤ front (words c xs)
from_front c [] = omega arith
from_front c (x ∷ xs) = at (x == 32) (words (c + 1) xs) (from_front (c + 1) xs)
  where
    at : (t : Bool) (w : Words) → c + 1 ≤ front w → c ≤ front (cond t w (begun c x w))
    at true w h = omega arith
    at false (stop d) h = omega arith
    at false (word d bs more) h = inner (d == c + 1)
      where
        inner : (t : Bool) → c ≤ front (cond t (word c (x ∷ bs) more) (word c (x ∷ []) (word d bs more)))
        inner true = omega arith
        inner false = omega arith

-- the words behind a byte stand behind it
apart : (c b : ℕ) (w : Words) → (b == 32) ≡ false → c + 1 ≤ front w → Parted w → Parted (begun c b w)
apart c b (stop d) e h p = (omega arith, or_from (b == 32) false e refl, h, tt)
apart c b (word d bs more) e h p = at (d == c + 1) refl
  where
    at : (t : Bool) → (d == c + 1) ≡ t → Parted (cond t (word c (b ∷ bs) more) (word c (b ∷ []) (word d bs more)))
    at true f = (omega arith, or_from (b == 32) (holds 32 bs) e p.1, (let same : d ≡ c + 1 = eqb-true d (c + 1) f in let behind : d + length bs ≡ c + suc (length bs) = omega arith in subst (λ k. Behind k more) behind p.2), p.3)
    at false f = (omega arith, or_from (b == 32) false e refl, (let other : d ≡ c + 1 → ⊥ = eqb-false d (c + 1) f in omega arith), p)

pub parted : (c : ℕ) (line : List ℕ) → Parted (words c line)
parted c [] = tt
parted c (b ∷ bs) = at (b == 32) refl (parted (c + 1) bs)
  where
    at : (t : Bool) → (b == 32) ≡ t → Parted (words (c + 1) bs) → Parted (cond t (words (c + 1) bs) (begun c b (words (c + 1) bs)))
    at true e more = more
    at false e more = apart c b (words (c + 1) bs) e (from_front (c + 1) bs) more
