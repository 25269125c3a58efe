-- The token at fault is a part of the text.
use Rattle.std.proofs.Common.{◌≡◌, ℕ, ◌+◌, ◌<◌, ◌≤◌, Bool, true, false, cond, eqb, List, [], ◌∷◌, ◌++◌, length, sym, refl, ap, ◌∙◌, append_assoc, arith}
use Rattle.std.proofs.lemmas.Bool.{eqb-true, ne_eqb}
use Rattle.lines.specs.Lines.{in_front, lines}
use Rattle.lines.specs.Parting.{front, from_front}
use Rattle.lines.specs.Words.{Words, stop, word, begun, words}
use Rattle.faults.specs.Faults.{line_from, word_at, token_at}
use Rattle.faults.specs.Laws.{PartOf, TokenLaws}

nothing_part : (whole : List ℕ) → PartOf [] whole
nothing_part whole = record { before = []; behind = whole; split = refl }

part_more : (b : ℕ) {part whole : List ℕ} → PartOf part whole → PartOf part (b ∷ whole)
part_more b p = record { before = b ∷ p.before; behind = p.behind; split = ap (λ bs. b ∷ bs) p.split }

part_front : (part whole behind : List ℕ) → part ++ behind ≡ whole → PartOf part whole
part_front part whole behind e = record { before = []; behind = behind; split = e }

part_of_part : {part middle whole : List ℕ} → PartOf part middle → PartOf middle whole → PartOf part whole
part_of_part {part} p q = record {
  before = q.before ++ p.before;
  behind = p.behind ++ q.behind;
  split =
      append_assoc q.before p.before (part ++ (p.behind ++ q.behind)) ∙
      ap (λ m. q.before ++ m) (sym (append_assoc p.before (part ++ p.behind) q.behind ∙ ap (λ m. p.before ++ m) (append_assoc part p.behind q.behind)) ∙ ap (λ m. m ++ q.behind) p.split) ∙
      q.split;
}

-- the first line stands in front, and every line is a part
abbrev Heads : List (List ℕ) → List ℕ → Type 0
Heads [] text = Unit {0}
Heads (line ∷ more) text = (behind : List ℕ) × (line ++ behind ≡ text)

heads : (text : List ℕ) → Heads (lines text) text
heads [] = tt
heads (b ∷ bs) = at (eqb b 10) (lines bs) (heads bs)
  where
    at : (t : Bool) (ls : List (List ℕ)) → Heads ls bs → Heads (cond t ([] ∷ ls) (in_front b ls)) (b ∷ bs)
    at true ls h = (b ∷ bs, refl)
    at false [] h = (bs, refl)
    at false (l ∷ ls) (behind, e) = (behind, ap (λ xs. b ∷ xs) e)

abbrev Parts : List (List ℕ) → List ℕ → Type 0
Parts [] text = Unit {0}
Parts (line ∷ more) text = PartOf line text × Parts more text

parts_more : (b : ℕ) (ls : List (List ℕ)) (text : List ℕ) → Parts ls text → Parts ls (b ∷ text)
parts_more b [] text h = tt
parts_more b (l ∷ ls) text h = (part_more b h.0, parts_more b ls text h.1)

line_parts : (text : List ℕ) → Parts (lines text) text
line_parts [] = tt
line_parts (b ∷ bs) = at (eqb b 10) (lines bs) (heads bs) (line_parts bs)
  where
    at : (t : Bool) (ls : List (List ℕ)) → Heads ls bs → Parts ls bs → Parts (cond t ([] ∷ ls) (in_front b ls)) (b ∷ bs)
    at true ls h p = (nothing_part (b ∷ bs), parts_more b ls bs p)
    at false [] h p = (part_front (b ∷ []) (b ∷ bs) bs refl, tt)
    at false (l ∷ ls) (behind, e) p = (part_front (b ∷ l) (b ∷ bs) behind (ap (λ xs. b ∷ xs) e), parts_more b ls bs p.1)

line_part : (k n : ℕ) (ls : List (List ℕ)) (text : List ℕ) → Parts ls text → PartOf (line_from k n ls) text
line_part k n [] text h = nothing_part text
line_part k n (l ∷ ls) text h = at (eqb k n) (line_part (k + 1) n ls text h.1)
  where
    at : (t : Bool) → PartOf (line_from (k + 1) n ls) text → PartOf (cond t l (line_from (k + 1) n ls)) text
    at true p = h.0
    at false p = p

-- a word that begins in the first column stands in front, and every word is a part
abbrev Starts : ℕ → Words → List ℕ → Type 0
Starts c (stop d) line = Unit {0}
Starts c (word d bs more) line = d ≡ c → (behind : List ℕ) × (bs ++ behind ≡ line)

starts : (c : ℕ) (line : List ℕ) → Starts c (words c line) line
starts c [] = tt
starts c (b ∷ bs) = at (eqb b 32) (words (c + 1) bs) (from_front (c + 1) bs) (starts (c + 1) bs)
  where
    at : (t : Bool) (w : Words) → c + 1 ≤ front w → Starts (c + 1) w bs → Starts c (cond t w (begun c b w)) (b ∷ bs)
    at true (stop d) h s = tt
    at true (word d ds more) h s = λ e. absurd (omega arith)
    at false (stop d) h s = λ e. (bs, refl)
    at false (word d ds more) h s = touch (eqb d (c + 1)) refl
      where
        touch : (t : Bool) → eqb d (c + 1) ≡ t → Starts c (cond t (word c (b ∷ ds) more) (word c (b ∷ []) (word d ds more))) (b ∷ bs)
        touch true e = λ _. let p = s (eqb-true d (c + 1) e) in (p.0, ap (λ xs. b ∷ xs) p.1)
        touch false e = λ _. (bs, refl)

abbrev Pieces : Words → List ℕ → Type 0
Pieces (stop d) line = Unit {0}
Pieces (word d bs more) line = PartOf bs line × Pieces more line

pieces_more : (b : ℕ) (w : Words) (line : List ℕ) → Pieces w line → Pieces w (b ∷ line)
pieces_more b (stop d) line h = tt
pieces_more b (word d bs more) line h = (part_more b h.0, pieces_more b more line h.1)

word_parts : (c : ℕ) (line : List ℕ) → Pieces (words c line) line
word_parts c [] = tt
word_parts c (b ∷ bs) = at (eqb b 32) (words (c + 1) bs) (starts (c + 1) bs) (word_parts (c + 1) bs)
  where
    at : (t : Bool) (w : Words) → Starts (c + 1) w bs → Pieces w bs → Pieces (cond t w (begun c b w)) (b ∷ bs)
    at true w s p = pieces_more b w bs p
    at false (stop d) s p = (part_front (b ∷ []) (b ∷ bs) bs refl, tt)
    at false (word d ds more) s p = touch (eqb d (c + 1)) refl
      where
        touch : (t : Bool) → eqb d (c + 1) ≡ t → Pieces (cond t (word c (b ∷ ds) more) (word c (b ∷ []) (word d ds more))) (b ∷ bs)
        touch true e = let q = s (eqb-true d (c + 1) e) in (part_front (b ∷ ds) (b ∷ bs) q.0 (ap (λ xs. b ∷ xs) q.1), pieces_more b more bs p.1)
        touch false e = (part_front (b ∷ []) (b ∷ bs) bs refl, pieces_more b (word d ds more) bs p)

word_part : (c : ℕ) (w : Words) (line : List ℕ) → Pieces w line → PartOf (word_at c w) line
word_part c (stop d) line h = nothing_part line
word_part c (word d bs more) line h = at (eqb d c) (word_part c more line h.1)
  where
    at : (t : Bool) → PartOf (word_at c more) line → PartOf (cond t bs (word_at c more)) line
    at true p = h.0
    at false p = p

token_part : (text : List ℕ) (n c : ℕ) → PartOf (token_at text n c) text
token_part text n c =
    part_of_part (word_part c (words 1 (line_from 1 n (lines text))) (line_from 1 n (lines text)) (word_parts 1 (line_from 1 n (lines text))))
    (line_part 1 n (lines text) text (line_parts text))

-- no line before the first and none behind the last
pub line_before : (k n : ℕ) (ls : List (List ℕ)) → n < k → line_from k n ls ≡ []
line_before k n [] h = refl
line_before k n (l ∷ ls) h = ap (λ t. cond t l (line_from (k + 1) n ls)) (ne_eqb k n (λ e. omega arith)) ∙ line_before (k + 1) n ls (omega arith)

line_behind : (k n : ℕ) (ls : List (List ℕ)) → k + length ls ≤ n → line_from k n ls ≡ []
line_behind k n [] h = refl
line_behind k n (l ∷ ls) h = ap (λ t. cond t l (line_from (k + 1) n ls)) (ne_eqb k n (λ e. omega arith)) ∙ line_behind (k + 1) n ls (omega arith)

-- every word begins before the line's end
abbrev Below : ℕ → Words → Type 0
Below d (stop e) = Unit {0}
Below d (word e bs more) = (e < d) × Below d more

below : (c d : ℕ) (line : List ℕ) → c + length line ≤ d → Below d (words c line)
below c d [] h = tt
below c d (b ∷ bs) h = at (eqb b 32) (words (c + 1) bs) (below (c + 1) d bs (omega arith))
  where
    at : (t : Bool) (w : Words) → Below d w → Below d (cond t w (begun c b w))
    at true w p = p
    at false (stop e) p = (omega arith, tt)
    at false (word e ds more) p = touch (eqb e (c + 1))
      where
        touch : (t : Bool) → Below d (cond t (word c (b ∷ ds) more) (word c (b ∷ []) (word e ds more)))
        touch true = (omega arith, p.1)
        touch false = (omega arith, p)

none_at : (d : ℕ) (w : Words) → Below d w → word_at d w ≡ []
none_at d (stop e) h = refl
none_at d (word e bs more) h = ap (λ t. cond t bs (word_at d more)) (ne_eqb e d (λ s. omega (arith, h.0))) ∙ none_at d more h.1

pub token_laws : TokenLaws
token_laws = record {
  part = token_part;
  line_zero = λ text c. ap (λ line. word_at c (words 1 line)) (line_before 1 0 (lines text) (omega arith));
  behind_last = λ text c. ap (λ line. word_at c (words 1 line)) (line_behind 1 (length (lines text) + 1) (lines text) (omega arith));
  past_end = λ text n. none_at (length (line_from 1 n (lines text)) + 1) (words 1 (line_from 1 n (lines text))) (below 1 (length (line_from 1 n (lines text)) + 1) (line_from 1 n (lines text)) (omega arith));
}
