-- The token that the code finds.
use Rattle.std.proofs.Common.{◌≡◌, ℕ, Bool, true, false, zero, suc, ◌+◌, cond, eqb, List, [], ◌∷◌, Some, None, Option, MatchOption, option_map, unwrap_or, Bor, slice_get, refl, ap, ◌∙◌, arith}
use Rattle.std.proofs.lemmas.Bool.{eq-eqb, ne_eqb}
use Rattle.std.specs.List.{find}
use Rattle.lines.specs.Listing.{listed}
use Rattle.lines.specs.declared.word_cursor.Word.{Word}
use Rattle.lines.specs.Words.{Words, stop, word}
use Rattle.faults.specs.Faults.{line_from, word_at}

-- the line with a number, by how many lines stand before it
pub line_nth : (k i n : ℕ) (ls : List (List ℕ)) → n ≡ k + i → line_from k n ls ≡ unwrap_or (slice_get ls i) []
line_nth k i n [] e = refl
line_nth k zero n (l ∷ ls) e = ap (λ t. cond t l (line_from (k + 1) n ls)) (eq-eqb k n (omega arith))
line_nth k (suc i) n (l ∷ ls) e = ap (λ t. cond t l (line_from (k + 1) n ls)) (ne_eqb k n (λ s. omega arith)) ∙ line_nth (k + 1) i n ls (omega arith)

-- the word at a column, by a search
pub word_found : (c : ℕ) (w : Words) → word_at c w ≡ unwrap_or (option_map (λ p. p.1) (find (λ p. eqb p.0 c) (listed w))) []
word_found c (stop d) = refl
word_found c (word d bs more) = at (eqb d c) (word_found c more)
  where
    at : (t : Bool) → word_at c more ≡ unwrap_or (option_map (λ p. p.1) (find (λ p. eqb p.0 c) (listed more))) [] → cond t bs (word_at c more) ≡ unwrap_or (option_map (λ p. p.1) (cond t (Some (d, bs)) (find (λ p. eqb p.0 c) (listed more)))) []
    at true h = refl
    at false h = h

-- what a reference or an empty one reads
pub read_or : (r : Option (Bor (List ℕ))) (d : Bor (List ℕ)) → d.now ≡ [] → (unwrap_or r d).now ≡ unwrap_or (option_map (λ x. x.now) r) []
read_or None d e = e
read_or (Some x) d e = refl

-- the same of a word's bytes
pub bytes_or : {P : Type 0} {Q : Word → Type 0} (r : Option Word) (x : Bor (List ℕ)) → MatchOption r P Q → (P → x.now ≡ []) → ((w : Word) → Q w → x.now ≡ w.bytes.now) → x.now ≡ unwrap_or (option_map (λ (p : ℕ × List ℕ). p.1) (option_map (λ (w : Word). (w.column, w.bytes.now)) r)) []
bytes_or None x h none some = none h
bytes_or (Some w) x h none some = some w h
