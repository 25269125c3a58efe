-- The laws of lines and words.
use Rattle.std.proofs.Common.{◌≡◌, ℕ, suc, ◌+◌, ◌-◌, ◌<◌, ◌≤◌, Bool, true, false, cond, not, eqb, ◌⊎◌, List, [], ◌∷◌, ◌++◌, length, replicate, sym, refl, ap, ◌∙◌, inl, inr, arith}
use Rattle.std.proofs.lemmas.Bool.{eqb-true, or_from}
use Rattle.lines.specs.Lines.{in_front, lines, ended, lacks_last}
use Rattle.lines.specs.Words.{Words, stop, word, begun, words, put_back}
use Rattle.lines.specs.Laws.{holds, Unbroken, LinesJoin, WordsRebuild}
use Rattle.lines.specs.Parting.{front, from_front, parted}

-- a byte in front of the lines stands in front of the text
ended_front : (b : ℕ) (ls : List (List ℕ)) → (ended (in_front b ls) ≡ b ∷ ended ls) ⊎ (ls ≡ [])
ended_front b [] = inr refl
ended_front b (l ∷ ls) = inl refl

-- a text that is not empty has a line
some_line : (b : ℕ) (bs : List ℕ) → lines (b ∷ bs) ≡ [] → ⊥
some_line b bs e = at (eqb b 10) (lines bs) e
  where
    at : (t : Bool) (ls : List (List ℕ)) → cond t ([] ∷ ls) (in_front b ls) ≡ [] → ⊥
    at true ls e = let z : ◌≡◌ {A = ℕ} 0 1 = cc in omega arith
    at false [] e = let z : ◌≡◌ {A = ℕ} 0 1 = cc in omega arith
    at false (l ∷ ls) e = let z : ◌≡◌ {A = ℕ} 0 1 = cc in omega arith

cond_front : (t : Bool) (b : ℕ) (xs ys : List ℕ) → b ∷ cond t xs ys ≡ cond t (b ∷ xs) (b ∷ ys)
cond_front true b xs ys = refl
cond_front false b xs ys = refl

join : (text : List ℕ) → ended (lines text) ≡ cond (lacks_last text) (text ++ 10 ∷ []) text
join [] = refl
join (b ∷ []) = at (eqb b 10) refl
  where
    at : (t : Bool) → eqb b 10 ≡ t → ended (cond t ([] ∷ []) ((b ∷ []) ∷ [])) ≡ cond (not t) (b ∷ 10 ∷ []) (b ∷ [])
    at true e = ap (λ x. x ∷ []) (sym (eqb-true b 10 e))
    at false e = refl
join (b ∷ c ∷ bs) = at (eqb b 10) refl ∙ ap (λ xs. b ∷ xs) (join (c ∷ bs)) ∙ cond_front (lacks_last (c ∷ bs)) b ((c ∷ bs) ++ 10 ∷ []) (c ∷ bs)
  where
    at : (t : Bool) → eqb b 10 ≡ t → ended (cond t ([] ∷ lines (c ∷ bs)) (in_front b (lines (c ∷ bs)))) ≡ b ∷ ended (lines (c ∷ bs))
    at true e = ap (λ x. x ∷ ended (lines (c ∷ bs))) (sym (eqb-true b 10 e))
    at false e = elim (ended_front b (lines (c ∷ bs))) [ inl h ↦ h | inr h ↦ absurd (some_line c bs h) ]

unbroken : (text : List ℕ) → Unbroken (lines text)
unbroken [] = tt
unbroken (b ∷ bs) = at (eqb b 10) refl (lines bs) (unbroken bs)
  where
    at : (t : Bool) → eqb b 10 ≡ t → (ls : List (List ℕ)) → Unbroken ls → Unbroken (cond t ([] ∷ ls) (in_front b ls))
    at true e ls h = (refl, h)
    at false e [] h = (or_from (eqb b 10) false e refl, tt)
    at false e (l ∷ ls) h = (or_from (eqb b 10) (holds 10 l) e h.0, h.1)

pub lines_join : LinesJoin
lines_join text = (join text, unbroken text)

-- a space before words that stand behind it
pad : (c : ℕ) (w : Words) → c < front w → put_back c w ≡ 32 ∷ put_back (c + 1) w
pad c (stop d) h = ap (λ n. replicate n 32) (let e : d - c ≡ suc (d - (c + 1)) = omega arith in e)
pad c (word d bs more) h = ap (λ n. replicate n 32 ++ (bs ++ put_back (d + length bs) more)) (let e : d - c ≡ suc (d - (c + 1)) = omega arith in e)

-- a byte, no space, before the words behind it
put_begun : (c b : ℕ) (w : Words) → c + 1 ≤ front w → put_back c (begun c b w) ≡ b ∷ put_back (c + 1) w
put_begun c b (stop d) h =
    let z : c - c ≡ 0 = omega arith in
    rw z refl
put_begun c b (word d bs more) h = at (eqb d (c + 1)) refl
  where
    at : (t : Bool) → eqb d (c + 1) ≡ t → put_back c (cond t (word c (b ∷ bs) more) (word c (b ∷ []) (word d bs more))) ≡ b ∷ put_back (c + 1) (word d bs more)
    at true e =
        let same : d ≡ c + 1 = eqb-true d (c + 1) e in
        let here : c - c ≡ 0 = omega arith in
        let next : d - (c + 1) ≡ 0 = omega arith in
        let behind : c + suc (length bs) ≡ d + length bs = omega arith in
        rw (here, next, behind)
    at false e = let z : c - c ≡ 0 = omega arith in rw z refl

back : (c : ℕ) (line : List ℕ) → put_back c (words c line) ≡ line
back c [] = let z : c - c ≡ 0 = omega arith in ap (λ n. replicate n 32) z
back c (b ∷ bs) = at (eqb b 32) refl (back (c + 1) bs)
  where
    at : (t : Bool) → eqb b 32 ≡ t → put_back (c + 1) (words (c + 1) bs) ≡ bs → put_back c (cond t (words (c + 1) bs) (begun c b (words (c + 1) bs))) ≡ b ∷ bs
    at true e more = pad c (words (c + 1) bs) (omega (arith, from_front (c + 1) bs)) ∙ ap (λ l. 32 ∷ l) more ∙ ap (λ x. x ∷ bs) (sym (eqb-true b 32 e))
    at false e more = put_begun c b (words (c + 1) bs) (from_front (c + 1) bs) ∙ ap (λ l. b ∷ l) more

pub words_rebuild : WordsRebuild
words_rebuild line = (back 1 line, parted 1 line)
