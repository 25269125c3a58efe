-- The step of each cut.
use Rattle.std.proofs.Common.{◌≡◌, ℕ, suc, ◌+◌, ◌<◌, Bool, true, false, cond, eqb, List, [], ◌∷◌, length, take, drop, sym, refl, ap, ◌∙◌, add-zero, add-one, arith}
use Rattle.std.proofs.lemmas.List.{drop-drop}
use Rattle.std.proofs.lemmas.Bool.{eq-eqb, ne_eqb}
use Rattle.lines.specs.Counts.{before, leads}
use Rattle.lines.specs.Lines.{in_front, lines}
use Rattle.lines.specs.Parting.{front, from_front}
use Rattle.lines.specs.Words.{Words, stop, word, begun, words}

-- the first byte of a list is b, or another
module _ (b x : ℕ) (xs : List ℕ) where
  before_here : eqb x b ≡ true → before b (x ∷ xs) ≡ 0
  before_here e = rw e

  before_past : eqb x b ≡ false → before b (x ∷ xs) ≡ suc (before b xs)
  before_past e = rw e (omega arith)

  leads_here : eqb x b ≡ false → leads b (x ∷ xs) ≡ 0
  leads_here e = rw e

  leads_past : eqb x b ≡ true → leads b (x ∷ xs) ≡ suc (leads b xs)
  leads_past e = rw e (omega arith)

-- a text that is not empty: its first line, and the lines behind the LF that ends it
line_cut : (x : ℕ) (xs : List ℕ) → lines (x ∷ xs) ≡ take (before 10 (x ∷ xs)) (x ∷ xs) ∷ lines (drop (suc (before 10 (x ∷ xs))) (x ∷ xs))
line_cut x [] = at (eqb x 10) refl
  where
    at : (t : Bool) → eqb x 10 ≡ t → cond t ([] ∷ []) ((x ∷ []) ∷ []) ≡ take (before 10 (x ∷ [])) (x ∷ []) ∷ lines (drop (suc (before 10 (x ∷ []))) (x ∷ []))
    at true e = rw (before_here 10 x [] e)
    at false e = rw (before_past 10 x [] e)
line_cut x (y ∷ ys) = at (eqb x 10) refl (line_cut y ys)
  where
    at : (t : Bool) → eqb x 10 ≡ t → lines (y ∷ ys) ≡ take (before 10 (y ∷ ys)) (y ∷ ys) ∷ lines (drop (suc (before 10 (y ∷ ys))) (y ∷ ys)) → cond t ([] ∷ lines (y ∷ ys)) (in_front x (lines (y ∷ ys))) ≡ take (before 10 (x ∷ y ∷ ys)) (x ∷ y ∷ ys) ∷ lines (drop (suc (before 10 (x ∷ y ∷ ys))) (x ∷ y ∷ ys))
    at true e h = rw (before_here 10 x (y ∷ ys) e)
    at false e h = rw (before_past 10 x (y ∷ ys) e) (ap (in_front x) h)

pub first_line : (text : List ℕ) {n : ℕ} {line rest behind : List ℕ} → 0 < length text → n ≡ before 10 text → line ≡ take n text → rest ≡ drop n text → behind ≡ drop 1 rest → lines text ≡ line ∷ lines behind
first_line [] h en el er eb = absurd (omega arith)
first_line (x ∷ xs) h en el er eb =
    line_cut x xs ∙
    ap (λ k. take k (x ∷ xs) ∷ lines (drop (suc k) (x ∷ xs))) (sym en) ∙
    rw (el, eb, er, drop-drop 1 _ (x ∷ xs), add-one)

-- spaces in front only move the column
pub past_gap : (c : ℕ) (xs : List ℕ) → words c xs ≡ words (c + leads 32 xs) (drop (leads 32 xs) xs)
past_gap c [] = ap stop (sym (add-zero c))
past_gap c (x ∷ xs) = at (eqb x 32) refl (past_gap (c + 1) xs)
  where
    at : (t : Bool) → eqb x 32 ≡ t → words (c + 1) xs ≡ words (c + 1 + leads 32 xs) (drop (leads 32 xs) xs) → words c (x ∷ xs) ≡ words (c + leads 32 (x ∷ xs)) (drop (leads 32 (x ∷ xs)) (x ∷ xs))
    at true e more = rw (leads_past 32 x xs e, e) (more ∙ ap (λ d. words d (drop (leads 32 xs) xs)) (omega arith))
    at false e more = let z : c + 0 ≡ c = add-zero c in rw (leads_here 32 x xs e, z) refl

gap_all : (xs : List ℕ) → leads 32 (drop (leads 32 xs) xs) ≡ 0
gap_all [] = refl
gap_all (x ∷ xs) = at (eqb x 32) refl (gap_all xs)
  where
    at : (t : Bool) → eqb x 32 ≡ t → leads 32 (drop (leads 32 xs) xs) ≡ 0 → leads 32 (drop (leads 32 (x ∷ xs)) (x ∷ xs)) ≡ 0
    at true e h = rw (leads_past 32 x xs e) h
    at false e h = rw (leads_here 32 x xs e) (leads_here 32 x xs e)

-- a byte before words that do not touch it is a word of its own
alone : (c x : ℕ) (w : Words) → c + 1 < front w → begun c x w ≡ word c (x ∷ []) w
alone c x (stop d) h = refl
alone c x (word d bs more) h = ap (λ t. cond t (word c (x ∷ bs) more) (word c (x ∷ []) (word d bs more))) (ne_eqb d (c + 1) (λ e. omega arith))

-- what the first n bytes are, where no space stands in front
pub record First (c : ℕ) (ys : List ℕ) (n : ℕ) : Type 0 where
  pub none : n ≡ 0 → words c ys ≡ stop (c + n)
  pub some : 0 < n → words c ys ≡ word c (take n ys) (words (c + n) (drop n ys))

-- a byte y, no space, before ys: it lengthens the first word of ys, or is a word of its own
step : (c y : ℕ) (ys : List ℕ) → eqb y 32 ≡ false → (leads 32 ys ≡ 0 → First (c + 1) ys (before 32 ys)) → words c (y ∷ ys) ≡ word c (y ∷ take (before 32 ys) ys) (words (c + suc (before 32 ys)) (drop (before 32 ys) ys))
step c y [] e more = ap (λ t. cond t (stop (c + 1)) (word c (y ∷ []) (stop (c + 1)))) e
step c y (z ∷ zs) e more = ap (λ t. cond t (words (c + 1) (z ∷ zs)) (begun c y (words (c + 1) (z ∷ zs)))) e ∙ at (eqb z 32) refl
  where
    at : (t : Bool) → eqb z 32 ≡ t → begun c y (words (c + 1) (z ∷ zs)) ≡ word c (y ∷ take (before 32 (z ∷ zs)) (z ∷ zs)) (words (c + suc (before 32 (z ∷ zs))) (drop (before 32 (z ∷ zs)) (z ∷ zs)))
    at true f =
        let moved : words (c + 1) (z ∷ zs) ≡ words (c + 1 + 1) zs = ap (λ t. cond t (words (c + 1 + 1) zs) (begun (c + 1) z (words (c + 1 + 1) zs))) f in
        let far : c + 1 < front (words (c + 1) (z ∷ zs)) = omega (arith, ap front moved, from_front (c + 1 + 1) zs) in
        let none : before 32 (z ∷ zs) ≡ 0 = before_here 32 z zs f in
        alone c y (words (c + 1) (z ∷ zs)) far ∙ ap (λ k. word c (y ∷ take k (z ∷ zs)) (words (c + suc k) (drop k (z ∷ zs)))) (sym none)
    at false f =
        let open-front : leads 32 (z ∷ zs) ≡ 0 = leads_here 32 z zs f in
        let long : before 32 (z ∷ zs) ≡ suc (before 32 zs) = before_past 32 z zs f in
        ap (begun c y) ((more open-front).some (omega arith)) ∙
        ap (λ t. cond t (word c (y ∷ take (before 32 (z ∷ zs)) (z ∷ zs)) (words (c + 1 + before 32 (z ∷ zs)) (drop (before 32 (z ∷ zs)) (z ∷ zs)))) (word c (y ∷ []) (word (c + 1) (take (before 32 (z ∷ zs)) (z ∷ zs)) (words (c + 1 + before 32 (z ∷ zs)) (drop (before 32 (z ∷ zs)) (z ∷ zs)))))) (eq-eqb (c + 1) (c + 1) refl) ∙
        ap (λ d. word c (y ∷ take (before 32 (z ∷ zs)) (z ∷ zs)) (words d (drop (before 32 (z ∷ zs)) (z ∷ zs)))) (omega arith)

first : (c : ℕ) (ys : List ℕ) → leads 32 ys ≡ 0 → First c ys (before 32 ys)
first c [] h = record { none = λ _. ap stop (sym (add-zero c)); some = λ lt. absurd (omega arith) }
first c (y ∷ ys) h = at (eqb y 32) refl (first (c + 1) ys)
  where
    at : (t : Bool) → eqb y 32 ≡ t → (leads 32 ys ≡ 0 → First (c + 1) ys (before 32 ys)) → First c (y ∷ ys) (before 32 (y ∷ ys))
    at true e more = absurd (omega (arith, leads_past 32 y ys e))
    at false e more =
        let long : before 32 (y ∷ ys) ≡ suc (before 32 ys) = before_past 32 y ys e in
        record {
          none = λ z. absurd (omega arith);
          some = λ _. step c y ys e more ∙ ap (λ k. word c (take k (y ∷ ys)) (words (c + k) (drop k (y ∷ ys)))) (sym long);
        }

-- the next word of xs: past a gap of g bytes stands ys, whose first n bytes are the word, and behind it stands zs
module _ (c : ℕ) (xs : List ℕ) {g n : ℕ} {ys bs zs : List ℕ} (eg : g ≡ leads 32 xs) (ey : ys ≡ drop g xs) (en : n ≡ before 32 ys) (eb : bs ≡ take n ys) (ez : zs ≡ drop n ys) where
  next : (words c xs ≡ words (c + g) ys) × First (c + g) ys n
  next = rw (en, ey, eg) (past_gap c xs, first _ _ (gap_all xs))

  pub next_none : n ≡ 0 → words c xs ≡ stop (c + g + n)
  next_none z = next.0 ∙ next.1.none z

  pub next_some : 0 < n → words c xs ≡ word (c + g) bs (words (c + g + n) zs)
  next_some lt = next.0 ∙ next.1.some lt ∙ rw (eb, ez)

-- behind the last word nothing is left
pub next_all : (xs : List ℕ) → leads 32 xs ≡ 0 → before 32 xs ≡ 0 → length xs ≡ 0
next_all [] l b = refl
next_all (x ∷ xs) l b = at (eqb x 32) refl
  where
    at : (t : Bool) → eqb x 32 ≡ t → length (x ∷ xs) ≡ 0
    at true e = absurd (omega (arith, leads_past 32 x xs e))
    at false e = absurd (omega (arith, before_past 32 x xs e))

pub nothing_left : (xs : List ℕ) {g n : ℕ} {ys zs : List ℕ} → g ≡ leads 32 xs → ys ≡ drop g xs → n ≡ before 32 ys → zs ≡ drop n ys → n ≡ 0 → length zs ≡ 0
nothing_left xs eg ey en ez z = rw (ez, z, ey, eg) (next_all (drop (leads 32 xs) xs) (gap_all xs) (rw (ey, eg) at (sym en ∙ z)))
