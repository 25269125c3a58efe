-- A line fits no form exactly where it stops fitting.
use Rattle.std.proofs.Common.{◌≡◌, ℕ, Bool, true, false, cond, eqb, ◌⊎◌, List, [], ◌∷◌, ◌++◌, get_or, Some, None, Ok, Err, codes, Option, sym, refl, ap, ◌∙◌, subst, inl, inr, arith}
use Rattle.lines.specs.Words.{Words, stop, word}
use Rattle.numerals.specs.Numerals.{numeral}
use Rattle.relation_texts.specs.Forms.{OfLine, then, no_form, misfit, plain, counted, number_first, last, two_numbers, header_line, edge_line, letter, said_by, said}
use Rattle.relation_texts.specs.Misfits.{IsNumber, Fits, blank, comment, header, edge, Begins, StopsAt, at_token, at_end, further, MisfitsExactly}
use Rattle.relation_texts.specs.Written.{LineWritten}
use Rattle.relation_texts.specs.Written as written
use Rattle.relation_texts.specs.declared.forms.Count.{Count}
use Rattle.relation_texts.specs.declared.forms.Said.{Said}
use Rattle.relation_texts.specs.declared.forms.Said.TheVariants.{Nothing, Header, Edge}
use Rattle.std.proofs.lemmas.Slice.Eq.{bytes_eq-Decides}
use Rattle.std.proofs.lemmas.List.{append_assoc, append-nil}
use Rattle.std.proofs.lemmas.Bool.{eqb-false}
use Rattle.std.specs.Str.{bytes_eq}
use Rattle.relation_texts.proofs.Columns.{formal_by}
use Rattle.relation_texts.proofs.WrittenLines.{letter_at, forms_exactly}

-- keywords are apart
c_not_p : codes "p" ≡ codes "c" → ⊥
c_not_p e = let z : ◌≡◌ {A = ℕ} 112 99 = ap (λ l. get_or l 0 0) e in omega arith

c_not_e : codes "e" ≡ codes "c" → ⊥
c_not_e e = let z : ◌≡◌ {A = ℕ} 101 99 = ap (λ l. get_or l 0 0) e in omega arith

p_not_e : codes "e" ≡ codes "p" → ⊥
p_not_e e = let z : ◌≡◌ {A = ℕ} 101 112 = ap (λ l. get_or l 0 0) e in omega arith

some_number : IsNumber (codes "0")
some_number = (0, refl)

-- what stands behind the keywords: two numbers and no more
record TwoBehind (pre : List (List ℕ)) : Type 0 where
  short : Fits pre → ⊥
  first : (n : List ℕ) → IsNumber n → Begins (pre ++ n ∷ [])
  first_is : (n : List ℕ) → Begins (pre ++ n ∷ []) → IsNumber n
  one_short : (n : List ℕ) → Fits (pre ++ n ∷ []) → ⊥
  second : (n m : List ℕ) → IsNumber n → IsNumber m → Begins ((pre ++ n ∷ []) ++ m ∷ [])
  second_is : (n m : List ℕ) → Begins ((pre ++ n ∷ []) ++ m ∷ []) → IsNumber m
  no_third : (n m t : List ℕ) → Begins (((pre ++ n ∷ []) ++ m ∷ []) ++ t ∷ []) → ⊥

behind_e : TwoBehind (codes "e" ∷ [])
behind_e = record {
  short = λ f. short_e f;
  first = λ n h. (codes "0" ∷ [], edge refl h some_number);
  first_is = λ n b. first_e b.1;
  one_short = λ n f. one_e f;
  second = λ n m h k. ([], edge refl h k);
  second_is = λ n m b. second_e b.1;
  no_third = λ n m t b. third_e b.1;
}
  where
    short_e : Fits (codes "e" ∷ []) → ⊥
    short_e (comment e) = c_not_e e

    one_e : {n : List ℕ} → Fits (codes "e" ∷ n ∷ []) → ⊥
    one_e (comment e) = c_not_e e

    first_e : {n : List ℕ} {more : List (List ℕ)} → Fits (codes "e" ∷ n ∷ more) → IsNumber n
    first_e (comment e) = absurd (c_not_e e)
    first_e (header e f n m) = absurd (p_not_e e)
    first_e (edge e n m) = n

    second_e : {n m : List ℕ} {more : List (List ℕ)} → Fits (codes "e" ∷ n ∷ m ∷ more) → IsNumber m
    second_e (comment e) = absurd (c_not_e e)
    second_e (header e f n m) = absurd (p_not_e e)
    second_e (edge e n m) = m

    third_e : {n m t : List ℕ} {more : List (List ℕ)} → Fits (codes "e" ∷ n ∷ m ∷ t ∷ more) → ⊥
    third_e (comment e) = c_not_e e
    third_e (header e f n m) = p_not_e e

behind_p : TwoBehind (codes "p" ∷ codes "edge" ∷ [])
behind_p = record {
  short = λ f. short_p f;
  first = λ n h. (codes "0" ∷ [], header refl refl h some_number);
  first_is = λ n b. first_p b.1;
  one_short = λ n f. one_p f;
  second = λ n m h k. ([], header refl refl h k);
  second_is = λ n m b. second_p b.1;
  no_third = λ n m t b. third_p b.1;
}
  where
    short_p : Fits (codes "p" ∷ codes "edge" ∷ []) → ⊥
    short_p (comment e) = c_not_p e

    one_p : {n : List ℕ} → Fits (codes "p" ∷ codes "edge" ∷ n ∷ []) → ⊥
    one_p (comment e) = c_not_p e
    one_p (edge e n m) = p_not_e (sym e)

    first_p : {n : List ℕ} {more : List (List ℕ)} → Fits (codes "p" ∷ codes "edge" ∷ n ∷ more) → IsNumber n
    first_p (comment e) = absurd (c_not_p e)
    first_p (header e f n m) = n
    first_p (edge e n m) = absurd (p_not_e (sym e))

    second_p : {n m : List ℕ} {more : List (List ℕ)} → Fits (codes "p" ∷ codes "edge" ∷ n ∷ m ∷ more) → IsNumber m
    second_p (comment e) = absurd (c_not_p e)
    second_p (header e f n m) = m

    third_p : {n m t : List ℕ} {more : List (List ℕ)} → Fits (codes "p" ∷ codes "edge" ∷ n ∷ m ∷ t ∷ more) → ⊥
    third_p (comment e) = c_not_p e

-- a column by the misfit at it
same_column : {A : Type 0} (c d : ℕ) → ◌≡◌ {A = OfLine A} (misfit d) (misfit c) → d ≡ c
same_column c d e = let f : no_form d ≡ no_form c = cc in ap (λ x. x.column) f

no_number : (bs : List ℕ) → plain (numeral bs) ≡ None → IsNumber bs → ⊥
no_number bs e (v, h) = let z : ◌≡◌ {A = ℕ} 0 1 = cc in omega arith

module _ (pre : List (List ℕ)) (two : TwoBehind pre) where
  end_stops : (n m : List ℕ) (x : Count × Count) (w : Words) (c : ℕ) → last x w ≡ misfit c → StopsAt ((pre ++ n ∷ []) ++ m ∷ []) w c
  end_stops n m x (stop d) c h = let z : ◌≡◌ {A = ℕ} 0 1 = cc in absurd (omega arith)
  end_stops n m x (word d bs w) c h = subst (StopsAt ((pre ++ n ∷ []) ++ m ∷ []) (word d bs w)) (same_column c d h) (at_token (two.no_third n m bs))

  second_stops : (n : List ℕ) (x : Count) (d : ℕ) (m : List ℕ) (o : Option ℕ) (w : Words) (c : ℕ) → IsNumber n → plain (numeral m) ≡ o → then (counted d o w) (λ y. last {A = Count × Count} (x, y.0) y.1) ≡ misfit c → StopsAt (pre ++ n ∷ []) (word d m w) c
  second_stops n x d m None w c i e h = subst (StopsAt (pre ++ n ∷ []) (word d m w)) (same_column c d h) (at_token (λ b. no_number m e (two.second_is n m b)))
  second_stops n x d m (Some v) w c i e h = further (two.second n m i (v, e)) (end_stops n m (x, record { column = d; value = v }) w c h)

  first_stops : (d : ℕ) (n : List ℕ) (o : Option ℕ) (w : Words) (c : ℕ) → plain (numeral n) ≡ o → then (counted d o w) (λ x. then (number_first x.1) (λ y. last {A = Count × Count} (x.0, y.0) y.1)) ≡ misfit c → StopsAt pre (word d n w) c
  first_stops d n None w c e h = subst (StopsAt pre (word d n w)) (same_column c d h) (at_token (λ b. no_number n e (two.first_is n b)))
  first_stops d n (Some v) (stop f) c e h = further (two.first n (v, e)) (subst (StopsAt (pre ++ n ∷ []) (stop f)) (same_column c f h) (at_end (two.one_short n)))
  first_stops d n (Some v) (word f m w) c e h = further (two.first n (v, e)) (second_stops n (record { column = d; value = v }) f m (plain (numeral m)) w c (v, e) refl h)

  two_stops : (w : Words) (c : ℕ) → two_numbers w ≡ misfit c → StopsAt pre w c
  two_stops (stop d) c h = subst (StopsAt pre (stop d)) (same_column c d h) (at_end two.short)
  two_stops (word d n w) c h = first_stops d n (plain (numeral n)) w c refl h

-- the misfit of two numbers is that of their line
under : {A B : Type 0} (r : OfLine A) (next : A → B) (c : ℕ) → then r (λ x. Ok (next x)) ≡ misfit c → r ≡ misfit c
under (Ok x) next c h = let z : ◌≡◌ {A = ℕ} 0 1 = cc in absurd (omega arith)
under (Err f) next c h = ap Err (let e : f ≡ no_form c = cc in e)

second_token : {bs : List ℕ} {more : List (List ℕ)} → Fits (codes "p" ∷ bs ∷ more) → bs ≡ codes "edge"
second_token (comment e) = absurd (c_not_p e)
second_token (header e f n m) = f
second_token (edge e n m) = absurd (p_not_e (sym e))

only_p : Fits (codes "p" ∷ []) → ⊥
only_p (comment e) = c_not_p e

header_stops : (w : Words) (d c : ℕ) → header_line d w ≡ misfit c → StopsAt (codes "p" ∷ []) w c
header_stops (stop e) d c h = subst (StopsAt (codes "p" ∷ []) (stop e)) (same_column c e h) (at_end only_p)
header_stops (word e bs w) d c h = at (bytes_eq bs (codes "edge")) refl h
  where
    at : (t : Bool) → bytes_eq bs (codes "edge") ≡ t → cond t (then (two_numbers w) (λ n. Ok (Header d n.0 n.1))) (misfit e) ≡ misfit c → StopsAt (codes "p" ∷ []) (word e bs w) c
    at true s h =
        let same_word : codes "edge" ≡ bs = sym ((bytes_eq-Decides bs (codes "edge")).0 s) in
        subst (λ cs. StopsAt (codes "p" ∷ []) (word e cs w) c) same_word (further (codes "0" ∷ codes "0" ∷ [], header refl refl some_number some_number) (two_stops (codes "p" ∷ codes "edge" ∷ []) behind_p w c (under (two_numbers w) (λ n. Header d n.0 n.1) c h)))
    at false s h = subst (StopsAt (codes "p" ∷ []) (word e bs w)) (same_column c e h) (at_token (λ b. let z : true ≡ false = sym ((bytes_eq-Decides bs (codes "edge")).1 (second_token b.1)) ∙ s in let y : ◌≡◌ {A = ℕ} 0 1 = cc in omega arith))

first_token : {bs : List ℕ} {more : List (List ℕ)} → Fits (bs ∷ more) → (bs ≡ codes "c") ⊎ ((bs ≡ codes "p") ⊎ (bs ≡ codes "e"))
first_token (comment e) = inl e
first_token (header e f n m) = inr (inl e)
first_token (edge e n m) = inr (inr e)

said_stops : (w : Words) (c : ℕ) → said w ≡ misfit c → StopsAt [] w c
said_stops (stop d) c h = let z : ◌≡◌ {A = ℕ} 0 1 = cc in absurd (omega arith)
said_stops (word d bs w) c h = at (letter bs) refl h
  where
    -- no line begins with a word that is none of the keywords
    other : (b : ℕ) → letter bs ≡ Some b → eqb b 99 ≡ false → eqb b 112 ≡ false → eqb b 101 ≡ false → Begins (bs ∷ []) → ⊥
    other b l e f g s = elim (first_token s.1) [
      | inl i ↦ eqb-false b 99 e (let k : Some b ≡ Some 99 = sym l ∙ ap letter i in cc)
      | inr (inl i) ↦ eqb-false b 112 f (let k : Some b ≡ Some 112 = sym l ∙ ap letter i in cc)
      | inr (inr i) ↦ eqb-false b 101 g (let k : Some b ≡ Some 101 = sym l ∙ ap letter i in cc)
    ]

    no_letter : letter bs ≡ None → Begins (bs ∷ []) → ⊥
    no_letter l s = elim (first_token s.1) [
      | inl i ↦ let k : ◌≡◌ {A = Option ℕ} None (Some 99) = sym l ∙ ap letter i in let z : ◌≡◌ {A = ℕ} 0 1 = cc in omega arith
      | inr (inl i) ↦ let k : ◌≡◌ {A = Option ℕ} None (Some 112) = sym l ∙ ap letter i in let z : ◌≡◌ {A = ℕ} 0 1 = cc in omega arith
      | inr (inr i) ↦ let k : ◌≡◌ {A = Option ℕ} None (Some 101) = sym l ∙ ap letter i in let z : ◌≡◌ {A = ℕ} 0 1 = cc in omega arith
    ]

    by_e : (b : ℕ) → letter bs ≡ Some b → eqb b 99 ≡ false → eqb b 112 ≡ false → (t : Bool) → eqb b 101 ≡ t → cond t (edge_line d w) (misfit d) ≡ misfit c → StopsAt [] (word d bs w) c
    by_e b l e f true g h = subst (λ cs. StopsAt [] (word d cs w) c) (letter_at bs b 101 l g) (further (codes "0" ∷ codes "0" ∷ [], edge refl some_number some_number) (two_stops (codes "e" ∷ []) behind_e w c (under (two_numbers w) (λ n. Edge d n.0 n.1) c h)))
    by_e b l e f false g h = subst (StopsAt [] (word d bs w)) (same_column c d h) (at_token (other b l e f g))

    by_p : (b : ℕ) → letter bs ≡ Some b → eqb b 99 ≡ false → (t : Bool) → eqb b 112 ≡ t → cond t (header_line d w) (cond (eqb b 101) (edge_line d w) (misfit d)) ≡ misfit c → StopsAt [] (word d bs w) c
    by_p b l e true f h = subst (λ cs. StopsAt [] (word d cs w) c) (letter_at bs b 112 l f) (further (codes "edge" ∷ codes "0" ∷ codes "0" ∷ [], header refl refl some_number some_number) (header_stops w d c h))
    by_p b l e false f h = by_e b l e f (eqb b 101) refl h

    by_c : (b : ℕ) → letter bs ≡ Some b → (t : Bool) → eqb b 99 ≡ t → cond t (Ok Nothing) (cond (eqb b 112) (header_line d w) (cond (eqb b 101) (edge_line d w) (misfit d))) ≡ misfit c → StopsAt [] (word d bs w) c
    by_c b l true e h = let z : ◌≡◌ {A = ℕ} 0 1 = cc in absurd (omega arith)
    by_c b l false e h = by_p b l e (eqb b 112) refl h

    at : (o : Option ℕ) → letter bs ≡ o → said_by o d w ≡ misfit c → StopsAt [] (word d bs w) c
    at None l h = subst (StopsAt [] (word d bs w)) (same_column c d h) (at_token (no_letter l))
    at (Some b) l h = by_c b l (eqb b 99) refl h

-- a line stops fitting at one column, and then it fits no form
stops_once : {before : List (List ℕ)} {w : Words} {c d : ℕ} → StopsAt before w c → StopsAt before w d → c ≡ d
stops_once (at_token h) (at_token k) = refl
stops_once (at_token h) (further b s) = absurd (h b)
stops_once (at_end h) (at_end k) = refl
stops_once (further b s) (at_token h) = absurd (h b)
stops_once (further b s) (further k t) = stops_once s t

abbrev tokens : Words → List (List ℕ)
tokens (stop c) = []
tokens (word c bs more) = bs ∷ tokens more

stops_unfit : (before : List (List ℕ)) (w : Words) (c : ℕ) → StopsAt before w c → Fits (before ++ tokens w) → ⊥
stops_unfit before (stop c) _ (at_end h) f = h (subst Fits (append-nil before) f)
stops_unfit before (word c bs more) _ (at_token h) f = h (tokens more, subst Fits (sym (append_assoc before (bs ∷ []) (tokens more))) f)
stops_unfit before (word d bs more) c (further b s) f = stops_unfit (before ++ bs ∷ []) more c s (subst Fits (sym (append_assoc before (bs ∷ []) (tokens more))) f)

written_fits : {w : Words} {s : Said} → LineWritten w s → Fits (tokens w)
written_fits written.blank = blank
written_fits written.comment = comment refl
written_fits (written.header ns ms h k) = header refl refl (_, h) (_, k)
written_fits (written.edge ws vs h k) = edge refl (_, h) (_, k)

stops_said : (w : Words) (c : ℕ) → StopsAt [] w c → (r : OfLine Said) → said w ≡ r → said w ≡ misfit c
stops_said w c s (Ok x) e = absurd (stops_unfit [] w c s (written_fits ((forms_exactly w x).0 e)))
stops_said w c s (Err f) e =
    let here : said w ≡ misfit f.column = e ∙ ap Err (formal_by w f e) in
    here ∙ ap (λ d. misfit d) (stops_once (said_stops w f.column here) s)

pub misfits_exactly : MisfitsExactly
misfits_exactly w c = (said_stops w c, λ s. stops_said w c s (said w) refl)
