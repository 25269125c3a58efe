-- A line says something exactly when it is so written.
use Rattle.std.proofs.Common.{◌≡◌, ℕ, Bool, true, false, cond, eqb, List, [], ◌∷◌, Some, None, Ok, Err, codes, Option, sym, refl, ap, ◌∙◌, subst, arith}
use Rattle.lines.specs.Words.{Words, stop, word}
use Rattle.numerals.specs.Numerals.{numeral}
use Rattle.relation_texts.specs.Forms.{OfLine, then, misfit, plain, counted, number_first, last, two_numbers, header_line, edge_line, letter, said_by, said}
use Rattle.relation_texts.specs.Written.{Writes, LineWritten, blank, comment, header, edge, FormsExactly}
use Rattle.relation_texts.specs.declared.forms.Count.{Count}
use Rattle.relation_texts.specs.declared.forms.Said.{Said}
use Rattle.relation_texts.specs.declared.forms.Said.TheVariants.{Nothing, Header, Edge}
use Rattle.std.proofs.lemmas.Slice.Eq.{bytes_eq-Decides}
use Rattle.std.proofs.lemmas.Bool.{eqb-true}
use Rattle.std.specs.Str.{bytes_eq}

-- two numbers that are written so are read so
two_read : (n m : Count) (ns ms : List ℕ) (e : ℕ) → Writes ns n → Writes ms m → two_numbers (word n.column ns (word m.column ms (stop e))) ≡ Ok (n, m)
two_read n m ns ms e h k = rw (h, k)

written_read : {w : Words} {s : Said} → LineWritten w s → said w ≡ Ok s
written_read blank = refl
written_read comment = refl
written_read (header {c} {d} {e} {places} {pairs} ns ms h k) = ap (λ r. then r (λ n. Ok (Header c n.0 n.1))) (two_read places pairs ns ms e h k)
written_read (edge {c} {d} {left} {right} ws vs h k) = ap (λ r. then r (λ n. Ok (Edge c n.0 n.1))) (two_read left right ws vs d h k)

-- the words of two numbers
data TwoWritten : Words → Count → Count → Type 0 where
  two : {e : ℕ} {n m : Count} (ns ms : List ℕ) → Writes ns n → Writes ms m → TwoWritten (word n.column ns (word m.column ms (stop e))) n m

end_written : (c d : ℕ) (v u : ℕ) (ns ms : List ℕ) (w : Words) (n m : Count) → plain (numeral ns) ≡ Some v → plain (numeral ms) ≡ Some u → last {A = Count × Count} (record { column = c; value = v }, record { column = d; value = u }) w ≡ Ok (n, m) → TwoWritten (word c ns (word d ms w)) n m
end_written c d v u ns ms (stop e) n m h k r =
    let both : ◌≡◌ {A = Count × Count} (record { column = c; value = v }, record { column = d; value = u }) (n, m) = cc in
    let first : record { column = c; value = v } ≡ n = ap (λ p. p.0) both in
    let second : record { column = d; value = u } ≡ m = ap (λ p. p.1) both in
    subst (λ x. TwoWritten (word c ns (word d ms (stop e))) x m) first (subst (TwoWritten (word c ns (word d ms (stop e))) (record { column = c; value = v })) second (two ns ms h k))
end_written c d v u ns ms (word e bs more) n m h k r = let z : ◌≡◌ {A = ℕ} 0 1 = cc in absurd (omega arith)

second_written : (c v : ℕ) (ns : List ℕ) (d : ℕ) (ms : List ℕ) (o : Option ℕ) (w : Words) (n m : Count) → plain (numeral ns) ≡ Some v → plain (numeral ms) ≡ o → then (counted d o w) (λ x. last {A = Count × Count} (record { column = c; value = v }, x.0) x.1) ≡ Ok (n, m) → TwoWritten (word c ns (word d ms w)) n m
second_written c v ns d ms None w n m h k r = let z : ◌≡◌ {A = ℕ} 0 1 = cc in absurd (omega arith)
second_written c v ns d ms (Some u) w n m h k r = end_written c d v u ns ms w n m h k r

first_written : (c : ℕ) (ns : List ℕ) (o : Option ℕ) (w : Words) (n m : Count) → plain (numeral ns) ≡ o → then (counted c o w) (λ x. then (number_first x.1) (λ y. last {A = Count × Count} (x.0, y.0) y.1)) ≡ Ok (n, m) → TwoWritten (word c ns w) n m
first_written c ns None w n m h r = let z : ◌≡◌ {A = ℕ} 0 1 = cc in absurd (omega arith)
first_written c ns (Some v) (stop d) n m h r = let z : ◌≡◌ {A = ℕ} 0 1 = cc in absurd (omega arith)
first_written c ns (Some v) (word d ms w) n m h r = second_written c v ns d ms (plain (numeral ms)) w n m h refl r

two_written : (w : Words) (n m : Count) → two_numbers w ≡ Ok (n, m) → TwoWritten w n m
two_written (stop c) n m r = let z : ◌≡◌ {A = ℕ} 0 1 = cc in absurd (omega arith)
two_written (word c ns w) n m r = first_written c ns (plain (numeral ns)) w n m refl r

-- a header and an edge, by the two numbers
header_of : {w : Words} {n m : Count} (c d : ℕ) → TwoWritten w n m → LineWritten (word c (codes "p") (word d (codes "edge") w)) (Header c n m)
header_of c d (two ns ms h k) = header ns ms h k

edge_of : {w : Words} {n m : Count} (c : ℕ) → TwoWritten w n m → LineWritten (word c (codes "e") w) (Edge c n m)
edge_of c (two ns ms h k) = edge ns ms h k

header_numbers : (c d : ℕ) (w : Words) (s : Said) (r : OfLine (Count × Count)) → two_numbers w ≡ r → then r (λ n. Ok (Header c n.0 n.1)) ≡ Ok s → LineWritten (word c (codes "p") (word d (codes "edge") w)) s
header_numbers c d w s (Err f) e h = let z : ◌≡◌ {A = ℕ} 0 1 = cc in absurd (omega arith)
header_numbers c d w s (Ok n) e h = let Said-s : Header c n.0 n.1 ≡ s = cc in subst (LineWritten (word c (codes "p") (word d (codes "edge") w))) Said-s (header_of c d (two_written w n.0 n.1 e))

edge_numbers : (c : ℕ) (w : Words) (s : Said) (r : OfLine (Count × Count)) → two_numbers w ≡ r → then r (λ n. Ok (Edge c n.0 n.1)) ≡ Ok s → LineWritten (word c (codes "e") w) s
edge_numbers c w s (Err f) e h = let z : ◌≡◌ {A = ℕ} 0 1 = cc in absurd (omega arith)
edge_numbers c w s (Ok n) e h = let Said-s : Edge c n.0 n.1 ≡ s = cc in subst (LineWritten (word c (codes "e") w)) Said-s (edge_of c (two_written w n.0 n.1 e))

header_written : (c : ℕ) (w : Words) (s : Said) → header_line c w ≡ Ok s → LineWritten (word c (codes "p") w) s
header_written c (stop d) s h = let z : ◌≡◌ {A = ℕ} 0 1 = cc in absurd (omega arith)
header_written c (word d bs w) s h = at (bytes_eq bs (codes "edge")) refl h
  where
    at : (t : Bool) → bytes_eq bs (codes "edge") ≡ t → cond t (then (two_numbers w) (λ n. Ok (Header c n.0 n.1))) (misfit d) ≡ Ok s → LineWritten (word c (codes "p") (word d bs w)) s
    at true e h = subst (λ cs. LineWritten (word c (codes "p") (word d cs w)) s) (sym ((bytes_eq-Decides bs (codes "edge")).0 e)) (header_numbers c d w s (two_numbers w) refl h)
    at false e h = let z : ◌≡◌ {A = ℕ} 0 1 = cc in absurd (omega arith)

-- the byte of a word of one byte
pub letter_is : (bs : List ℕ) (b : ℕ) → letter bs ≡ Some b → b ∷ [] ≡ bs
letter_is [] b e = let z : ◌≡◌ {A = ℕ} 0 1 = cc in absurd (omega arith)
letter_is (x ∷ []) b e = let same : x ≡ b = cc in ap (λ y. y ∷ []) (sym same)
letter_is (x ∷ y ∷ bs) b e = let z : ◌≡◌ {A = ℕ} 0 1 = cc in absurd (omega arith)

-- a word whose byte is the one that a test compares it with
pub letter_at : (bs : List ℕ) (b l : ℕ) → letter bs ≡ Some b → eqb b l ≡ true → l ∷ [] ≡ bs
letter_at bs b l e f = letter_is bs l (e ∙ ap Some (eqb-true b l f))

said_written : (w : Words) (s : Said) → said w ≡ Ok s → LineWritten w s
said_written (stop c) s h = let nothing_said : Nothing ≡ s = cc in subst (LineWritten (stop c)) nothing_said blank
said_written (word c bs w) s h = at (letter bs) refl h
  where
    by_e : (b : ℕ) → letter bs ≡ Some b → (t : Bool) → eqb b 101 ≡ t → cond t (edge_line c w) (misfit c) ≡ Ok s → LineWritten (word c bs w) s
    by_e b l true e h = subst (λ cs. LineWritten (word c cs w) s) (letter_at bs b 101 l e) (edge_numbers c w s (two_numbers w) refl h)
    by_e b l false e h = let z : ◌≡◌ {A = ℕ} 0 1 = cc in absurd (omega arith)

    by_p : (b : ℕ) → letter bs ≡ Some b → (t : Bool) → eqb b 112 ≡ t → cond t (header_line c w) (cond (eqb b 101) (edge_line c w) (misfit c)) ≡ Ok s → LineWritten (word c bs w) s
    by_p b l true e h = subst (λ cs. LineWritten (word c cs w) s) (letter_at bs b 112 l e) (header_written c w s h)
    by_p b l false e h = by_e b l (eqb b 101) refl h

    by_c : (b : ℕ) → letter bs ≡ Some b → (t : Bool) → eqb b 99 ≡ t → cond t (Ok Nothing) (cond (eqb b 112) (header_line c w) (cond (eqb b 101) (edge_line c w) (misfit c))) ≡ Ok s → LineWritten (word c bs w) s
    by_c b l true e h =
        let nothing_said : Nothing ≡ s = cc in
        subst (LineWritten (word c bs w)) nothing_said (subst (λ cs. LineWritten (word c cs w) Nothing) (letter_at bs b 99 l e) comment)
    by_c b l false e h = by_p b l (eqb b 112) refl h

    at : (o : Option ℕ) → letter bs ≡ o → said_by o c w ≡ Ok s → LineWritten (word c bs w) s
    at None l h = let z : ◌≡◌ {A = ℕ} 0 1 = cc in absurd (omega arith)
    at (Some b) l h = by_c b l (eqb b 99) refl h

pub forms_exactly : FormsExactly
forms_exactly w s = (said_written w s, written_read)
