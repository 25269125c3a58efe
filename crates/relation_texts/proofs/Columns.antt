-- What is known of a line by its form alone: the fault of a misfit, and the columns of an edge.
use Rattle.std.proofs.Common.{◌≡◌, ℕ, ◌≤◌, Bool, true, false, cond, eqb, List, Some, None, Ok, Err, codes, Option, refl, subst, arith}
use Rattle.faults.specs.declared.causes.Flaw.{Flaw}
use Rattle.faults.specs.declared.causes.LineFault.{LineFault}
use Rattle.lines.specs.Laws.{Parted}
use Rattle.lines.specs.Parting.{parted}
use Rattle.lines.specs.Words.{Words, stop, word, words}
use Rattle.numerals.specs.Numerals.{numeral}
use Rattle.relation_texts.specs.Forms.{OfLine, then, no_form, misfit, plain, counted, number_first, last, two_numbers, header_line, edge_line, letter, said_by, said, says}
use Rattle.relation_texts.specs.declared.forms.Count.{Count}
use Rattle.relation_texts.specs.declared.forms.Said.{Said}
use Rattle.relation_texts.specs.declared.forms.Said.TheVariants.{Nothing, Header, Edge}
use Rattle.std.specs.Str.{bytes_eq}

-- where something is wrong, it is that the line fits no form
abbrev Formal : {A : Type 0} → OfLine A → Type 0
Formal (Ok x) = Unit {0}
Formal (Err f) = f ≡ no_form f.column

formal_then : {A B : Type 0} (r : OfLine A) (next : A → OfLine B) → Formal r → ((x : A) → Formal (next x)) → Formal (then r next)
formal_then (Ok x) next h k = k x
formal_then (Err f) next h k = h

formal_cond : {A : Type 0} (t : Bool) (r s : OfLine A) → Formal r → Formal s → Formal (cond t r s)
formal_cond true r s h k = h
formal_cond false r s h k = k

formal_counted : (c : ℕ) (o : Option ℕ) (more : Words) → Formal (counted c o more)
formal_counted c None more = refl
formal_counted c (Some v) more = tt

formal_number : (w : Words) → Formal (number_first w)
formal_number (stop c) = refl
formal_number (word c bs more) = formal_counted c (plain (numeral bs)) more

formal_last : {A : Type 0} (x : A) (w : Words) → Formal (last x w)
formal_last x (stop c) = tt
formal_last x (word c bs more) = refl

formal_two : (w : Words) → Formal (two_numbers w)
formal_two w =
    formal_then (number_first w) (λ n. then (number_first n.1) (λ m. last (n.0, m.0) m.1)) (formal_number w)
    (λ n. formal_then (number_first n.1) (λ m. last (n.0, m.0) m.1) (formal_number n.1) (λ m. formal_last (n.0, m.0) m.1))

formal_header : (c : ℕ) (w : Words) → Formal (header_line c w)
formal_header c (stop d) = refl
formal_header c (word d bs more) =
    formal_cond (bytes_eq bs (codes "edge")) (then (two_numbers more) (λ n. Ok (Header c n.0 n.1))) (misfit d)
    (formal_then (two_numbers more) (λ n. Ok (Header c n.0 n.1)) (formal_two more) (λ n. tt)) refl

formal_letter : (c : ℕ) (o : Option ℕ) (more : Words) → Formal (said_by o c more)
formal_letter c None more = refl
formal_letter c (Some b) more =
    formal_cond (eqb b 99) (Ok Nothing) (cond (eqb b 112) (header_line c more) (cond (eqb b 101) (edge_line c more) (misfit c))) tt
    (formal_cond (eqb b 112) (header_line c more) (cond (eqb b 101) (edge_line c more) (misfit c)) (formal_header c more)
    (formal_cond (eqb b 101) (edge_line c more) (misfit c) (formal_then (two_numbers more) (λ n. Ok (Edge c n.0 n.1)) (formal_two more) (λ n. tt)) refl))

formal_said : (w : Words) → Formal (said w)
formal_said (stop c) = tt
formal_said (word c bs more) = formal_letter c (letter bs) more

pub formal_by : (w : Words) (f : Flaw LineFault) → said w ≡ Err f → f ≡ no_form f.column
formal_by w f e = subst (λ r. Formal r) e (formal_said w)

pub formal : (line : List ℕ) (f : Flaw LineFault) → says line ≡ Err f → f ≡ no_form f.column
formal line f e = formal_by (words 1 line) f e

-- of two numbers the second stands behind the first
abbrev Rising : OfLine (Count × Count) → Type 0
Rising (Ok n) = n.0.column ≤ n.1.column
Rising (Err f) = Unit {0}

rising_last : (n m : Count) (w : Words) → n.column ≤ m.column → Rising (last (n, m) w)
rising_last n m (stop d) h = h
rising_last n m (word d bs more) h = tt

rising_second : (n : Count) (c : ℕ) (o : Option ℕ) (more : Words) → n.column ≤ c → Rising (then (counted c o more) (λ m. last (n, m.0) m.1))
rising_second n c None more h = tt
rising_second n c (Some v) more h = rising_last n (record { column = c; value = v }) more h

rising_first : (c : ℕ) (bs : List ℕ) (o : Option ℕ) (more : Words) → Parted (word c bs more) → Rising (then (counted c o more) (λ n. then (number_first n.1) (λ m. last (n.0, m.0) m.1)))
rising_first c bs None more p = tt
rising_first c bs (Some v) (stop d) p = tt
rising_first c bs (Some v) (word d cs more) p = rising_second (record { column = c; value = v }) d (plain (numeral cs)) more (omega (arith, p.2))

rising_two : (w : Words) → Parted w → Rising (two_numbers w)
rising_two (stop c) p = tt
rising_two (word c bs more) p = rising_first c bs (plain (numeral bs)) more p

-- the columns of an edge
abbrev Ordered : OfLine Said → Type 0
Ordered (Err f) = Unit {0}
Ordered (Ok Nothing) = Unit {0}
Ordered (Ok (Header c places pairs)) = Unit {0}
Ordered (Ok (Edge c left right)) = left.column ≤ right.column

ordered_edge : (c : ℕ) (r : OfLine (Count × Count)) → Rising r → Ordered (then r (λ n. Ok (Edge c n.0 n.1)))
ordered_edge c (Ok n) h = h
ordered_edge c (Err f) h = tt

ordered_header : (c : ℕ) (r : OfLine (Count × Count)) → Ordered (then r (λ n. Ok (Header c n.0 n.1)))
ordered_header c (Ok n) = tt
ordered_header c (Err f) = tt

ordered_cond : (t : Bool) (r s : OfLine Said) → Ordered r → Ordered s → Ordered (cond t r s)
ordered_cond true r s h k = h
ordered_cond false r s h k = k

ordered_behind_p : (c : ℕ) (w : Words) → Ordered (header_line c w)
ordered_behind_p c (stop d) = tt
ordered_behind_p c (word d bs more) = ordered_cond (bytes_eq bs (codes "edge")) (then (two_numbers more) (λ n. Ok (Header c n.0 n.1))) (misfit d) (ordered_header c (two_numbers more)) tt

ordered_letter : (c : ℕ) (o : Option ℕ) (more : Words) → Parted more → Ordered (said_by o c more)
ordered_letter c None more p = tt
ordered_letter c (Some b) more p =
    ordered_cond (eqb b 99) (Ok Nothing) (cond (eqb b 112) (header_line c more) (cond (eqb b 101) (edge_line c more) (misfit c))) tt
    (ordered_cond (eqb b 112) (header_line c more) (cond (eqb b 101) (edge_line c more) (misfit c)) (ordered_behind_p c more)
    (ordered_cond (eqb b 101) (edge_line c more) (misfit c) (ordered_edge c (two_numbers more) (rising_two more p)) tt))

ordered_said : (w : Words) → Parted w → Ordered (said w)
ordered_said (stop c) p = tt
ordered_said (word c bs more) p = ordered_letter c (letter bs) more p.3

pub edge_columns : (line : List ℕ) {c : ℕ} {left right : Count} → says line ≡ Ok (Edge c left right) → left.column ≤ right.column
edge_columns line e = subst (λ r. Ordered r) e (ordered_said (words 1 line) (parted 1 line))
