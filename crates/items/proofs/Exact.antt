-- Items and markings by how they are written.
use Rattle.std.proofs.Common.{◌≡◌, ℕ, suc, ◌+◌, ◌-◌, ◌<◌, Bool, true, false, cond, ◌&&◌, ◌||◌, eqb, leb, ◌⊎◌, List, [], ◌∷◌, ◌++◌, length, get_or, take, drop, Some, None, Ok, Option, Result, sym, refl, ap, ◌∙◌, subst, inl, inr, arith}
use Rattle.faults.specs.declared.causes.NumberFault.{NumberFault}
use Rattle.items.specs.Exactly.{ArcWritten, alone, weighed, InputWritten, an_arc, inhibiting, MarkingWritten, bracketed, WrittenExactly}
use Rattle.items.specs.Items.{ItemSaid, times, inhibits, other, behind_mark, tail_of, name_length, item_of, item_by, item_parts, input_item, arc_by, arc_only, output_item}
use Rattle.items.specs.Numbers.{ranged, ranged_numeral, closed, marking_by, marking}
use Rattle.items.specs.declared.item.Role.{Role}
use Rattle.items.specs.declared.item.Role.TheVariants.{Arc, Inhibitor}
use Rattle.names.specs.Names.{is_letter, is_tail, all_tail, valid_name, packed}
use Rattle.numerals.specs.Numerals.{numeral}
use Rattle.numerals.specs.declared.Numeral.{Numeral}
use Rattle.std.proofs.lemmas.List.{append-nil, take-append-drop, take_at, drop_at, length-append, get_or_at, take_all, take_more}
use Rattle.std.proofs.lemmas.Bool.{and_parts, or_from, or_cases, leb-true, eqb-true, ne_eqb}

-- no byte of a name begins a suffix
abbrev Apart : ℕ → Type 0
Apart b = (b ≡ 42 → ⊥) × (b ≡ 63 → ⊥)

letter_apart : (b : ℕ) → is_letter b ≡ true → Apart b
letter_apart b e = elim (or_cases (leb 65 b && leb b 90) (leb 97 b && leb b 122) e) [
  | inl h ↦ let p = leb-true 65 b (and_parts (leb 65 b) (leb b 90) h).0 in (λ s. omega arith, λ s. omega arith)
  | inr h ↦ let p = leb-true 97 b (and_parts (leb 97 b) (leb b 122) h).0 in (λ s. omega arith, λ s. omega arith)
]

tail_apart : (b : ℕ) → is_tail b ≡ true → Apart b
tail_apart b e = elim (or_cases (is_letter b) ((leb 48 b && leb b 57) || eqb b 95) e) [
  | inl h ↦ letter_apart b h
  | inr h ↦ elim (or_cases (leb 48 b && leb b 57) (eqb b 95) h) [
    | inl d ↦ let p = and_parts (leb 48 b) (leb b 57) d in let l = leb-true 48 b p.0 in let m = leb-true b 57 p.1 in (λ s. omega arith, λ s. omega arith)
    | inr d ↦ let p = eqb-true b 95 d in (λ s. omega arith, λ s. omega arith)
  ]
]

-- the bytes before a suffix
abbrev Stops : List ℕ → Type 0
Stops [] = Unit {0}
Stops (b ∷ bs) = (b ≡ 42) ⊎ (b ≡ 63)

stop_length : (tail : List ℕ) → Stops tail → name_length tail ≡ 0
stop_length [] h = refl
stop_length (b ∷ bs) (inl e) = rw e
stop_length (b ∷ bs) (inr e) = rw e

past_apart : (b : ℕ) (bs : List ℕ) → Apart b → name_length (b ∷ bs) ≡ suc (name_length bs)
past_apart b bs h =
    let e : (eqb b 42 || eqb b 63) ≡ false = or_from (eqb b 42) (eqb b 63) (ne_eqb b 42 h.0) (ne_eqb b 63 h.1) in
    rw e (omega arith)

past_tails : (bs tail : List ℕ) → all_tail bs ≡ true → Stops tail → name_length (bs ++ tail) ≡ length bs
past_tails [] tail e h = stop_length tail h
past_tails (b ∷ bs) tail e h =
    let p = and_parts (is_tail b) (all_tail bs) e in
    past_apart b (bs ++ tail) (tail_apart b p.0) ∙ ap suc (past_tails bs tail p.1 h)

past_name : (name tail : List ℕ) → valid_name name ≡ true → Stops tail → name_length (name ++ tail) ≡ length name
past_name [] tail e h = let z : ◌≡◌ {A = ℕ} 0 1 = cc in absurd (omega arith)
past_name (b ∷ bs) tail e h =
    let p = and_parts (is_letter b) (leb (length (b ∷ bs)) 8 && all_tail bs) e in
    past_apart b (bs ++ tail) (letter_apart b p.0) ∙ ap suc (past_tails bs tail (and_parts (leb (length (b ∷ bs)) 8) (all_tail bs) p.1).1 h)

-- a name and a suffix, cut apart again
cut_again : (name tail : List ℕ) → valid_name name ≡ true → Stops tail → input_item (name ++ tail) ≡ item_by (packed name) (tail_of tail)
cut_again name tail e h =
    let n = past_name name tail e h in
    let front : take (name_length (name ++ tail)) (name ++ tail) ≡ name = take_at name tail (name_length (name ++ tail)) (sym n) in
    let back : drop (name_length (name ++ tail)) (name ++ tail) ≡ tail = drop_at name tail (name_length (name ++ tail)) (sym n) in
    rw (front, back, e)

-- what is written so is read so
arc_read : {word : List ℕ} {i : ItemSaid} → ArcWritten word i → input_item word ≡ Some i
arc_read (alone name v) = ap input_item (sym (append-nil name)) ∙ cut_again name [] v tt
arc_read (weighed name digits n v e) = cut_again name (42 ∷ digits) v (inl refl) ∙ ap (λ o. item_of (packed name) Arc (ranged_numeral 1 4 o)) e

input_read : {word : List ℕ} {i : ItemSaid} → InputWritten word i → input_item word ≡ Some i
input_read (an_arc a) = arc_read a
input_read (inhibiting name digits n v e) = cut_again name (63 ∷ 45 ∷ digits) v (inr refl) ∙ ap (λ o. item_of (packed name) Inhibitor (ranged_numeral 1 1 o)) e

-- what is read so is written so
times_written : (name digits : List ℕ) (i : ItemSaid) → valid_name name ≡ true → (o : Option Numeral) → numeral digits ≡ o → item_of (packed name) Arc (ranged_numeral 1 4 o) ≡ Some i → InputWritten (name ++ 42 ∷ digits) i
times_written name digits i v None e h = let z : ◌≡◌ {A = ℕ} 0 1 = cc in absurd (omega arith)
times_written name digits i v (Some n) e h =
    let said : record { place = packed name; role = Arc; number = ranged 1 4 n } ≡ i = cc in
    subst (InputWritten (name ++ 42 ∷ digits)) said (an_arc (weighed name digits n v e))

inhibits_written : (name digits : List ℕ) (i : ItemSaid) → valid_name name ≡ true → (o : Option Numeral) → numeral digits ≡ o → item_of (packed name) Inhibitor (ranged_numeral 1 1 o) ≡ Some i → InputWritten (name ++ 63 ∷ 45 ∷ digits) i
inhibits_written name digits i v None e h = let z : ◌≡◌ {A = ℕ} 0 1 = cc in absurd (omega arith)
inhibits_written name digits i v (Some n) e h =
    let said : record { place = packed name; role = Inhibitor; number = ranged 1 1 n } ≡ i = cc in
    subst (InputWritten (name ++ 63 ∷ 45 ∷ digits)) said (inhibiting name digits n v e)

mark_written : (name bs : List ℕ) (i : ItemSaid) → valid_name name ≡ true → item_by (packed name) (behind_mark bs) ≡ Some i → InputWritten (name ++ 63 ∷ bs) i
mark_written name [] i v h = let z : ◌≡◌ {A = ℕ} 0 1 = cc in absurd (omega arith)
mark_written name (b ∷ bs) i v h = at (eqb b 45) refl h
  where
    at : (t : Bool) → eqb b 45 ≡ t → item_by (packed name) (cond t (inhibits bs) other) ≡ Some i → InputWritten (name ++ 63 ∷ b ∷ bs) i
    at true e h = subst (λ c. InputWritten (name ++ 63 ∷ c ∷ bs) i) (sym (eqb-true b 45 e)) (inhibits_written name bs i v (numeral bs) refl h)
    at false e h = let z : ◌≡◌ {A = ℕ} 0 1 = cc in absurd (omega arith)

tail_written : (name tail : List ℕ) (i : ItemSaid) → valid_name name ≡ true → item_by (packed name) (tail_of tail) ≡ Some i → InputWritten (name ++ tail) i
tail_written name [] i v h =
    let said : record { place = packed name; role = Arc; number = Ok 1 } ≡ i = cc in
    subst (λ bs. InputWritten bs i) (sym (append-nil name)) (subst (InputWritten name) said (an_arc (alone name v)))
tail_written name (b ∷ bs) i v h = star (eqb b 42) refl h
  where
    mark : (t : Bool) → eqb b 63 ≡ t → item_by (packed name) (cond t (behind_mark bs) other) ≡ Some i → InputWritten (name ++ b ∷ bs) i
    mark true e h = subst (λ c. InputWritten (name ++ c ∷ bs) i) (sym (eqb-true b 63 e)) (mark_written name bs i v h)
    mark false e h = let z : ◌≡◌ {A = ℕ} 0 1 = cc in absurd (omega arith)

    star : (t : Bool) → eqb b 42 ≡ t → item_by (packed name) (cond t (times bs) (cond (eqb b 63) (behind_mark bs) other)) ≡ Some i → InputWritten (name ++ b ∷ bs) i
    star true e h = subst (λ c. InputWritten (name ++ c ∷ bs) i) (sym (eqb-true b 42 e)) (times_written name bs i v (numeral bs) refl h)
    star false e h = mark (eqb b 63) refl h

parts_written : (name tail : List ℕ) (i : ItemSaid) → item_parts name tail ≡ Some i → InputWritten (name ++ tail) i
parts_written name tail i h = at (valid_name name) refl h
  where
    at : (t : Bool) → valid_name name ≡ t → cond t (item_by (packed name) (tail_of tail)) None ≡ Some i → InputWritten (name ++ tail) i
    at true v h = tail_written name tail i v h
    at false v h = let z : ◌≡◌ {A = ℕ} 0 1 = cc in absurd (omega arith)

input_written : (word : List ℕ) (i : ItemSaid) → input_item word ≡ Some i → InputWritten word i
input_written word i h = subst (λ bs. InputWritten bs i) (take-append-drop (name_length word) word) (parts_written (take (name_length word) word) (drop (name_length word) word) i h)

-- arcs alone
arc_role : {word : List ℕ} {i : ItemSaid} → ArcWritten word i → arc_by i.role i ≡ Some i
arc_role (alone name v) = refl
arc_role (weighed name digits n v e) = refl

role_arc : {word : List ℕ} {i : ItemSaid} → InputWritten word i → i.role ≡ Arc → ArcWritten word i
role_arc (an_arc a) e = a
role_arc (inhibiting name digits n v h) e = let z : ◌≡◌ {A = ℕ} 0 1 = cc in absurd (omega arith)

output_written : (word : List ℕ) (i : ItemSaid) → output_item word ≡ Some i → ArcWritten word i
output_written word i h = at (input_item word) refl h
  where
    by_role : (j : ItemSaid) → input_item word ≡ Some j → (r : Role) → j.role ≡ r → arc_by r j ≡ Some i → ArcWritten word i
    by_role j e Arc f h = let said : j ≡ i = cc in subst (ArcWritten word) said (role_arc (input_written word j e) f)
    by_role j e Inhibitor f h = let z : ◌≡◌ {A = ℕ} 0 1 = cc in absurd (omega arith)

    at : (o : Option ItemSaid) → input_item word ≡ o → arc_only o ≡ Some i → ArcWritten word i
    at None e h = let z : ◌≡◌ {A = ℕ} 0 1 = cc in absurd (omega arith)
    at (Some j) e h = by_role j e j.role refl h

output_read : {word : List ℕ} {i : ItemSaid} → ArcWritten word i → output_item word ≡ Some i
output_read a = ap arc_only (arc_read a) ∙ arc_role a

-- markings
closed_again : (digits : List ℕ) → closed (digits ++ 41 ∷ []) ≡ Some digits
closed_again digits =
    let n : length (digits ++ 41 ∷ []) - 1 ≡ length digits = omega (arith, length-append digits (41 ∷ [])) in
    let last : get_or (digits ++ 41 ∷ []) (length (digits ++ 41 ∷ []) - 1) 0 ≡ 41 = get_or_at digits 41 [] 0 (length (digits ++ 41 ∷ []) - 1) (sym n) in
    let front : take (length (digits ++ 41 ∷ []) - 1) (digits ++ 41 ∷ []) ≡ digits = take_at digits (41 ∷ []) (length (digits ++ 41 ∷ []) - 1) (sym n) in
    rw (last, front)

marking_read : {word : List ℕ} {r : Result ℕ NumberFault} → MarkingWritten word r → marking word ≡ Some r
marking_read (bracketed digits n e) = ap marking_by (closed_again digits) ∙ ap (ranged_numeral 0 64) e

last_split : (bs : List ℕ) → get_or bs (length bs - 1) 0 ≡ 41 → take (length bs - 1) bs ++ 41 ∷ [] ≡ bs
last_split [] e = absurd (omega arith)
last_split (b ∷ bs) e =
    let n : length (b ∷ bs) - 1 < length (b ∷ bs) = omega arith in
    ap (λ x. take (length (b ∷ bs) - 1) (b ∷ bs) ++ x ∷ []) (sym e) ∙
    sym (take_more (b ∷ bs) (length (b ∷ bs) - 1) 0 n) ∙
    take_all (length (b ∷ bs) - 1 + 1) (b ∷ bs) (omega arith)

digits_written : (digits : List ℕ) (r : Result ℕ NumberFault) (o : Option Numeral) → numeral digits ≡ o → ranged_numeral 0 64 o ≡ Some r → MarkingWritten (40 ∷ (digits ++ 41 ∷ [])) r
digits_written digits r None e h = let z : ◌≡◌ {A = ℕ} 0 1 = cc in absurd (omega arith)
digits_written digits r (Some n) e h = let said : ranged 0 64 n ≡ r = cc in subst (MarkingWritten (40 ∷ (digits ++ 41 ∷ []))) said (bracketed digits n e)

marking_written : (word : List ℕ) (r : Result ℕ NumberFault) → marking word ≡ Some r → MarkingWritten word r
marking_written [] r h = let z : ◌≡◌ {A = ℕ} 0 1 = cc in absurd (omega arith)
marking_written (b ∷ bs) r h = open_bracket (eqb b 40) refl h
  where
    close_bracket : (t : Bool) → eqb (get_or bs (length bs - 1) 0) 41 ≡ t → marking_by (cond t (Some (take (length bs - 1) bs)) None) ≡ Some r → MarkingWritten (40 ∷ bs) r
    close_bracket true e h = subst (λ cs. MarkingWritten (40 ∷ cs) r) (last_split bs (eqb-true _ _ e)) (digits_written (take (length bs - 1) bs) r (numeral (take (length bs - 1) bs)) refl h)
    close_bracket false e h = let z : ◌≡◌ {A = ℕ} 0 1 = cc in absurd (omega arith)

    open_bracket : (t : Bool) → eqb b 40 ≡ t → cond t (marking_by (closed bs)) None ≡ Some r → MarkingWritten (b ∷ bs) r
    open_bracket true e h = subst (λ c. MarkingWritten (c ∷ bs) r) (sym (eqb-true b 40 e)) (close_bracket (eqb (get_or bs (length bs - 1) 0) 41) refl h)
    open_bracket false e h = let z : ◌≡◌ {A = ℕ} 0 1 = cc in absurd (omega arith)

pub written_exactly : WrittenExactly
written_exactly = record {
  inputs = λ word i. (input_written word i, input_read);
  outputs = λ word i. (output_written word i, output_read);
  markings = λ word r. (marking_written word r, marking_read);
}
