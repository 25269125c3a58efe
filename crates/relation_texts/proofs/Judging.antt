-- One line, after lines that have no fault: what the walk makes of it is what its faults say.
use Rattle.std.proofs.Common.{◌≡◌, ℕ, ◌+◌, ◌<◌, ◌≤◌, Bool, true, false, cond, ◌&&◌, eqb, ltb, leb, ◌⊎◌, List, [], ◌∷◌, ◌++◌, length, is_some, Some, None, Ok, Err, Option, sym, refl, ap, ◌∙◌, subst, inl, inr, arith, lit<}
use Rattle.faults.specs.declared.causes.Flaw.{Flaw}
use Rattle.faults.specs.declared.causes.LineFault.{LineFault}
use Rattle.faults.specs.declared.causes.LineFault.TheVariants.{RelationForm, Number, HeaderAgain, HeaderMissing, PairAgain}
use Rattle.faults.specs.declared.causes.NumberFault.TheVariants.{Mismatch}
use Rattle.places.specs.Sets.{PlaceRelation, with_pair}
use Rattle.relation_texts.specs.Forms.{OfLine, then, misfit, says}
use Rattle.relation_texts.specs.Walk.{SoFar, is_place, place_of, headed, edged, taken}
use Rattle.relation_texts.specs.Exactly.{SomeLine, IsHeader, IsEdge, edge_count, edges_in, NumbersPlace, Breaks, unfit, again, missing, wrong_places, wrong_left, wrong_right, repeated, NoLater, FirstOf, Clean, Announces, PairsOf}
use Rattle.relation_texts.specs.declared.forms.Count.{Count}
use Rattle.relation_texts.specs.declared.forms.Said.{Said}
use Rattle.relation_texts.specs.declared.forms.Said.TheVariants.{Nothing, Header, Edge}
use Rattle.relation_texts.specs.declared.reading.Announced.{Announced}
use Rattle.std.proofs.lemmas.List.{append_assoc}
use Rattle.std.proofs.lemmas.Bool.{cases_Bool, eq-eqb, eqb-true, eqb-false, lt-ltb, ltb-true, leb-true, and_parts, and_from, and_cases, ltb-false, leb-false}
use Rattle.relation_texts.proofs.Splits.{same, earlier, later, compared, some_here, some_front, some_cases, edges_more}
use Rattle.relation_texts.proofs.Columns.{formal, edge_columns}

-- the header of a list of lines is one of its lines
pub announced_some : {ls : List (List ℕ)} {n : ℕ} {pairs : Count} → Announces ls n pairs → SomeLine IsHeader ls
announced_some a = subst (SomeLine IsHeader) (sym a.split) (some_here IsHeader a.before a.line a.after (a.column, (a.places, (_, a.header))))

-- a header stays one when lines come behind
pub announced_more : {ls : List (List ℕ)} {n : ℕ} {pairs : Count} (more : List (List ℕ)) → Announces ls n pairs → Announces (ls ++ more) n pairs
announced_more more a = record {
  before = a.before;
  line = a.line;
  after = a.after ++ more;
  split = ap (λ xs. xs ++ more) a.split ∙ append_assoc a.before (a.line ∷ a.after) more;
  number = a.number;
  column = a.column;
  places = a.places;
  header = a.header;
}

-- the test of a number of a place
place_test : (before n v : ℕ) → is_place before n v ≡ true → NumbersPlace before n v
place_test before n v e = let p = and_parts (ltb before v) (leb v (before + n)) e in (ltb-true before v p.0, leb-true v (before + n) p.1)

place_fails : (before n v : ℕ) → is_place before n v ≡ false → NumbersPlace before n v → ⊥
place_fails before n v e h = elim (and_cases (ltb before v) (leb v (before + n)) e) [
  | inl f ↦ let g = ltb-false before v f in omega (arith, h.0)
  | inr f ↦ let g = leb-false v (before + n) f in omega (arith, h.1)
]

-- the relation with one pair more
with_only : (P : PlaceRelation) (a b p q : ℕ) → with_pair P a b true p q ≡ true → (P p q ≡ true) ⊎ ((a ≡ p) × (b ≡ q))
with_only P a b p q e = at ((ltb a 16 && ltb b 16) && (eqb a p && eqb b q)) refl e
  where
    at : (t : Bool) → ((ltb a 16 && ltb b 16) && (eqb a p && eqb b q)) ≡ t → cond t true (P p q) ≡ true → (P p q ≡ true) ⊎ ((a ≡ p) × (b ≡ q))
    at true f h = let k = and_parts (eqb a p) (eqb b q) (and_parts (ltb a 16 && ltb b 16) (eqb a p && eqb b q) f).1 in inr (eqb-true a p k.0, eqb-true b q k.1)
    at false f h = inl h

with_keeps : (P : PlaceRelation) (a b p q : ℕ) → P p q ≡ true → with_pair P a b true p q ≡ true
with_keeps P a b p q e = at ((ltb a 16 && ltb b 16) && (eqb a p && eqb b q))
  where
    at : (t : Bool) → cond t true (P p q) ≡ true
    at true = refl
    at false = e

with_here : (P : PlaceRelation) (a b p q : ℕ) → a ≡ p → b ≡ q → a < 16 → b < 16 → with_pair P a b true p q ≡ true
with_here P a b p q e f l k =
    ap (λ t. cond t true (P p q))
    (and_from (ltb a 16 && ltb b 16) (eqb a p && eqb b q) (and_from (ltb a 16) (ltb b 16) (lt-ltb a 16 l) (lt-ltb b 16 k)) (and_from (eqb a p) (eqb b q) (eq-eqb a p e) (eq-eqb b q f)))

module _ (L R : ℕ) (few-left : L ≤ 16) (few-right : R ≤ 16) where
  -- lines without a fault, with one more
  clean_more : (ls : List (List ℕ)) (line : List ℕ) → Clean L R ls → ((f : LineFault) (c : ℕ) → Breaks L R ls (says line) f c → ⊥) → Clean L R (ls ++ line ∷ [])
  clean_more ls line h k before line' after e f c b = elim (compared ls line [] before line' after e) [
    | same p q r ↦ k f c (subst (λ bs. Breaks L R bs (says line) f c) (sym p) (subst (λ l. Breaks L R before (says l) f c) (sym q) b))
    | earlier between p q ↦ absurd (no_split between line' after q)
    | later between p q ↦ h before line' between p f c b
  ]
    where
      no_split : (between : List (List ℕ)) (l : List ℕ) (after : List (List ℕ)) → [] ≡ between ++ l ∷ after → ⊥
      no_split [] l after e = let z : ◌≡◌ {A = ℕ} 0 1 = cc in omega arith
      no_split (x ∷ between) l after e = let z : ◌≡◌ {A = ℕ} 0 1 = cc in omega arith

  -- the lines before have no fault, and have said what the walk has noted
  pub record Stands (before : List (List ℕ)) (s : SoFar) : Type 0 where
    pub clean : Clean L R before
    pub header : (a : Announced) → s.announced ≡ Some a → Announces before a.line a.pairs
    pub no_header : s.announced ≡ None → SomeLine IsHeader before → ⊥
    pub edges : s.edges ≡ edges_in before
    pub pairs : PairsOf L before s.pairs

  -- what becomes of a line: it passes, or it stops the walk at its first fault
  pub data Judged (before : List (List ℕ)) (line : List ℕ) : OfLine SoFar → Type 0 where
    passes : {t : SoFar} → Stands (before ++ line ∷ []) t → Judged before line (Ok t)
    stops : {f : Flaw LineFault} → FirstOf L R before (says line) f.cause f.column → Judged before line (Err f)

  -- a line that is no edge adds no pair
  pairs_kept : (before : List (List ℕ)) (line : List ℕ) (P : PlaceRelation) → PairsOf L before P → ((w v : ℕ) → IsEdge w v line → ⊥) → PairsOf L (before ++ line ∷ []) P
  pairs_kept before line P h none p q = (
    λ e. some_front (IsEdge (p + 1) (L + q + 1)) before (line ∷ []) ((h p q).0 e),
    λ k. elim (some_cases (IsEdge (p + 1) (L + q + 1)) before line k) [ inl i ↦ (h p q).1 i | inr i ↦ absurd (none (p + 1) (L + q + 1) i) ],
  )

  module _ (before : List (List ℕ)) (line : List ℕ) (s : SoFar) (st : Stands before s) where
    -- the first fault of a line, by what the line says
    first_by : {x : OfLine Said} {f : LineFault} {c : ℕ} → says line ≡ x → Breaks L R before x f c → ((g : LineFault) (d : ℕ) → Breaks L R before x g d → NoLater f c g d) → FirstOf L R before (says line) f c
    first_by {x} {f} {c} e b h = subst (λ y. FirstOf L R before y f c) (sym e) (record { breaks = b; first = h })

    none_by : {x : OfLine Said} → says line ≡ x → ((g : LineFault) (d : ℕ) → Breaks L R before x g d → ⊥) → (g : LineFault) (d : ℕ) → Breaks L R before (says line) g d → ⊥
    none_by e h g d b = h g d (subst (λ y. Breaks L R before y g d) e b)

    first_unfit : (c : ℕ) (g : LineFault) (d : ℕ) → Breaks L R before (misfit c) g d → NoLater RelationForm c g d
    first_unfit c g d unfit = inr (refl, omega arith)

    judge_unfit : (f : Flaw LineFault) → says line ≡ Err f → Judged before line (Err f)
    judge_unfit f e = subst (λ g. Judged before line (Err g)) (sym (formal line f e)) (stops (first_by (e ∙ ap Err (formal line f e)) unfit (first_unfit f.column)))

    judge_blank : says line ≡ Ok Nothing → Judged before line (Ok s)
    judge_blank e = passes (record {
      clean = clean_more before line st.clean (none_by e (λ g d b. elim b [ ]));
      header = λ a h. announced_more (line ∷ []) (st.header a h);
      no_header = λ h k. elim (some_cases IsHeader before line k) [ inl i ↦ st.no_header h i | inr i ↦ let z : ◌≡◌ {A = ℕ} 0 1 = cc i.1.1.1 in omega arith ];
      edges = omega (arith, st.edges, edges_more before line, ap edge_count e);
      pairs = pairs_kept before line s.pairs st.pairs (λ w v i. let z : ◌≡◌ {A = ℕ} 0 1 = cc i.1.1.1.0 in omega arith);
    })

    -- a header behind another
    first_again : (c : ℕ) (places pairs : Count) (g : LineFault) (d : ℕ) → Breaks L R before (Ok (Header c places pairs)) g d → NoLater HeaderAgain c g d
    first_again c places pairs g d (again h) = inr (refl, omega arith)
    first_again c places pairs g d (wrong_places h) = inl (lit< tt)

    judge_again : (n c : ℕ) (places pairs : Count) (a : Announced) → says line ≡ Ok (Header c places pairs) → s.announced ≡ Some a → Judged before line (headed L R n s c places pairs)
    judge_again n c places pairs a e h = rw h (stops (first_by e (again (announced_some (st.header a h))) (first_again c places pairs)))

    -- a header with a wrong number of places
    first_places : (c : ℕ) (places pairs : Count) → s.announced ≡ None → (g : LineFault) (d : ℕ) → Breaks L R before (Ok (Header c places pairs)) g d → NoLater (Number Mismatch) places.column g d
    first_places c places pairs h g d (again k) = absurd (st.no_header h k)
    first_places c places pairs h g d (wrong_places k) = inr (refl, omega arith)

    judge_places : (n c : ℕ) (places pairs : Count) → says line ≡ Ok (Header c places pairs) → s.announced ≡ None → eqb places.value (L + R) ≡ false → Judged before line (headed L R n s c places pairs)
    judge_places n c places pairs e h k = rw (h, k) (stops (first_by e (wrong_places (eqb-false places.value (L + R) k)) (first_places c places pairs h)))

    -- the header
    good_header : (c : ℕ) (places pairs : Count) → s.announced ≡ None → eqb places.value (L + R) ≡ true → (g : LineFault) (d : ℕ) → Breaks L R before (Ok (Header c places pairs)) g d → ⊥
    good_header c places pairs h k g d (again i) = st.no_header h i
    good_header c places pairs h k g d (wrong_places i) = i (eqb-true places.value (L + R) k)

    header_stands : (n c : ℕ) (places pairs : Count) → n ≡ length before + 1 → says line ≡ Ok (Header c places pairs) → s.announced ≡ None → eqb places.value (L + R) ≡ true → Stands (before ++ line ∷ []) (record { announced = Some (record { pairs = pairs; line = n }); edges = s.edges; pairs = s.pairs })
    header_stands n c places pairs at_n e h k = record {
      clean = clean_more before line st.clean (none_by e (good_header c places pairs h k));
      header = λ a i. let same-a : record { pairs = pairs; line = n } ≡ a = cc in subst (λ b. Announces (before ++ line ∷ []) b.line b.pairs) same-a (record { before = before; line = line; after = []; split = refl; number = at_n; column = c; places = places; header = e });
      no_header = λ i. let z : ◌≡◌ {A = ℕ} 0 1 = cc in absurd (omega arith);
      edges = omega (arith, st.edges, edges_more before line, ap edge_count e);
      pairs = pairs_kept before line s.pairs st.pairs (λ w v i. let z : ◌≡◌ {A = ℕ} 0 1 = cc i.1.1.1.0 in omega arith);
    }

    judge_header : (n c : ℕ) (places pairs : Count) → n ≡ length before + 1 → says line ≡ Ok (Header c places pairs) → s.announced ≡ None → eqb places.value (L + R) ≡ true → Judged before line (headed L R n s c places pairs)
    judge_header n c places pairs at_n e h k = rw (h, k) (passes (header_stands n c places pairs at_n e h k))

    -- an edge with no header before it
    first_missing : (c : ℕ) (left right : Count) (g : LineFault) (d : ℕ) → Breaks L R before (Ok (Edge c left right)) g d → NoLater HeaderMissing c g d
    first_missing c left right g d (missing h) = inr (refl, omega arith)
    first_missing c left right g d (wrong_left h) = inl (lit< tt)
    first_missing c left right g d (wrong_right h) = inl (lit< tt)
    first_missing c left right g d (repeated h) = inl (lit< tt)

    judge_missing : (c : ℕ) (left right : Count) → says line ≡ Ok (Edge c left right) → s.announced ≡ None → Judged before line (edged L R s c left right)
    judge_missing c left right e h = rw h (stops (first_by e (missing (st.no_header h)) (first_missing c left right)))

    module _ (c : ℕ) (left right : Count) (e : says line ≡ Ok (Edge c left right)) (a : Announced) (h : s.announced ≡ Some a) where
      -- a number of no left place
      first_left : (g : LineFault) (d : ℕ) → Breaks L R before (Ok (Edge c left right)) g d → NoLater (Number Mismatch) left.column g d
      first_left g d (missing i) = absurd (i (announced_some (st.header a h)))
      first_left g d (wrong_left i) = inr (refl, omega arith)
      first_left g d (wrong_right i) = inr (refl, edge_columns line e)
      first_left g d (repeated i) = inl (lit< tt)

      judge_left : is_place 0 L left.value ≡ false → Judged before line (edged L R s c left right)
      judge_left k = rw (h, k) (stops (first_by e (wrong_left (place_fails 0 L left.value k)) first_left))

      -- a number of no right place
      first_right : is_place 0 L left.value ≡ true → (g : LineFault) (d : ℕ) → Breaks L R before (Ok (Edge c left right)) g d → NoLater (Number Mismatch) right.column g d
      first_right k g d (missing i) = absurd (i (announced_some (st.header a h)))
      first_right k g d (wrong_left i) = absurd (i (place_test 0 L left.value k))
      first_right k g d (wrong_right i) = inr (refl, omega arith)
      first_right k g d (repeated i) = inl (lit< tt)

      judge_right : is_place 0 L left.value ≡ true → is_place L R right.value ≡ false → Judged before line (edged L R s c left right)
      judge_right k m = rw (h, k, m) (stops (first_by e (wrong_right (place_fails L R right.value m)) (first_right k)))

      module _ (k : is_place 0 L left.value ≡ true) (m : is_place L R right.value ≡ true) where
        -- the numbers of the two places, from the places
        left_number : place_of 0 left.value + 1 ≡ left.value
        left_number = omega (arith, (place_test 0 L left.value k).0)

        right_number : L + place_of L right.value + 1 ≡ right.value
        right_number = omega (arith, (place_test L R right.value m).0)

        noted : s.pairs (place_of 0 left.value) (place_of L right.value) ≡ true → SomeLine (IsEdge left.value right.value) before
        noted i = subst (λ v. SomeLine (IsEdge left.value v) before) right_number (subst (λ w. SomeLine (IsEdge w (L + place_of L right.value + 1)) before) left_number ((st.pairs (place_of 0 left.value) (place_of L right.value)).0 i))

        found : SomeLine (IsEdge left.value right.value) before → s.pairs (place_of 0 left.value) (place_of L right.value) ≡ true
        found i = (st.pairs (place_of 0 left.value) (place_of L right.value)).1 (subst (λ v. SomeLine (IsEdge (place_of 0 left.value + 1) v) before) (sym right_number) (subst (λ w. SomeLine (IsEdge w right.value) before) (sym left_number) i))

        -- a pair again
        first_repeated : (g : LineFault) (d : ℕ) → Breaks L R before (Ok (Edge c left right)) g d → NoLater PairAgain c g d
        first_repeated g d (missing i) = absurd (i (announced_some (st.header a h)))
        first_repeated g d (wrong_left i) = absurd (i (place_test 0 L left.value k))
        first_repeated g d (wrong_right i) = absurd (i (place_test L R right.value m))
        first_repeated g d (repeated i) = inr (refl, omega arith)

        judge_repeated : s.pairs (place_of 0 left.value) (place_of L right.value) ≡ true → Judged before line (edged L R s c left right)
        judge_repeated i = rw (h, k, m, i) (stops (first_by e (repeated (noted i)) first_repeated))

        -- an edge
        good_edge : s.pairs (place_of 0 left.value) (place_of L right.value) ≡ false → (g : LineFault) (d : ℕ) → Breaks L R before (Ok (Edge c left right)) g d → ⊥
        good_edge i g d (missing j) = j (announced_some (st.header a h))
        good_edge i g d (wrong_left j) = j (place_test 0 L left.value k)
        good_edge i g d (wrong_right j) = j (place_test L R right.value m)
        good_edge i g d (repeated j) = let z : true ≡ false = sym (found j) ∙ i in let y : ◌≡◌ {A = ℕ} 0 1 = cc in omega arith

        pairs_more : PairsOf L (before ++ line ∷ []) (with_pair s.pairs (place_of 0 left.value) (place_of L right.value) true)
        pairs_more p q = (
          λ i. elim (with_only s.pairs (place_of 0 left.value) (place_of L right.value) p q i) [
            | inl j ↦ some_front (IsEdge (p + 1) (L + q + 1)) before (line ∷ []) ((st.pairs p q).0 j)
            | inr j ↦ some_here (IsEdge (p + 1) (L + q + 1)) before line [] (c, (left, (right, (e, (omega (arith, left_number, j.0), omega (arith, right_number, j.1))))))
          ],
          λ i. elim (some_cases (IsEdge (p + 1) (L + q + 1)) before line i) [
            | inl j ↦ with_keeps s.pairs (place_of 0 left.value) (place_of L right.value) p q ((st.pairs p q).1 j)
            | inr j ↦
                let same_line : Ok (Edge c left right) ≡ Ok (Edge j.0 j.1.0 j.1.1.0) = sym e ∙ j.1.1.1.0 in
                let lefts : left ≡ j.1.0 = cc in
                let rights : right ≡ j.1.1.0 = cc in
                let w : left.value ≡ p + 1 = ap (λ n. n.value) lefts ∙ j.1.1.1.1.0 in
                let v : right.value ≡ L + q + 1 = ap (λ n. n.value) rights ∙ j.1.1.1.1.1 in
                with_here s.pairs (place_of 0 left.value) (place_of L right.value) p q (omega (arith, left_number)) (omega (arith, right_number))
                (omega (arith, left_number, (place_test 0 L left.value k).1)) (omega (arith, right_number, (place_test L R right.value m).1))
          ],
        )

        edge_stands : s.pairs (place_of 0 left.value) (place_of L right.value) ≡ false → Stands (before ++ line ∷ []) (record { announced = s.announced; edges = s.edges + 1; pairs = with_pair s.pairs (place_of 0 left.value) (place_of L right.value) true })
        edge_stands i = record {
          clean = clean_more before line st.clean (none_by e (good_edge i));
          header = λ b j. announced_more (line ∷ []) (st.header b j);
          no_header = λ j. let z : ◌≡◌ {A = ℕ} 0 1 = cc in absurd (omega arith);
          edges = omega (arith, st.edges, edges_more before line, ap edge_count e);
          pairs = pairs_more;
        }

        judge_edge : s.pairs (place_of 0 left.value) (place_of L right.value) ≡ false → Judged before line (edged L R s c left right)
        judge_edge i = let some : is_some s.announced ≡ true = ap is_some h in rw (some, k, m, i) (passes (edge_stands i))

    -- a line, by what it says
    judge_headers : (n c : ℕ) (places pairs : Count) → n ≡ length before + 1 → says line ≡ Ok (Header c places pairs) → (o : Option Announced) → s.announced ≡ o → Judged before line (headed L R n s c places pairs)
    judge_headers n c places pairs at_n e (Some a) h = judge_again n c places pairs a e h
    judge_headers n c places pairs at_n e None h = elim (cases_Bool (eqb places.value (L + R))) [
      | inl k ↦ judge_header n c places pairs at_n e h k
      | inr k ↦ judge_places n c places pairs e h k
    ]

    judge_edges : (c : ℕ) (left right : Count) → says line ≡ Ok (Edge c left right) → (o : Option Announced) → s.announced ≡ o → Judged before line (edged L R s c left right)
    judge_edges c left right e None h = judge_missing c left right e h
    judge_edges c left right e (Some a) h = elim (cases_Bool (is_place 0 L left.value)) [
      | inr k ↦ judge_left c left right e a h k
      | inl k ↦ elim (cases_Bool (is_place L R right.value)) [
        | inr m ↦ judge_right c left right e a h k m
        | inl m ↦ elim (cases_Bool (s.pairs (place_of 0 left.value) (place_of L right.value))) [
          | inl i ↦ judge_repeated c left right e a h k m i
          | inr i ↦ judge_edge c left right e a h k m i
        ]
      ]
    ]

    judge_by : (n : ℕ) → n ≡ length before + 1 → (x : OfLine Said) → says line ≡ x → Judged before line (then x (taken L R n s))
    judge_by n at_n (Err f) e = judge_unfit f e
    judge_by n at_n (Ok Nothing) e = judge_blank e
    judge_by n at_n (Ok (Header c places pairs)) e = judge_headers n c places pairs at_n e s.announced refl
    judge_by n at_n (Ok (Edge c left right)) e = judge_edges c left right e s.announced refl

    pub judge : (n : ℕ) → n ≡ length before + 1 → Judged before line (then (says line) (taken L R n s))
    judge n at_n = judge_by n at_n (says line) refl
