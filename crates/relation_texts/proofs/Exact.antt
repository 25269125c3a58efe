-- The whole text: the walk reports the fault to report, or reads the relation of the edges.
use Rattle.std.proofs.Common.{◌≡◌, ℕ, ◌+◌, ◌<◌, ◌≤◌, Bool, true, false, cond, eqb, List, [], ◌∷◌, ◌++◌, length, Some, None, Ok, Err, Option, Result, sym, refl, ap, ◌∙◌, subst, inl, inr, arith}
use mathlib.Core.Path.{fun_ext}
use Rattle.faults.specs.Faults.{Fault, in_line}
use Rattle.faults.specs.Numbers.{line_fault}
use Rattle.faults.specs.declared.causes.Cause.TheVariants.{RelationTooLong}
use Rattle.faults.specs.declared.causes.LineFault.{LineFault}
use Rattle.faults.specs.declared.causes.LineFault.TheVariants.{RelationForm, Number, HeaderAgain, HeaderMissing, PairAgain}
use Rattle.faults.specs.declared.causes.NumberFault.TheVariants.{Mismatch}
use Rattle.lines.specs.Lines.{lines}
use Rattle.places.specs.Sets.{PlaceRelation}
use Rattle.relation_texts.specs.Forms.{OfLine, then, says}
use Rattle.relation_texts.specs.Walk.{SoFar, nothing_yet, taken, finished_by, finished, onward, walk, at_most_16, relation_text}
use Rattle.relation_texts.specs.Exactly.{SomeLine, IsHeader, Breaks, unfit, again, missing, wrong_places, wrong_left, wrong_right, repeated, NoLater, FirstOf, Clean, Announces, Reported, in_a_line, no_header, miscounted, Sound, PairsOf, FaultOf, too_long, in_lines, FaultsExactly, RelationExactly, ReadOrFault}
use Rattle.relation_texts.specs.declared.forms.Count.{Count}
use Rattle.relation_texts.specs.declared.forms.Said.{Said}
use Rattle.relation_texts.specs.declared.forms.Said.TheVariants.{Nothing, Header, Edge}
use Rattle.relation_texts.specs.declared.reading.Announced.{Announced}
use Rattle.std.proofs.lemmas.List.{append_assoc, append-nil, length-append}
use Rattle.std.proofs.lemmas.Bool.{cases_Bool, cases_lt, eqb-true, eqb-false, le-leb, lt-leb}
use Rattle.relation_texts.proofs.Splits.{same, earlier, later, compared, some_here}
use Rattle.relation_texts.proofs.Judging.{announced_some, Stands, Judged, passes, stops, judge}

-- of the faults of a line no two have the same number and different causes
cause_of : OfLine Said → ℕ → LineFault
cause_of (Err f) n = RelationForm
cause_of (Ok Nothing) n = RelationForm
cause_of (Ok (Header c places pairs)) n = cond (eqb n 13) HeaderAgain (Number Mismatch)
cause_of (Ok (Edge c left right)) n = cond (eqb n 13) HeaderMissing (cond (eqb n 14) (Number Mismatch) PairAgain)

module _ (L R : ℕ) where
  cause_by : {before : List (List ℕ)} {x : OfLine Said} {f : LineFault} {c : ℕ} → Breaks L R before x f c → f ≡ cause_of x (line_fault f)
  unfolding cause_of
  cause_by unfit = refl
  cause_by (again h) = refl
  cause_by (missing h) = refl
  cause_by (wrong_places h) = refl
  cause_by (wrong_left h) = refl
  cause_by (wrong_right h) = refl
  cause_by (repeated h) = refl

  -- two faults that come no later than one another
  level : (f : LineFault) (c : ℕ) (g : LineFault) (d : ℕ) → NoLater f c g d → NoLater g d f c → (line_fault f ≡ line_fault g) × (c ≡ d)
  level f c g d (inl h) (inl k) = absurd (omega arith)
  level f c g d (inl h) (inr k) = absurd (omega (arith, k.0))
  level f c g d (inr h) (inl k) = absurd (omega (arith, h.0))
  level f c g d (inr h) (inr k) = (h.0, omega (arith, h.1, k.1))

  -- a line has one first fault
  first_once : {before : List (List ℕ)} {x : OfLine Said} {f g : LineFault} {c d : ℕ} → FirstOf L R before x f c → FirstOf L R before x g d → (f ≡ g) × (c ≡ d)
  first_once {before} {x} {f} {g} {c} {d} p q =
      let e = level f c g d (p.first g d q.breaks) (q.first f c p.breaks) in
      (cause_by p.breaks ∙ ap (cause_of x) e.0 ∙ sym (cause_by q.breaks), e.1)

  -- lines without a fault have at most one header
  header_once : {ls : List (List ℕ)} {n m : ℕ} {pairs pairs' : Count} → Clean L R ls → Announces ls n pairs → Announces ls m pairs' → (n ≡ m) × (pairs ≡ pairs')
  header_once {ls} {n} {m} {pairs} {pairs'} clean a b = elim (compared a.before a.line a.after b.before b.line b.after (sym a.split ∙ b.split)) [
    | same p q r ↦
        let heads : Ok (Header a.column a.places pairs) ≡ Ok (Header b.column b.places pairs') = sym a.header ∙ ap says q ∙ b.header in
        (a.number ∙ ap (λ xs. length xs + 1) p ∙ sym b.number, cc)
    | earlier between p q ↦ absurd (twice b (subst (SomeLine IsHeader) (sym p) (some_here IsHeader a.before a.line between (a.column, (a.places, (pairs, a.header))))))
    | later between p q ↦ absurd (twice a (subst (SomeLine IsHeader) (sym p) (some_here IsHeader b.before b.line between (b.column, (b.places, (pairs', b.header))))))
  ]
    where
      twice : {k : ℕ} {more : Count} (z : Announces ls k more) → SomeLine IsHeader z.before → ⊥
      twice {k} {more} z h = clean z.before z.line z.after z.split HeaderAgain z.column (subst (λ x. Breaks L R z.before x HeaderAgain z.column) (sym z.header) (again h))

  -- one line is the first with a fault
  line_once : {f g : LineFault} {c d : ℕ} (before : List (List ℕ)) (line : List ℕ) (after before' : List (List ℕ)) (line' : List ℕ) (after' : List (List ℕ)) → before ++ line ∷ after ≡ before' ++ line' ∷ after' → Clean L R before → Clean L R before' → FirstOf L R before (says line) f c → FirstOf L R before' (says line') g d → (f ≡ g) × ((length before + 1 ≡ length before' + 1) × (c ≡ d))
  line_once {f} {g} {c} {d} before line after before' line' after' e clean clean' p p' = elim (compared before line after before' line' after' e) [
    | same q r s ↦
        let o = first_once (subst (λ l. FirstOf L R before' (says l) f c) r (subst (λ bs. FirstOf L R bs (says line) f c) q p)) p' in
        (o.0, (ap (λ xs. length xs + 1) q, o.1))
    | earlier between q r ↦ absurd (clean' before line between q f c p.breaks)
    | later between q r ↦ absurd (clean before' line' between q g d p'.breaks)
  ]

  -- one fault is to be reported
  pub reported_once : {ls : List (List ℕ)} {f g : LineFault} {n m c d : ℕ} → Reported L R ls f n c → Reported L R ls g m d → (f ≡ g) × ((n ≡ m) × (c ≡ d))
  reported_once (in_a_line before line after e clean p) (in_a_line before' line' after' e' clean' p') = line_once before line after before' line' after' (sym e ∙ e') clean clean' p p'
  reported_once (in_a_line before line after e clean p) (no_header clean' h) = absurd (clean' before line after e _ _ p.breaks)
  reported_once (in_a_line before line after e clean p) (miscounted clean' a h) = absurd (clean' before line after e _ _ p.breaks)
  reported_once (no_header clean h) (in_a_line before line after e clean' p) = absurd (clean before line after e _ _ p.breaks)
  reported_once (no_header clean h) (no_header clean' k) = (refl, (refl, refl))
  reported_once (no_header clean h) (miscounted clean' a k) = absurd (h (announced_some a))
  reported_once (miscounted clean a h) (in_a_line before line after e clean' p) = absurd (clean before line after e _ _ p.breaks)
  reported_once (miscounted clean a h) (no_header clean' k) = absurd (k (announced_some a))
  reported_once (miscounted clean a h) (miscounted clean' b k) = let p = header_once clean a b in (refl, (p.0, ap (λ x. x.column) p.1))

  -- where something is to be reported, the lines are not sound
  pub sound_silent : {ls : List (List ℕ)} {f : LineFault} {n c : ℕ} → Sound L R ls → Reported L R ls f n c → ⊥
  sound_silent s (in_a_line before line after e clean p) = s.clean before line after e _ _ p.breaks
  sound_silent s (no_header clean h) = h (announced_some s.announced)
  sound_silent s (miscounted clean a h) = h (ap (λ x. x.value) (sym (header_once clean s.announced a).1) ∙ s.counted)

-- two relations with exactly the pairs of the same edges
same_truth : (a b : Bool) → (a ≡ true → b ≡ true) → (b ≡ true → a ≡ true) → a ≡ b
same_truth true b h k = sym (h refl)
same_truth false true h k = k refl
same_truth false false h k = refl

same_pairs : (L : ℕ) (ls : List (List ℕ)) (P Q : PlaceRelation) → PairsOf L ls P → PairsOf L ls Q → P ≡ Q
same_pairs L ls P Q h k = fun_ext (λ p. fun_ext (λ q. same_truth (P p q) (Q p q) (λ e. (k p q).1 ((h p q).0 e)) (λ e. (h p q).1 ((k p q).0 e))))

module _ (text : List ℕ) (L R : ℕ) (few-left : L ≤ 16) (few-right : R ≤ 16) where
  -- what the walk over all lines comes to: the relation of the edges, or the fault to report
  data Ends (whole : List (List ℕ)) : Result PlaceRelation Fault → Type 0 where
    reads : {P : PlaceRelation} → Sound L R whole → PairsOf L whole P → Ends whole (Ok P)
    reports : {f : LineFault} {n c : ℕ} → Reported L R whole f n c → Ends whole (Err (in_line text n (record { cause = f; column = c })))

  at_end : (ls : List (List ℕ)) (s : SoFar) → Stands L R few-left few-right ls s → (n : ℕ) → n ≡ length ls + 1 → (o : Option Announced) → s.announced ≡ o → Ends ls (finished_by text n o s.edges s.pairs)
  at_end ls s st n at_n None h = subst (λ m. Ends ls (Err (in_line text m (record { cause = HeaderMissing; column = 1 })))) (sym at_n) (reports (no_header st.clean (st.no_header h)))
  at_end ls s st n at_n (Some a) h = elim (cases_Bool (eqb a.pairs.value s.edges)) [
    | inl k ↦ rw k (reads (record { clean = st.clean; number = a.line; pairs = a.pairs; announced = st.header a h; counted = eqb-true a.pairs.value s.edges k ∙ st.edges }) st.pairs)
    | inr k ↦ rw k (reports (miscounted st.clean (st.header a h) (λ i. eqb-false a.pairs.value s.edges k (i ∙ sym st.edges))))
  ]

  onward_ends : (before : List (List ℕ)) (line : List ℕ) (more : List (List ℕ)) (s : SoFar) → Stands L R few-left few-right before s → (n : ℕ) → n ≡ length before + 1 → (x : OfLine SoFar) → Judged L R few-left few-right before line x → ((t : SoFar) → Stands L R few-left few-right (before ++ line ∷ []) t → Ends (before ++ line ∷ more) (walk text L R (n + 1) t more)) → Ends (before ++ line ∷ more) (onward text n x (λ t. walk text L R (n + 1) t more))
  onward_ends before line more s st n at_n (Ok t) (passes h) next = next t h
  onward_ends before line more s st n at_n (Err f) (stops h) next = subst (λ m. Ends (before ++ line ∷ more) (Err (in_line text m f))) (sym at_n) (reports (in_a_line before line more refl st.clean h))

  walked : (ls before : List (List ℕ)) (s : SoFar) → Stands L R few-left few-right before s → (n : ℕ) → n ≡ length before + 1 → Ends (before ++ ls) (walk text L R n s ls)
  walked [] before s st n at_n = subst (λ xs. Ends xs (finished text n s)) (sym (append-nil before)) (at_end before s st n at_n s.announced refl)
  walked (line ∷ more) before s st n at_n =
      onward_ends before line more s st n at_n (then (says line) (taken L R n s)) (judge L R few-left few-right before line s st n at_n)
      (λ t h. subst (λ xs. Ends xs (walk text L R (n + 1) t more)) (append_assoc before (line ∷ []) more) (walked more (before ++ line ∷ []) t h (n + 1) (omega (arith, length-append before (line ∷ [])))))

  start : Stands L R few-left few-right [] nothing_yet
  start = record {
    clean = λ before line after e. absurd (nothing_there before line after e);
    header = λ a e. let z : ◌≡◌ {A = ℕ} 0 1 = cc in absurd (omega arith);
    no_header = λ e h. h;
    edges = refl;
    pairs = λ p q. (λ e. let z : ◌≡◌ {A = ℕ} 0 1 = cc in absurd (omega arith), λ h. absurd h);
  }
    where
      nothing_there : (before : List (List ℕ)) (line : List ℕ) (after : List (List ℕ)) → [] ≡ before ++ line ∷ after → ⊥
      nothing_there [] line after e = let z : ◌≡◌ {A = ℕ} 0 1 = cc in omega arith
      nothing_there (x ∷ before) line after e = let z : ◌≡◌ {A = ℕ} 0 1 = cc in omega arith

  ended : Ends (lines text) (walk text L R 1 nothing_yet (lines text))
  ended = walked (lines text) [] nothing_yet start 1 refl

  -- back from what the walk came to
  fault_ends : {f : Fault} → length text ≤ 4096 → Ends (lines text) (Err f) → FaultOf text L R f
  fault_ends short (reports r) = in_lines short r

  read_ends : {ls : List (List ℕ)} {P : PlaceRelation} → Ends ls (Ok P) → Sound L R ls × PairsOf L ls P
  read_ends (reads s p) = (s, p)

  report_ends : {ls : List (List ℕ)} {f : LineFault} {n c : ℕ} (x : Result PlaceRelation Fault) → Ends ls x → Reported L R ls f n c → x ≡ Err (in_line text n (record { cause = f; column = c }))
  report_ends (Ok P) (reads s p) r = absurd (sound_silent L R s r)
  report_ends (Err g) (reports q) r = let e = reported_once L R q r in cc (e.0, e.1.0, e.1.1)

  sound_ends : {ls : List (List ℕ)} {P : PlaceRelation} (x : Result PlaceRelation Fault) → Ends ls x → Sound L R ls → PairsOf L ls P → x ≡ Ok P
  sound_ends {ls} {P} (Ok Q) (reads s p) h k = ap Ok (same_pairs L ls Q P p k)
  sound_ends {ls} {P} (Err g) (reports q) h k = absurd (sound_silent L R h q)

few : (n : ℕ) → at_most_16 n ≤ 16
few n = omega arith

module _ (text : List ℕ) (left right : ℕ) where
  abbrev the-walk : Result PlaceRelation Fault
  the-walk = walk text (at_most_16 left) (at_most_16 right) 1 nothing_yet (lines text)

  abbrev the-length : Fault
  the-length = record { cause = RelationTooLong; text = text; line = 0; column = 0 }

  short_text : length text ≤ 4096 → relation_text text left right ≡ the-walk
  short_text h = ap (λ t. cond t the-walk (Err the-length)) (le-leb (length text) 4096 h)

  long_text : 4096 < length text → relation_text text left right ≡ Err the-length
  long_text h = ap (λ t. cond t the-walk (Err the-length)) (lt-leb (length text) 4096 h)

  the_end : Ends text (at_most_16 left) (at_most_16 right) (few left) (few right) (lines text) the-walk
  the_end = ended text (at_most_16 left) (at_most_16 right) (few left) (few right)

  fault_is : (f : Fault) → relation_text text left right ≡ Err f → FaultOf text (at_most_16 left) (at_most_16 right) f
  fault_is f e = elim (cases_lt 4096 (length text)) [
    | inl long ↦ let h : the-length ≡ f = cc (long_text long) in subst (FaultOf text (at_most_16 left) (at_most_16 right)) h (too_long long)
    | inr short ↦ fault_ends text (at_most_16 left) (at_most_16 right) (few left) (few right) short (subst (Ends text (at_most_16 left) (at_most_16 right) (few left) (few right) (lines text)) (sym (short_text short) ∙ e) the_end)
  ]

  is_fault : (f : Fault) → FaultOf text (at_most_16 left) (at_most_16 right) f → relation_text text left right ≡ Err f
  is_fault f (too_long long) = long_text long
  is_fault f (in_lines short r) = short_text short ∙ report_ends text (at_most_16 left) (at_most_16 right) (few left) (few right) the-walk the_end r

  read_is : (P : PlaceRelation) → relation_text text left right ≡ Ok P → (length text ≤ 4096) × (Sound (at_most_16 left) (at_most_16 right) (lines text) × PairsOf (at_most_16 left) (lines text) P)
  read_is P e = elim (cases_lt 4096 (length text)) [
    | inl long ↦ let z : ◌≡◌ {A = ℕ} 0 1 = cc (long_text long) in absurd (omega arith)
    | inr short ↦ (short, read_ends text (at_most_16 left) (at_most_16 right) (few left) (few right) (subst (Ends text (at_most_16 left) (at_most_16 right) (few left) (few right) (lines text)) (sym (short_text short) ∙ e) the_end))
  ]

  is_read : (P : PlaceRelation) → (length text ≤ 4096) × (Sound (at_most_16 left) (at_most_16 right) (lines text) × PairsOf (at_most_16 left) (lines text) P) → relation_text text left right ≡ Ok P
  is_read P h = short_text h.0 ∙ sound_ends text (at_most_16 left) (at_most_16 right) (few left) (few right) the-walk the_end h.1.0 h.1.1

  read_or : (x : Result PlaceRelation Fault) → relation_text text left right ≡ x → ((f : Fault) → FaultOf text (at_most_16 left) (at_most_16 right) f → ⊥) → (P : PlaceRelation) × (relation_text text left right ≡ Ok P)
  read_or (Ok P) e h = (P, e)
  read_or (Err f) e h = absurd (h f (fault_is f e))

pub faults_exactly : FaultsExactly
faults_exactly text left right f = (fault_is text left right f, is_fault text left right f)

pub relation_exactly : RelationExactly
relation_exactly text left right P = (read_is text left right P, is_read text left right P)

pub read_or_fault : ReadOrFault
read_or_fault text left right = (
  λ r f h. let z : ◌≡◌ {A = ℕ} 0 1 = cc (r.1, is_fault text left right f h) in omega arith,
  λ h. read_or text left right (relation_text text left right) refl h,
)
