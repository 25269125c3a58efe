-- The verdict over both sides.
use Rattle.std.proofs.Common.{◌≡◌, ℕ, List, length, Ok, Err, Option, Result, sym, refl, ap, ◌∙◌, subst, arith, length-append}
use Rattle.std.proofs.lemmas.Bool.{false≢true}
use Rattle.places.specs.Sets.{PlaceRelation, turned}
use Rattle.places.specs.declared.Side.TheVariants.{Left, Right}
use Rattle.nets.specs.Meaning.{Meaning, Limits}
use Rattle.bisimulation.specs.Bisimulation.{between}
use Rattle.bisimulation.specs.Verdicts.{answer_for, answer_on, obligations_below, obligations, answer_to, first_open, judged, accepted, refused, verdict_of}
use Rattle.bisimulation.specs.Theorems.{is_accepted, AcceptedExactly, RefusedBreaks}
use Rattle.verdict.specs.Results.{obligation_at, unsound_at, verdict_as, Judges, JudgedBelow}
use Rattle.std.specs.Result.{IsErrAnd}
use Rattle.nets.specs.Tables.{table_meaning}
use Rattle.places.specs.declared.Side.{Side}
use Rattle.verdict.specs.Relating.{facing, inside, pairs_of}
use Rattle.verdict.specs.Search.{mover_on, other_on, obligations_of, Faces, JudgedFor}
use Rattle.verdict.specs.declared.half.Half.{Half}
use Rattle.verdict.specs.declared.obligation.VerdictRefusal.TheVariants.{Unsound}
use Rattle.verdict.specs.declared.obligation.Obligation.{Obligation}
use Rattle.verdict.specs.declared.obligation.VerdictRefusal.{VerdictRefusal}
use Rattle.verdict.proofs.Walks.{first_append, or_else}

-- the pairs of the two nets
pub pairs_between : (n k : Meaning) (R : PlaceRelation) (l r : ℕ) → l ≡ n.places → r ≡ k.places → inside l r R ≡ between n k R
pairs_between n k R l r el er = ap (λ a. inside a r R) el ∙ ap (λ b. inside n.places b R) er

-- what holds of a half holds of the nets and the relation that it faces
pub faced : (side : Side) (n k : Meaning) (R : PlaceRelation) (h : Half) → Faces side n k R h → (P : Side → Meaning → Meaning → PlaceRelation → Type 0) → P h.side (table_meaning h.mover.now) (table_meaning h.other.now) (pairs_of h.pairs) → P side (mover_on side n k) (other_on side n k) (facing side (between n k R))
faced side n k R h f P p =
    subst (λ s. P s (mover_on side n k) (other_on side n k) (facing side (between n k R))) f.side_is
    (subst (λ m. P h.side m (other_on side n k) (facing side (between n k R))) f.mover_is
    (subst (λ o. P h.side (table_meaning h.mover.now) o (facing side (between n k R))) f.other_is
    (subst (P h.side (table_meaning h.mover.now) (table_meaning h.other.now)) f.related_is p)))

-- the answer of a half
pub answer_from : (side : Side) (n k : Meaning) (R : PlaceRelation) (h : Half) (t : ℕ) (ys : List ℕ) (r : Option ℕ) → Faces side n k R h → r ≡ answer_for (table_meaning h.mover.now) (table_meaning h.other.now) (pairs_of h.pairs) t ys → r ≡ answer_on n k (between n k R) side t ys
answer_from Left n k R h t ys r f e = faced Left n k R h f (λ s m o S. r ≡ answer_for m o S t ys) e
answer_from Right n k R h t ys r f e = faced Right n k R h f (λ s m o S. r ≡ answer_for m o S t ys) e

-- the refusal that an obligation becomes
pub refused_as : (r : Result ℕ VerdictRefusal) (o : Obligation) → IsErrAnd r (λ x. x ≡ Unsound o) → verdict_as r ≡ refused (obligation_at o)
refused_as (Ok count) o e = absurd e
refused_as (Err x) o e = ap (λ y. refused (unsound_at y)) e

module _ (n k : Meaning) (R : PlaceRelation) (there back : PlaceRelation) (forth : there ≡ between n k R) (turns : back ≡ turned (between n k R)) where
  lefts : (r : Result ℕ Obligation) → JudgedBelow Left n k there 0 (obligations_below Left n k there n.transitions) r → JudgedBelow Left n k (between n k R) 0 (obligations_below Left n k (between n k R) n.transitions) r
  lefts r j = subst (λ S. JudgedBelow Left n k S 0 (obligations_below Left n k S n.transitions) r) forth j

  rights : (count : ℕ) (r : Result ℕ Obligation) → JudgedBelow Right k n back count (obligations_below Right k n back k.transitions) r → JudgedBelow Right k n (turned (between n k R)) count (obligations_below Right k n (turned (between n k R)) k.transitions) r
  rights count r j = subst (λ S. JudgedBelow Right k n S count (obligations_below Right k n S k.transitions) r) turns j

  parts : first_open (answer_to n k (between n k R)) (obligations n k (between n k R)) ≡ or_else (first_open (answer_to n k (between n k R)) (obligations_below Left n k (between n k R) n.transitions)) (first_open (answer_to n k (between n k R)) (obligations_below Right k n (turned (between n k R)) k.transitions))
  parts = first_append (answer_to n k (between n k R)) (obligations_below Left n k (between n k R) n.transitions) (obligations_below Right k n (turned (between n k R)) k.transitions)

  pub left_refused : (o : Obligation) → JudgedBelow Left n k there 0 (obligations_below Left n k there n.transitions) (Err o) → refused (obligation_at o) ≡ verdict_of n k R
  left_refused o j = sym (ap (judged (obligations n k (between n k R))) (parts ∙ ap (λ v. or_else v (first_open (answer_to n k (between n k R)) (obligations_below Right k n (turned (between n k R)) k.transitions))) (lefts (Err o) j (answer_to n k (between n k R)) (λ t ys. refl))))

  pub right_refused : (count : ℕ) (o : Obligation) → JudgedBelow Left n k there 0 (obligations_below Left n k there n.transitions) (Ok count) → JudgedBelow Right k n back count (obligations_below Right k n back k.transitions) (Err o) → refused (obligation_at o) ≡ verdict_of n k R
  right_refused count o i j = sym (ap (judged (obligations n k (between n k R))) (parts ∙ ap (λ v. or_else v (first_open (answer_to n k (between n k R)) (obligations_below Right k n (turned (between n k R)) k.transitions))) (lefts (Ok count) i (answer_to n k (between n k R)) (λ t ys. refl)).0 ∙ rights count (Err o) j (answer_to n k (between n k R)) (λ t ys. refl)))

  pub both_accepted : (count total : ℕ) → JudgedBelow Left n k there 0 (obligations_below Left n k there n.transitions) (Ok count) → JudgedBelow Right k n back count (obligations_below Right k n back k.transitions) (Ok total) → accepted total ≡ verdict_of n k R
  both_accepted count total i j =
      let a = lefts (Ok count) i (answer_to n k (between n k R)) (λ t ys. refl) in
      let b = rights count (Ok total) j (answer_to n k (between n k R)) (λ t ys. refl) in
      let all : total ≡ length (obligations n k (between n k R)) = omega (arith, a.1, b.1, length-append (obligations_below Left n k (between n k R) n.transitions) (obligations_below Right k n (turned (between n k R)) k.transitions)) in
      sym (ap (judged (obligations n k (between n k R))) (parts ∙ ap (λ v. or_else v (first_open (answer_to n k (between n k R)) (obligations_below Right k n (turned (between n k R)) k.transitions))) a.0 ∙ b.0) ∙ ap accepted (sym all))

-- the obligations of a side as they are counted
pub counted_of : (h : Half) (k count : ℕ) → JudgedFor h 0 (obligations_of h k) (Ok count) → count ≡ length (obligations_of h k)
counted_of h k count j = omega (arith, (j (λ o. answer_for (table_meaning h.mover.now) (table_meaning h.other.now) (pairs_of h.pairs) o.transition o.bag) (λ t ys. refl)).1)

-- what follows from the verdict being the one that is defined
pub judges : (n k : Meaning) (R : PlaceRelation) (r : Result ℕ VerdictRefusal) → AcceptedExactly → RefusedBreaks → Limits n → Limits k → verdict_as r ≡ verdict_of n k R → Judges n k R r
judges n k R (Ok count) exact breaks ln lk e = record {
  value = e;
  exact = (λ yes-it-is. (exact n k R ln lk).0 (ap is_accepted (sym e)), λ b. refl);
  shown = tt;
}
judges n k R (Err refusal) exact breaks ln lk e = record {
  value = e;
  exact = (λ h. absurd (false≢true h), λ b. absurd (false≢true (ap is_accepted e ∙ (exact n k R ln lk).1 b)));
  shown = breaks n k R (unsound_at refusal) ln lk (sym e);
}
