-- The list of answers, side by side.
use Rattle.std.proofs.Common.{◌≡◌, ℕ, zero, suc, ◌+◌, ◌<◌, ◌≤◌, List, [], ◌∷◌, ◌++◌, map, length, take, drop, set, Some, None, Ok, Err, Option, Result, sym, refl, ap, ◌∙◌, subst, inl, inr, append_assoc, append-nil, add-one, arith, length-append}
use Rattle.std.proofs.lemmas.List.{length-map, length-set, map-append, take_more_set}
use Rattle.std.proofs.lemmas.Bool.{cases_eq}
use Rattle.places.specs.Sets.{PlaceRelation, turned}
use Rattle.places.specs.declared.Side.{Side}
use Rattle.places.specs.declared.Side.TheVariants.{Left, Right}
use Rattle.nets.specs.Meaning.{Meaning}
use Rattle.bisimulation.specs.Bisimulation.{between}
use Rattle.bisimulation.specs.Laws.{open_or}
use Rattle.bisimulation.specs.Verdicts.{answer_for, bags_for, ObligationAt, obligations_below, obligations, answer_to, first_open}
use Rattle.verdict.specs.Results.{at, answered_at, Wrote, with_answers, WroteBelow, ListsAnswers}
use Rattle.verdict.specs.declared.obligation.ListRefusal.TheVariants.{TooFew}
use Rattle.verdict.specs.Search.{Passed}
use Rattle.verdict.specs.declared.job.Job.{Job}
use Rattle.verdict.specs.declared.obligation.Obligation.{Obligation}
use Rattle.std.specs.Result.{result_unwrap_or}
use Rattle.verdict.specs.declared.obligation.AnsweredObligation.{AnsweredObligation}
use Rattle.verdict.proofs.Wrote.{wrote_on, wrote_long}

-- where nothing stops the walk, all bags are counted
none_stops : {X : Type 0} (f : X → Option ℕ) → ((x : X) → f x ≡ Some 0) → (xs : List X) → first_open f xs ≡ None
none_stops f h [] = refl
none_stops f h (x ∷ xs) = ap (λ v. open_or v x (first_open f xs)) (h x) ∙ none_stops f h xs

pub counted_all : (j : Job) (before : ℕ) (bags : List (List ℕ)) (r : Result ℕ Obligation) → Passed j (λ ys. Some 0) before bags r → result_unwrap_or r before ≡ before + length bags
counted_all j before bags (Ok count) p = p.1
counted_all j before bags (Err o) p = let e = sym (none_stops (λ ys. Some 0) (λ ys. refl) bags) ∙ p.0 in let z : ◌≡◌ {A = ℕ} 0 1 = cc in absurd (omega arith)

-- entries for the bags of one transition are entries for its obligations
pub entries_are : (side : Side) (t : ℕ) (f : ObligationAt → Option ℕ) (g : List ℕ → Option ℕ) → ((zs : List ℕ) → f (at side t zs) ≡ g zs) → (bags : List (List ℕ)) → map (λ ys. (at side t ys, g ys)) bags ≡ with_answers f (map (at side t) bags)
entries_are side t f g agrees [] = refl
entries_are side t f g agrees (b ∷ bags) = ap (λ v. (at side t b, v) ∷ map (λ ys. (at side t ys, g ys)) bags) (sym (agrees b)) ∙ ap (λ es. (at side t b, f (at side t b)) ∷ es) (entries_are side t f g agrees bags)

-- the obligations of the transitions below t are written
pub record WrittenTo (side : Side) (mover other : Meaning) (R : PlaceRelation) (start : ℕ) (before : List AnsweredObligation) (t next : ℕ) (after : List AnsweredObligation) : Type 0 where
  pub written : WroteBelow side mover other R start before (obligations_below side mover other R t) after
  pub counted : next ≡ start + length (obligations_below side mover other R t)

pub written_none : (side : Side) (mover other : Meaning) (R : PlaceRelation) (start : ℕ) (before : List AnsweredObligation) → WrittenTo side mover other R start before 0 start before
written_none side mover other R start before = record { written = λ f agrees. refl; counted = omega arith }

below_more : (side : Side) (mover other : Meaning) (R : PlaceRelation) (t : ℕ) → length (obligations_below side mover other R (suc t)) ≡ length (obligations_below side mover other R t) + length (bags_for mover other R t)
below_more side mover other R t = length-append (obligations_below side mover other R t) (map (at side t) (bags_for mover other R t)) ∙ ap (λ k. length (obligations_below side mover other R t) + k) (length-map (bags_for mover other R t) (at side t))

pub count_more : (side : Side) (mover other : Meaning) (R : PlaceRelation) (t count seen : ℕ) → count ≡ length (obligations_below side mover other R t) → seen ≡ count + length (bags_for mover other R t) → seen ≡ length (obligations_below side mover other R (t + 1))
count_more side mover other R t count seen e h = rw add-one (omega (arith, e, h, below_more side mover other R t))

-- a transition more fits where all fit
pub still_room : (side : Side) (mover other : Meaning) (R : PlaceRelation) (t T : ℕ) → t < T → length (obligations_below side mover other R t) + length (bags_for mover other R t) ≤ length (obligations_below side mover other R T)
still_room side mover other R t zero l = absurd (omega arith)
still_room side mover other R t (suc T) l = elim (cases_eq t T) [
  | inl e ↦ subst (λ k. length (obligations_below side mover other R t) + length (bags_for mover other R t) ≤ length (obligations_below side mover other R (suc k))) e (omega (arith, below_more side mover other R t))
  | inr n ↦ omega (arith, still_room side mover other R t T (omega arith), below_more side mover other R T)
]

pub written_long : {side : Side} {mover other : Meaning} {R : PlaceRelation} {start : ℕ} {before : List AnsweredObligation} {t next : ℕ} {after : List AnsweredObligation} → WrittenTo side mover other R start before t next after → length after ≡ length before
written_long {side} {mover} {other} {R} {start} {before} {t} {next} {after} w = wrote_long start before after (with_answers own (obligations_below side mover other R t)) (w.written own (λ s zs. refl))
  where
    own : ObligationAt → Option ℕ
    own o = answer_for mover other R o.transition o.bag

pub written_more : (side : Side) (mover other : Meaning) (R : PlaceRelation) (start : ℕ) (before : List AnsweredObligation) (t next : ℕ) (after : List AnsweredObligation) (later : ℕ) (last : List AnsweredObligation) → WrittenTo side mover other R start before t next after → later ≡ next + length (bags_for mover other R t) → WroteBelow side mover other R next after (map (at side t) (bags_for mover other R t)) last → WrittenTo side mover other R start before (t + 1) later last
written_more side mover other R start before t next after later last w e h = rw add-one (record {
  written = λ f agrees.
      let first = w.written f agrees in
      let second = h f agrees in
      let from : next ≡ start + length (with_answers f (obligations_below side mover other R t)) = omega (arith, w.counted, length-map {B = ObligationAt × Option ℕ} (obligations_below side mover other R t) (λ o. (o, f o))) in
      subst (λ es. Wrote start before es last) (sym (map-append {B = ObligationAt × Option ℕ} (λ o. (o, f o)) (obligations_below side mover other R t) (map (at side t) (bags_for mover other R t)))) (wrote_on start before after last (with_answers f (obligations_below side mover other R t)) (with_answers f (map (at side t) (bags_for mover other R t))) first (subst (λ k. Wrote k after (with_answers f (map (at side t) (bags_for mover other R t))) last) from second));
  counted = omega (arith, e, w.counted, below_more side mover other R t);
})

-- what was written stands in front, and the rest stays
drop_past : {X : Type 0} (xs : List X) (i k : ℕ) (v : X) → i < k → drop k (set xs i v) ≡ drop k xs
drop_past [] i zero v l = absurd (omega arith)
drop_past [] i (suc k) v l = refl
drop_past (x ∷ xs) i zero v l = absurd (omega arith)
drop_past (x ∷ xs) zero (suc k) v l = refl
drop_past (x ∷ xs) (suc i) (suc k) v l = drop_past xs i k v (omega arith)

-- the list up to the number i and the entries behind
pub wrote_shows : (i : ℕ) (xs ys : List AnsweredObligation) (es : List (ObligationAt × Option ℕ)) → i + length es ≤ length xs → Wrote i xs es ys → (map answered_at (take (i + length es) ys) ≡ map answered_at (take i xs) ++ es) × (drop (i + length es) ys ≡ drop (i + length es) xs)
wrote_shows i xs ys [] l w =
    let none : i + 0 ≡ i = omega arith in
    (ap (λ k. map answered_at (take k ys)) none ∙ ap (λ zs. map answered_at (take i zs)) w ∙ sym (append-nil (map answered_at (take i xs))), ap (drop (i + 0)) w)
wrote_shows i xs ys (e ∷ es) l w =
    let on : i + suc (length es) ≡ i + 1 + length es = omega arith in
    let rest = wrote_shows (i + 1) (set xs i w.0) ys es (omega (arith, length-set xs i w.0)) w.1.1 in (
      ap (λ k. map answered_at (take k ys)) on ∙ rest.0 ∙ ap (λ zs. map answered_at zs ++ es) (take_more_set xs i w.0 (omega arith)) ∙ ap (λ zs. zs ++ es) (map-append answered_at (take i xs) (w.0 ∷ [])) ∙ append_assoc (map answered_at (take i xs)) (answered_at w.0 ∷ []) es ∙ ap (λ v. map answered_at (take i xs) ++ v ∷ es) w.1.0,
      ap (λ k. drop k ys) on ∙ rest.1 ∙ drop_past xs i (i + 1 + length es) w.0 (omega arith) ∙ ap (λ k. drop k xs) (sym on),
    )

-- both sides, one behind the other
pub both_listed : (n k : Meaning) (R there back : PlaceRelation) → there ≡ between n k R → back ≡ turned (between n k R) → (total middle last : ℕ) (before half after : List AnsweredObligation) → total ≡ length (obligations_below Left n k there n.transitions) + length (obligations_below Right k n back k.transitions) → total ≤ length before → middle ≡ 0 + length (obligations_below Left n k there n.transitions) → WroteBelow Left n k there 0 before (obligations_below Left n k there n.transitions) half → WroteBelow Right k n back middle half (obligations_below Right k n back k.transitions) after → ListsAnswers n k R before (Ok total) after
both_listed n k R there back forth turns total middle last before half after e room m a b =
    let f = answer_to n k (between n k R) in
    let lefts = obligations_below Left n k (between n k R) n.transitions in
    let rights = obligations_below Right k n (turned (between n k R)) k.transitions in
    let first = subst (λ S. WroteBelow Left n k S 0 before (obligations_below Left n k S n.transitions) half) forth a f (λ t zs. refl) in
    let second = subst (λ S. WroteBelow Right k n S middle half (obligations_below Right k n S k.transitions) after) turns b f (λ t zs. refl) in
    let left-many = ap (λ S. length (obligations_below Left n k S n.transitions)) forth in
    let right-many = ap (λ S. length (obligations_below Right k n S k.transitions)) turns in
    let from : middle ≡ 0 + length (with_answers f lefts) = omega (arith, m, left-many, length-map {B = ObligationAt × Option ℕ} lefts (λ o. (o, f o))) in
    let whole = subst (λ es. Wrote 0 before es after) (sym (map-append {B = ObligationAt × Option ℕ} (λ o. (o, f o)) lefts rights)) (wrote_on 0 before half after (with_answers f lefts) (with_answers f rights) first (subst (λ i. Wrote i half (with_answers f rights) after) from second)) in
    let count : total ≡ length (obligations n k (between n k R)) = omega (arith, e, left-many, right-many, length-append lefts rights) in
    let entries : 0 + length (with_answers f (obligations n k (between n k R))) ≡ total = omega (arith, count, length-map {B = ObligationAt × Option ℕ} (obligations n k (between n k R)) (λ o. (o, f o))) in
    let shows = wrote_shows 0 before after (with_answers f (obligations n k (between n k R))) (omega arith) whole in
    (count, ap (λ i. map answered_at (take i after)) (sym entries) ∙ shows.0, ap (λ i. drop i after) (sym entries) ∙ shows.1 ∙ ap (λ i. drop i before) entries, wrote_long 0 before after (with_answers f (obligations n k (between n k R))) whole)

pub too_few : (n k : Meaning) (R there back : PlaceRelation) → there ≡ between n k R → back ≡ turned (between n k R) → (total : ℕ) (before : List AnsweredObligation) → total ≡ length (obligations_below Left n k there n.transitions) + length (obligations_below Right k n back k.transitions) → length before < total → ListsAnswers n k R before (Err TooFew) before
too_few n k R there back forth turns total before e less = (
  omega (arith, e, ap (λ S. length (obligations_below Left n k S n.transitions)) forth, ap (λ S. length (obligations_below Right k n S k.transitions)) turns, length-append (obligations_below Left n k (between n k R) n.transitions) (obligations_below Right k n (turned (between n k R)) k.transitions)),
  refl,
)
