-- The verdict accepts exactly the place bisimulations; the obligation with which it refuses breaks one.
use Rattle.std.proofs.Common.{◌≡◌, ℕ, ◌<◌, true, ◌⊎◌, ◌↔◌, List, length, Some, None, Option, sym, refl, ap, ◌∙◌, subst, inl, inr, arith}
use Rattle.std.proofs.lemmas.Bool.{false≢true}
use Rattle.places.specs.Bags.{Bag}
use Rattle.places.specs.Sets.{PlaceRelation, turned}
use Rattle.places.specs.declared.Side.TheVariants.{Left, Right}
use Rattle.pairing.specs.Laws.{turned_closure, moved}
use Rattle.nets.specs.Meaning.{Meaning, Limits}
use Rattle.bisimulation.specs.Bisimulation.{between, Bisimulation}
use Rattle.bisimulation.specs.Obligations.{Obligation, Answer, Given, AllAnswered, Answered}
use Rattle.bisimulation.specs.Lists.{tokens_of, list_of, lists, ascends}
use Rattle.bisimulation.specs.Verdicts.{takes, obliges, answer_for, bags_for, ObligationAt, obligations_below, obligations, answer_to, first_open, judged, refused, verdict_of}
use Rattle.bisimulation.specs.Theorems.{is_accepted, AcceptedExactly, BreaksFromLeft, BreaksFromRight, Breaks, RefusedBreaks, AnswerGiven}
use Rattle.bisimulation.proofs.Among.{In, in_left, in_right, in_either, in_keep, keep_in, first_in, all_answered, none_open}
use Rattle.bisimulation.proofs.Decides.{decides, own_enabled, answer_from, turned_match}
use Rattle.bisimulation.specs.Spelled.{spelled, list_ascends, one_length, ascends_size, ascends_up}
use Rattle.bisimulation.proofs.Listed.{Bounded, bounded_between, bounded_turned, beyond, takes_are, obliged, obliging, given, among, among_ascends, in_obligations, From, obligations_in}

-- what an obligation says of a list among those gone through
record Listed (mover other : Meaning) (R : PlaceRelation) (t : ℕ) (ys : List ℕ) : Type 0 where
  obligation : Obligation mover R t (tokens_of ys)
  answer_is : Given mover other R t (tokens_of ys) (answer_for mover other R t ys)

listed : (mover other : Meaning) (R : PlaceRelation) (t : ℕ) (ys : List ℕ) → Limits mover → Limits other → Bounded mover.places other.places R → In ys (bags_for mover other R t) → Listed mover other R t ys
listed mover other R t ys lm lo b i =
    let kept = keep_in (obliges mover R t) ys (lists other.places (length (takes mover t))) i in
    let up = among_ascends other.places (length (takes mover t)) ys kept.0 in
    record {
      obligation = obliged mover R t ys lm kept.1;
      answer_is = given mover other R t ys lm lo b (ascends_up 0 other.places 16 ys lo.few_places (ascends_size 0 other.places (length (takes mover t)) ys up));
    }

-- each obligation is among the bags of its transition
found : (mover other : Meaning) (R : PlaceRelation) (t : ℕ) (bag : Bag) → Limits mover → Bounded mover.places other.places R → Obligation mover R t bag → In (list_of other.places bag) (bags_for mover other R t)
unfolding list_of
found mover other R t bag lm b o = in_keep (obliges mover R t) ys (lists other.places (length (takes mover t))) (among other.places (length (takes mover t)) ys up) (obliging mover R t ys lm laid)
  where
    ys : List ℕ
    ys = list_of other.places bag

    same : (q : ℕ) → tokens_of (list_of other.places bag) q ≡ bag q
    same = spelled other.places bag (beyond b o.related)

    laid : Obligation mover R t (tokens_of (list_of other.places bag))
    laid = record { there = o.there; unblocked = o.unblocked; related = moved (λ p. refl) (λ q. sym (same q)) o.related }

    long : length (takes mover t) ≡ length (list_of other.places bag)
    long = one_length (takes mover t) (list_of other.places bag) (moved (λ p. sym (takes_are mover t lm p)) (λ q. sym (same q)) o.related)

    up : ascends 0 other.places (length (takes mover t)) (list_of other.places bag) ≡ true
    up = subst (λ k. ascends 0 other.places k (list_of other.places bag) ≡ true) (sym long) (list_ascends other.places 0 other.places bag (omega arith))

-- an answer for the list is one for the bag
for_bag : {mover other : Meaning} {R : PlaceRelation} {t u : ℕ} (bag laid : Bag) → ((q : ℕ) → laid q ≡ bag q) → Answer mover other R t laid u → Answer mover other R t bag u
for_bag bag laid same a = record { there = a.there; takes = λ q. a.takes q ∙ same q; label = a.label; gives = a.gives; alike = a.alike }

some_given : {mover other : Meaning} {R : PlaceRelation} {t : ℕ} {bag : Bag} (r : Option ℕ) {u : ℕ} → r ≡ Some u → Given mover other R t bag r → Answer mover other R t bag u
some_given {mover} {other} {R} {t} {bag} (Some v) e g = subst (Answer mover other R t bag) (same e) g.1
  where
    same : {v u : ℕ} → ◌≡◌ {A = Option ℕ} (Some v) (Some u) → v ≡ u
    same h = cc
some_given None e g = absurd (let z : ◌≡◌ {A = ℕ} 0 1 = cc in omega arith)

none_given : {mover other : Meaning} {R : PlaceRelation} {t : ℕ} {bag : Bag} (r : Option ℕ) → r ≡ None → Given mover other R t bag r → Obligation mover R t bag → (u : ℕ) → Answer mover other R t bag u → ⊥
none_given None e g = g
none_given (Some v) e g = absurd (let z : ◌≡◌ {A = ℕ} 0 1 = cc in omega arith)

-- from the answers on lists to those on bags
answers_all : (mover other : Meaning) (R : PlaceRelation) → Limits mover → Limits other → Bounded mover.places other.places R → ((t : ℕ) (ys : List ℕ) → t < mover.transitions → In ys (bags_for mover other R t) → (u : ℕ) × (answer_for mover other R t ys ≡ Some u)) → AllAnswered mover other R
answers_all mover other R lm lo b all t bag o =
    let i = found mover other R t bag lm b o in
    let ys = list_of other.places bag in
    let r = all t ys o.there i in
    let l = listed mover other R t ys lm lo b i in
    (r.0, for_bag bag (tokens_of ys) (spelled other.places bag (beyond b o.related)) (some_given (answer_for mover other R t ys) r.1 l.answer_is))

-- and back
all_answers : (mover other : Meaning) (R : PlaceRelation) → Limits mover → Limits other → Bounded mover.places other.places R → AllAnswered mover other R → (t : ℕ) (ys : List ℕ) → In ys (bags_for mover other R t) → (u : ℕ) × (answer_for mover other R t ys ≡ Some u)
all_answers mover other R lm lo b all t ys i =
    let l = listed mover other R t ys lm lo b i in
    let a = all t (tokens_of ys) l.obligation in
    some (answer_for mover other R t ys) refl l.answer_is l.obligation a.0 a.1
  where
    some : (r : Option ℕ) → answer_for mover other R t ys ≡ r → Given mover other R t (tokens_of ys) r → Obligation mover R t (tokens_of ys) → (u : ℕ) → Answer mover other R t (tokens_of ys) u → (u : ℕ) × (answer_for mover other R t ys ≡ Some u)
    some (Some v) e g o u a = (v, e)
    some None e g o u a = absurd (g o u a)

module _ (n k : Meaning) (R : PlaceRelation) (ln : Limits n) (lk : Limits k) where
  bounds : Bounded n.places k.places (between n k R)
  bounds = bounded_between n k R

  left_in : (t : ℕ) (ys : List ℕ) → t < n.transitions → In ys (bags_for n k (between n k R) t) → In (record { side = Left; transition = t; bag = ys }) (obligations n k (between n k R))
  left_in t ys l i = in_left (record { side = Left; transition = t; bag = ys }) (obligations_below Left n k (between n k R) n.transitions) (obligations_below Right k n (turned (between n k R)) k.transitions) (in_obligations Left n k (between n k R) n.transitions t ys l i)

  right_in : (t : ℕ) (ys : List ℕ) → t < k.transitions → In ys (bags_for k n (turned (between n k R)) t) → In (record { side = Right; transition = t; bag = ys }) (obligations n k (between n k R))
  right_in t ys l i = in_right (record { side = Right; transition = t; bag = ys }) (obligations_below Left n k (between n k R) n.transitions) (obligations_below Right k n (turned (between n k R)) k.transitions) (in_obligations Right k n (turned (between n k R)) k.transitions t ys l i)

  -- an obligation of the list is one of its side
  sided : (o : ObligationAt) → In o (obligations n k (between n k R)) → From Left n k (between n k R) n.transitions o ⊎ From Right k n (turned (between n k R)) k.transitions o
  sided o i = elim (in_either o (obligations_below Left n k (between n k R) n.transitions) (obligations_below Right k n (turned (between n k R)) k.transitions) i) [
    | inl a ↦ inl (obligations_in Left n k (between n k R) n.transitions o a)
    | inr b ↦ inr (obligations_in Right k n (turned (between n k R)) k.transitions o b)
  ]

  answered : first_open (answer_to n k (between n k R)) (obligations n k (between n k R)) ≡ None → Answered n k (between n k R)
  answered e = record {
    lefts = answers_all n k (between n k R) ln lk bounds (λ t ys l i. all_answered (answer_to n k (between n k R)) (obligations n k (between n k R)) e (record { side = Left; transition = t; bag = ys }) (left_in t ys l i));
    rights = answers_all k n (turned (between n k R)) lk ln (bounded_turned bounds) (λ t ys l i. all_answered (answer_to n k (between n k R)) (obligations n k (between n k R)) e (record { side = Right; transition = t; bag = ys }) (right_in t ys l i));
  }

  unopened : Answered n k (between n k R) → first_open (answer_to n k (between n k R)) (obligations n k (between n k R)) ≡ None
  unopened a = none_open (answer_to n k (between n k R)) (obligations n k (between n k R)) (λ o i. each o (sided o i))
    where
      each : (o : ObligationAt) → From Left n k (between n k R) n.transitions o ⊎ From Right k n (turned (between n k R)) k.transitions o → (u : ℕ) × (answer_to n k (between n k R) o ≡ Some u)
      each o (inl f) =
          let r = all_answers n k (between n k R) ln lk bounds a.lefts o.transition o.bag f.bag_in in
          (r.0, ap (λ s. answer_to n k (between n k R) (record { side = s; transition = o.transition; bag = o.bag })) f.on_side ∙ r.1)
      each o (inr f) =
          let r = all_answers k n (turned (between n k R)) lk ln (bounded_turned bounds) a.rights o.transition o.bag f.bag_in in
          (r.0, ap (λ s. answer_to n k (between n k R) (record { side = s; transition = o.transition; bag = o.bag })) f.on_side ∙ r.1)

  accepts : (is_accepted (verdict_of n k R) ≡ true) ↔ Bisimulation n k (between n k R)
  accepts = (
    λ e. (decides n k R).0 (answered (none (first_open (answer_to n k (between n k R)) (obligations n k (between n k R))) e)),
    λ b. ap (λ r. is_accepted (judged (obligations n k (between n k R)) r)) (unopened ((decides n k R).1 b)),
  )
    where
      none : (r : Option ObligationAt) → is_accepted (judged (obligations n k (between n k R)) r) ≡ true → r ≡ None
      none None e = refl
      none (Some o) e = absurd (false≢true e)

  -- an obligation without an answer breaks it
  left_breaks : (t : ℕ) (ys : List ℕ) → In ys (bags_for n k (between n k R) t) → answer_for n k (between n k R) t ys ≡ None → BreaksFromLeft n k (between n k R) t (tokens_of ys)
  left_breaks t ys i e =
      let l = listed n k (between n k R) t ys ln lk bounds i in
      let o = l.obligation in
      record {
        related = o.related;
        enabled = own_enabled o;
        unmatched = λ u at m. none_given (answer_for n k (between n k R) t ys) e l.answer_is o u (answer_from o at m);
      }

  right_breaks : (t : ℕ) (ys : List ℕ) → In ys (bags_for k n (turned (between n k R)) t) → answer_for k n (turned (between n k R)) t ys ≡ None → BreaksFromRight n k (between n k R) t (tokens_of ys)
  right_breaks t ys i e =
      let l = listed k n (turned (between n k R)) t ys lk ln (bounded_turned bounds) i in
      let o = l.obligation in
      record {
        related = turned_closure o.related;
        enabled = own_enabled o;
        unmatched = λ u at m. none_given (answer_for k n (turned (between n k R)) t ys) e l.answer_is o u (answer_from o at (turned_match m));
      }

  breaks : (o : ObligationAt) → verdict_of n k R ≡ refused o → Breaks n k (between n k R) o.side o.transition (tokens_of o.bag)
  breaks o e =
      let opens = some (first_open (answer_to n k (between n k R)) (obligations n k (between n k R))) e in
      let w = first_in (answer_to n k (between n k R)) o (obligations n k (between n k R)) opens in
      from (sided o w.0) w.1
    where
      some : (r : Option ObligationAt) → judged (obligations n k (between n k R)) r ≡ refused o → r ≡ Some o
      some None h = absurd (let z : ◌≡◌ {A = ℕ} 0 1 = cc in omega arith)
      some (Some x) h = let same : x ≡ o = cc in ap Some same

      from : From Left n k (between n k R) n.transitions o ⊎ From Right k n (turned (between n k R)) k.transitions o → answer_to n k (between n k R) o ≡ None → Breaks n k (between n k R) o.side o.transition (tokens_of o.bag)
      from (inl f) h = subst (λ s. Breaks n k (between n k R) s o.transition (tokens_of o.bag)) (sym f.on_side) (left_breaks o.transition o.bag f.bag_in (ap (λ s. answer_to n k (between n k R) (record { side = s; transition = o.transition; bag = o.bag })) (sym f.on_side) ∙ h))
      from (inr f) h = subst (λ s. Breaks n k (between n k R) s o.transition (tokens_of o.bag)) (sym f.on_side) (right_breaks o.transition o.bag f.bag_in (ap (λ s. answer_to n k (between n k R) (record { side = s; transition = o.transition; bag = o.bag })) (sym f.on_side) ∙ h))

pub accepted_exactly : AcceptedExactly
accepted_exactly n k R ln lk = accepts n k R ln lk

pub refused_breaks : RefusedBreaks
refused_breaks n k R o ln lk e = breaks n k R ln lk o e

pub answer_given : AnswerGiven
answer_given n k R Left t ys ln lk up = given n k (between n k R) t ys ln lk (bounded_between n k R) up
answer_given n k R Right t ys ln lk up = given k n (turned (between n k R)) t ys lk ln (bounded_turned (bounded_between n k R)) up
