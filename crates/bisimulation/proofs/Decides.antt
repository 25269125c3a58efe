-- Every obligation has an answer exactly when the relation is a place bisimulation.
use Rattle.std.proofs.Common.{◌≡◌, ℕ, true, sym, refl, ◌∙◌, inl, inr, arith}
use Rattle.std.proofs.lemmas.Bool.{cases_eq}
use Rattle.places.specs.Bags.{Bag}
use Rattle.places.specs.Sets.{PlaceRelation, turned}
use Rattle.pairing.specs.Closure.{Closure}
use Rattle.pairing.specs.Laws.{turned_closure, moved, partner, emptied, choose}
use Rattle.nets.specs.Meaning.{Meaning}
use Rattle.nets.specs.Firing.{pre_set, Enabled}
use Rattle.bisimulation.specs.Bisimulation.{between, Alike, Matches, Bisimulation}
use Rattle.bisimulation.specs.Obligations.{Obligation, Answer, AllAnswered, Answered}
use Rattle.bisimulation.specs.Theorems.{AnswersDecide}

-- one side of a bisimulation
abbrev pub Follows : Meaning → Meaning → PlaceRelation → Type 0
Follows mover other R = (m l : Bag) → Closure R m l → (t : ℕ) → Enabled mover m t → (u : ℕ) × (Enabled other l u × Matches mover other R m l t u)

-- a token on an inhibitor of u would have its partner on an inhibitor of t
answer_free : {n : Meaning} (k : Meaning) {R : PlaceRelation} {m l : Bag} (t u : ℕ) → Closure R m l → Enabled n m t → Alike n k R t u → (q : ℕ) → k.inhibits u q ≡ true → l q ≡ 0
answer_free k {R} {m} {l} t u c e a q i = elim (cases_eq (l q) 0) [
  | inl z ↦ z
  | inr z ↦ (
      let x = partner c q (omega arith) in
      let none-there = e.free x.0 (a x.0 q x.1.0 ∙ i) in
      absurd (omega arith)
      )
]

pub follows_answers : {n k : Meaning} {R : PlaceRelation} → AllAnswered n k R → Follows n k R
follows_answers {n} {k} {R} all m l c t e =
    let x = choose c (pre_set n t) e.held in
    let o : Obligation n R t x.bag = record {
      there = e.there;
      unblocked = λ s. omega (arith, e.held s.0, e.free s.0 s.1.1);
      related = x.taken;
    } in
    let r = all t x.bag o in
    let u = r.0 in
    let a = r.1 in (
      u,
      (
        record { there = a.there; held = λ q. omega (arith, a.takes q, x.held q); free = answer_free k t u c e a.alike },
        record {
          labels = a.label;
          pre_sets = moved (λ p. refl) (λ q. sym (a.takes q)) x.taken;
          post_sets = a.gives;
          rests = moved (λ p. refl) (λ q. omega (arith, a.takes q)) x.rest;
          inhibitors = a.alike;
        },
      ),
    )

-- t is enabled at what it takes
pub own_enabled : {n : Meaning} {R : PlaceRelation} {t : ℕ} {bag : Bag} → Obligation n R t bag → Enabled n (pre_set n t) t
own_enabled {n} {R} {t} o = record {
  there = o.there;
  held = λ p. omega arith;
  free = λ p i. elim (cases_eq (pre_set n t p) 0) [ inl z ↦ z | inr z ↦ absurd (o.unblocked (p, (omega arith, i))) ];
}

-- at its own pre-set, what matches it answers it
pub answer_from : {n k : Meaning} {R : PlaceRelation} {t u : ℕ} {bag : Bag} → Obligation n R t bag → Enabled k bag u → Matches n k R (pre_set n t) bag t u → Answer n k R t bag u
answer_from o at g = record {
  there = at.there;
  takes = λ q. omega (arith, at.held q, emptied g.rests (λ p. omega arith) q);
  label = g.labels;
  gives = g.post_sets;
  alike = g.inhibitors;
}

answers_follow : {n k : Meaning} {R : PlaceRelation} → Follows n k R → AllAnswered n k R
answers_follow {n} {k} {R} f t bag o = let r = f (pre_set n t) bag o.related t (own_enabled o) in (r.0, answer_from o r.1.0 r.1.1)

pub turned_match : {n k : Meaning} {R : PlaceRelation} {m l : Bag} {t u : ℕ} → Matches n k R m l t u → Matches k n (turned R) l m u t
turned_match g = record { pre_sets = turned_closure g.pre_sets; post_sets = turned_closure g.post_sets; labels = sym g.labels; rests = turned_closure g.rests; inhibitors = λ q p h. sym (g.inhibitors p q h) }

both : (n k : Meaning) (R : PlaceRelation) → Answered n k R → Bisimulation n k R
both n k R a = record {
  from_left = follows_answers a.lefts;
  from_right = λ m l c u e. let r = follows_answers a.rights l m (turned_closure c) u e in (r.0, (r.1.0, turned_match r.1.1));
}

back : (n k : Meaning) (R : PlaceRelation) → Bisimulation n k R → Answered n k R
back n k R b = record {
  lefts = answers_follow b.from_left;
  rights = answers_follow (λ l m c u e. let r = b.from_right m l (turned_closure c) u e in (r.0, (r.1.0, turned_match r.1.1)));
}

pub decides : AnswersDecide
decides n k R = (both n k (between n k R), back n k (between n k R))
