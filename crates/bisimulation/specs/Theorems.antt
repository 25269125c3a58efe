-- What is proved of obligations, lists and the verdict. Assumes nothing.
use Rattle.std.specs.Prelude.{◌≡◌, ℕ, Bool, true, false, cond, ◌||◌, ◌↔◌, List, length, Option}
use Rattle.places.specs.Bags.{Bag}
use Rattle.places.specs.Sets.{PlaceRelation, turned}
use Rattle.places.specs.declared.Side.{Side}
use Rattle.places.specs.declared.Side.TheVariants.{Left, Right}
use Rattle.pairing.specs.Closure.{Closure}
use Rattle.nets.specs.Meaning.{Meaning, Limits}
use Rattle.nets.specs.Firing.{pre_set, Enabled}
use Rattle.bisimulation.specs.Bisimulation.{between, Matches, Bisimulation}
use Rattle.bisimulation.specs.Obligations.{Given, Answered}
use Rattle.bisimulation.specs.Lists.{tokens_of, related_lists, lists, times, ascends, Ordered}
use Rattle.bisimulation.specs.Verdicts.{answer_on, ObligationAt, Verdict, accepted, refused, verdict_of}

-- every obligation has an answer exactly when the relation is a place bisimulation
abbrev pub AnswersDecide : Type 0
AnswersDecide = (n k : Meaning) (R : PlaceRelation) → Answered n k (between n k R) ↔ Bisimulation n k (between n k R)

-- the test on lists tells whether the closure relates their bags
abbrev pub ListsTested : Type 0
ListsTested = (R : PlaceRelation) (xs ys : List ℕ) → (related_lists R xs ys ≡ true) ↔ Closure R (tokens_of xs) (tokens_of ys)

-- among the lists that are gone through, each ascending list occurs exactly once, and nothing else occurs
abbrev pub ListedOnce : Type 0
ListedOnce = (places size : ℕ) (xs : List ℕ) → times xs (lists places size) ≡ cond (ascends 0 places size xs) 1 0

-- and they stand in dictionary order
abbrev pub ListedInOrder : Type 0
ListedInOrder = (places size : ℕ) → Ordered (lists places size)

abbrev pub is_accepted : Verdict → Bool
is_accepted (accepted count) = true
is_accepted (refused o) = false

-- the verdict accepts a relation exactly when it is, without its absent pairs, a place bisimulation
abbrev pub AcceptedExactly : Type 0
AcceptedExactly = (n k : Meaning) (R : PlaceRelation) → Limits n → Limits k → (is_accepted (verdict_of n k R) ≡ true) ↔ Bisimulation n k (between n k R)

-- an obligation that breaks the place bisimulation: laid out as its pre-set against its bag, the two markings are
-- related, its transition is enabled, and no transition of the other side that is enabled matches it
pub record BreaksFromLeft (n k : Meaning) (R : PlaceRelation) (t : ℕ) (bag : Bag) : Type 0 where
  pub related : Closure R (pre_set n t) bag
  pub enabled : Enabled n (pre_set n t) t
  pub unmatched : (u : ℕ) → Enabled k bag u → Matches n k R (pre_set n t) bag t u → ⊥

pub record BreaksFromRight (n k : Meaning) (R : PlaceRelation) (t : ℕ) (bag : Bag) : Type 0 where
  pub related : Closure R bag (pre_set k t)
  pub enabled : Enabled k (pre_set k t) t
  pub unmatched : (u : ℕ) → Enabled n bag u → Matches n k R bag (pre_set k t) u t → ⊥

abbrev pub Breaks : Meaning → Meaning → PlaceRelation → Side → ℕ → Bag → Type 0
Breaks n k R Left t bag = BreaksFromLeft n k R t bag
Breaks n k R Right t bag = BreaksFromRight n k R t bag

-- the obligation with which a relation is refused breaks it
abbrev pub RefusedBreaks : Type 0
RefusedBreaks = (n k : Meaning) (R : PlaceRelation) (o : ObligationAt) → Limits n → Limits k → verdict_of n k R ≡ refused o → Breaks n k (between n k R) o.side o.transition (tokens_of o.bag)

-- the answer that is given on a side
abbrev pub GivenOn : Meaning → Meaning → PlaceRelation → Side → ℕ → Bag → Option ℕ → Type 0
GivenOn n k R Left t bag r = Given n k R t bag r
GivenOn n k R Right t bag r = Given k n (turned R) t bag r

-- the answer that is computed for an ascending list is the one that is given for its bag
abbrev pub AnswerGiven : Type 0
AnswerGiven = (n k : Meaning) (R : PlaceRelation) (side : Side) (t : ℕ) (ys : List ℕ) → Limits n → Limits k → ascends 0 16 (length ys) ys ≡ true → GivenOn n k (between n k R) side t (tokens_of ys) (answer_on n k (between n k R) side t ys)

-- the union of two relations
abbrev pub either : PlaceRelation → PlaceRelation → PlaceRelation
either R S p q = R p q || S p q

-- two relations that are accepted, and a union that is not
pub record UnionFails : Type 0 where
  pub net : Meaning
  pub limits : Limits net
  pub one : PlaceRelation
  pub other : PlaceRelation
  pub one_holds : Bisimulation net net (between net net one)
  pub other_holds : Bisimulation net net (between net net other)
  pub union_fails : Bisimulation net net (between net net (either one other)) → ⊥
