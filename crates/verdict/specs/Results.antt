-- The results of the verdict: what they mean, and the numbers of the refusals. Assumes nothing.
use Rattle.std.specs.Prelude.{◌≡◌, ℕ, ◌+◌, ◌<◌, true, ◌↔◌, List, [], ◌∷◌, map, length, take, drop, is_ok, Some, None, Ok, Err, Option, Result, slice_set}
use Rattle.places.specs.Bags.{Bag}
use Rattle.places.specs.Sets.{PlaceRelation}
use Rattle.places.specs.declared.Side.{Side}
use Rattle.places.specs.declared.Side.TheVariants.{Left}
use Rattle.nets.specs.Meaning.{Meaning}
use Rattle.bisimulation.specs.Bisimulation.{between, Bisimulation}
use Rattle.bisimulation.specs.Lists.{tokens_of, list_of}
use Rattle.bisimulation.specs.Verdicts.{answer_for, answer_on, obligations, answer_to, ObligationAt, first_open, Verdict, accepted, refused, verdict_of}
use Rattle.bisimulation.specs.Theorems.{Breaks, GivenOn}
use Rattle.verdict.specs.PlaceLists.{places_in}
use Rattle.verdict.specs.declared.obligation.Obligation.{Obligation}
use Rattle.verdict.specs.declared.obligation.AnsweredObligation.{AnsweredObligation}
use Rattle.verdict.specs.declared.obligation.ListRefusal.{ListRefusal}
use Rattle.verdict.specs.declared.obligation.ListRefusal.TheVariants.{TooFew}
use Rattle.verdict.specs.declared.obligation.VerdictRefusal.{VerdictRefusal}
use Rattle.verdict.specs.declared.obligation.VerdictRefusal.TheVariants.{Unsound}

-- what an obligation of the code means
abbrev pub obligation_at : Obligation → ObligationAt
obligation_at o = record { side = o.side; transition = o.transition; bag = places_in o.bag }

-- what an obligation with its answer means
abbrev pub answered_at : AnsweredObligation → ObligationAt × Option ℕ
answered_at a = (obligation_at a.obligation, a.answer)

-- an entry with nothing in it
abbrev pub blank_entry : ObligationAt × Option ℕ
blank_entry = (record { side = Left; transition = 0; bag = [] }, None)

abbrev pub verdict_number : VerdictRefusal → ℕ
verdict_number (Unsound o) = 34

-- the obligation that comes with a refusal
abbrev pub unsound_at : VerdictRefusal → ObligationAt
unsound_at (Unsound o) = obligation_at o

abbrev pub verdict_as : Result ℕ VerdictRefusal → Verdict
verdict_as (Ok count) = accepted count
verdict_as (Err refusal) = refused (unsound_at refusal)

-- where a relation is refused, the obligation shown breaks the place bisimulation
abbrev pub Shown : Meaning → Meaning → PlaceRelation → Result ℕ VerdictRefusal → Type 0
Shown n k R (Ok count) = Unit {0}
Shown n k R (Err refusal) = Breaks n k (between n k R) (unsound_at refusal).side (unsound_at refusal).transition (tokens_of (unsound_at refusal).bag)

-- what the verdict says: it is the one that is defined; it accepts exactly the place bisimulations; what it shows breaks one
pub record Judges (n k : Meaning) (R : PlaceRelation) (r : Result ℕ VerdictRefusal) : Type 0 where
  pub value : verdict_as r ≡ verdict_of n k R
  pub exact : (is_ok r ≡ true) ↔ Bisimulation n k (between n k R)
  pub shown : Shown n k R r

-- what an answer says: it is the one that is computed, and it is the lowest, or none where there is none or no obligation
pub record Answers (n k : Meaning) (R : PlaceRelation) (side : Side) (t : ℕ) (bag : Bag) (r : Option ℕ) : Type 0 where
  pub value : r ≡ answer_on n k (between n k R) side t (list_of 16 bag)
  pub given : GivenOn n k (between n k R) side t bag r

abbrev pub list_number : ListRefusal → ℕ
list_number TooFew = 21

-- an obligation of the transition t, by its list
abbrev pub at : Side → ℕ → List ℕ → ObligationAt
at side t ys = record { side = side; transition = t; bag = ys }

-- all obligations of a list have answers, and are counted; or the first that has none is given
abbrev pub SideJudged : (ObligationAt → Option ℕ) → ℕ → List ObligationAt → Result ℕ Obligation → Type 0
SideJudged f before all (Ok count) = (first_open f all ≡ None) × (count ≡ before + length all)
SideJudged f before all (Err o) = first_open f all ≡ Some (obligation_at o)

-- the same of every answering of the obligations of one side that gives the answers of the mover and the other net
abbrev pub JudgedBelow : Side → Meaning → Meaning → PlaceRelation → ℕ → List ObligationAt → Result ℕ Obligation → Type 0
JudgedBelow side mover other R before all r = (f : ObligationAt → Option ℕ) → ((t : ℕ) (ys : List ℕ) → f (at side t ys) ≡ answer_for mover other R t ys) → SideJudged f before all r

-- entries were written one after another, from the number i on, over the list xs
abbrev pub Wrote : ℕ → List AnsweredObligation → List (ObligationAt × Option ℕ) → List AnsweredObligation → Type 0
Wrote i xs [] ys = ys ≡ xs
Wrote i xs (e ∷ es) ys = (v : AnsweredObligation) × ((answered_at v ≡ e) × Wrote (i + 1) (slice_set xs i v) es ys)

-- each obligation with its answer
abbrev pub with_answers : (ObligationAt → Option ℕ) → List ObligationAt → List (ObligationAt × Option ℕ)
with_answers f all = map (λ o. (o, f o)) all

-- what the list of answers says: each obligation in order with its answer or none stands in front, and the entries
-- behind stay; or there are fewer entries than obligations, and all stay
abbrev pub ListsAnswers : Meaning → Meaning → PlaceRelation → List AnsweredObligation → Result ℕ ListRefusal → List AnsweredObligation → Type 0
ListsAnswers n k R before (Ok count) after =
    (count ≡ length (obligations n k (between n k R)))
    × (map answered_at (take count after) ≡ with_answers (answer_to n k (between n k R)) (obligations n k (between n k R)))
    × (drop count after ≡ drop count before)
    × (length after ≡ length before)
ListsAnswers n k R before (Err TooFew) after = (length before < length (obligations n k (between n k R))) × (after ≡ before)

-- entries were written for all of a list of obligations of one side, whatever answers them as the mover and the other net do
abbrev pub WroteBelow : Side → Meaning → Meaning → PlaceRelation → ℕ → List AnsweredObligation → List ObligationAt → List AnsweredObligation → Type 0
WroteBelow side mover other R i xs all ys = (f : ObligationAt → Option ℕ) → ((t : ℕ) (zs : List ℕ) → f (at side t zs) ≡ answer_for mover other R t zs) → Wrote i xs (with_answers f all) ys
