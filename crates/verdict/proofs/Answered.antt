-- The answer to a bag.
use Rattle.std.proofs.Common.{◌≡◌, ℕ, ◌<◌, ◌≤◌, false, not, ◌&&◌, ltb, length, None, Option, sym, subst, inl, inr, arith}
use mathlib.Core.Path.{fun_ext}
use Rattle.std.proofs.lemmas.Bool.{cases_Bool, cond-false, and_right}
use Rattle.places.specs.Bags.{Bag}
use Rattle.places.specs.Sets.{PlaceRelation, tokens_below, size, Placed}
use Rattle.places.specs.declared.Side.{Side}
use Rattle.nets.specs.Meaning.{Meaning, Limits}
use Rattle.bisimulation.specs.Bisimulation.{between}
use Rattle.bisimulation.specs.Lists.{list_of, related_lists}
use Rattle.bisimulation.specs.Related.{tests}
use Rattle.bisimulation.specs.Spelled.{spelled, list_ascends, one_length}
use Rattle.bisimulation.specs.Verdicts.{takes, self_blocked, obliges, answers, lowest_below, answer_for, answer_on}
use Rattle.bisimulation.specs.Theorems.{GivenOn, AnswerGiven}
use Rattle.verdict.specs.Results.{Answers}
use Rattle.verdict.proofs.Flows.{list_length}

-- a bag of more than four tokens is related to no pre-set
pub too_large : (mover other : Meaning) (R : PlaceRelation) (t : ℕ) (bag : Bag) → length (takes mover t) ≤ 4 → 4 < size bag → None ≡ answer_for mover other R t (list_of 16 bag)
unfolding list_of tokens_below
too_large mover other R t bag few large = sym (cond-false (obliges mover R t (list_of 16 bag)) (lowest_below (answers mover other R t (list_of 16 bag)) other.transitions) None (and_right (ltb t mover.transitions) (not (self_blocked mover t) && related_lists R (takes mover t) (list_of 16 bag)) (and_right (not (self_blocked mover t)) (related_lists R (takes mover t) (list_of 16 bag)) apart)))
  where
    apart : related_lists R (takes mover t) (list_of 16 bag) ≡ false
    apart = elim (cases_Bool (related_lists R (takes mover t) (list_of 16 bag))) [
      | inl e ↦ absurd (omega (arith, one_length (takes mover t) (list_of 16 bag) ((tests R (takes mover t) (list_of 16 bag)).0 e), list_length 16 0 bag))
      | inr e ↦ e
    ]

-- what the value says in words
pub answer_says : (n k : Meaning) (R : PlaceRelation) (side : Side) (t : ℕ) (bag : Bag) (r : Option ℕ) → AnswerGiven → Limits n → Limits k → Placed bag → r ≡ answer_on n k (between n k R) side t (list_of 16 bag) → Answers n k R side t bag r
unfolding list_of
answer_says n k R side t bag r given ln lk placed e = record {
  value = e;
  given = subst (GivenOn n k (between n k R) side t bag) (sym e) (subst (λ m. GivenOn n k (between n k R) side t m (answer_on n k (between n k R) side t (list_of 16 bag))) (fun_ext (spelled 16 bag placed)) (given n k R side t (list_of 16 bag) ln lk (list_ascends 16 0 16 bag (omega arith))));
}
