-- Entries that were written one after another.
use Rattle.std.proofs.Common.{◌≡◌, ℕ, suc, ◌+◌, true, List, [], ◌∷◌, ◌++◌, length, set, Option, sym, refl, ap, ◌∙◌, subst, arith}
use Rattle.std.proofs.lemmas.List.{length-set}
use Rattle.bisimulation.specs.Verdicts.{obliges, answers, lowest_below, ObligationAt}
use Rattle.verdict.specs.Results.{at, obligation_at, Wrote}
use Rattle.verdict.specs.Entries.{entry}
use Rattle.verdict.specs.Search.{mover_of, other_of, related_by}
use Rattle.verdict.specs.declared.obligation.Obligation.{Obligation}
use Rattle.verdict.specs.declared.job.Job.{Job}
use Rattle.verdict.specs.declared.obligation.AnsweredObligation.{AnsweredObligation}
use Rattle.verdict.proofs.Walks.{answer_is}

pub wrote_on : (i : ℕ) (xs ys zs : List AnsweredObligation) (es fs : List (ObligationAt × Option ℕ)) → Wrote i xs es ys → Wrote (i + length es) ys fs zs → Wrote i xs (es ++ fs) zs
wrote_on i xs ys zs [] fs a b = let none : i + 0 ≡ i = omega arith in subst (λ k. Wrote k xs fs zs) none (subst (λ l. Wrote (i + 0) l fs zs) a b)
wrote_on i xs ys zs (e ∷ es) fs a b = let on : i + suc (length es) ≡ i + 1 + length es = omega arith in (a.0, (a.1.0, wrote_on (i + 1) (set xs i a.0) ys zs es fs a.1.1 (subst (λ k. Wrote k ys fs zs) on b)))

pub wrote_one : (j : Job) (i : ℕ) (ys : List ℕ) (o : Obligation) (r : Option ℕ) (xs : List AnsweredObligation) → obliges (mover_of j) (related_by j) j.t ys ≡ true → obligation_at o ≡ at j.half.now.side j.t ys → r ≡ lowest_below (answers (mover_of j) (other_of j) (related_by j) j.t ys) (other_of j).transitions → Wrote i xs (entry j ys ∷ []) (set xs i (record { obligation = o; answer = r }))
wrote_one j i ys o r xs known e h = (
  record { obligation = o; answer = r },
  (ap (λ w. (w, r)) e ∙ ap (λ v. (at j.half.now.side j.t ys, v)) (sym (answer_is (mover_of j) (other_of j) (related_by j) j.t ys r known h)), refl),
)

-- the length stays
pub wrote_long : (i : ℕ) (xs ys : List AnsweredObligation) (es : List (ObligationAt × Option ℕ)) → Wrote i xs es ys → length ys ≡ length xs
wrote_long i xs ys [] w = ap length w
wrote_long i xs ys (e ∷ es) w = wrote_long (i + 1) (set xs i w.0) ys es w.1.1 ∙ length-set xs i w.0
