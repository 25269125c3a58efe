-- Going through the bags of the obligations of one transition.
use Rattle.std.proofs.Common.{◌≡◌, ℕ, zero, suc, ◌+◌, ◌-◌, ◌<◌, ◌≤◌, Bool, true, false, cond, not, ◌&&◌, ltb, ◌↔◌, List, [], ◌∷◌, ◌++◌, map, length, Some, None, Option, Ok, Err, Result, is_some, sym, refl, ap, ◌∙◌, subst, inl, inr, append_assoc, append-nil, add-one, sub-one, arith, length-append}
use Rattle.std.specs.Result.{IfOk, IsErrAnd}
use Rattle.std.proofs.lemmas.List.{map-append, length-map}
use Rattle.std.proofs.lemmas.Bool.{cases_Bool, cond-true, cond-false, and_parts, and_from, false≢true, lt-ltb, not_from_false}
use Rattle.places.specs.Sets.{PlaceRelation}
use Rattle.pairing.specs.Laws.{moved}
use Rattle.nets.specs.Meaning.{Meaning}
use Rattle.bisimulation.specs.Lists.{tokens_of, related_lists, lists_from}
use Rattle.bisimulation.specs.Laws.{open_or}
use Rattle.bisimulation.specs.Verdicts.{keep, takes, self_blocked, obliges, answers, lowest_below, answer_for, first_open}
use Rattle.bisimulation.specs.Related.{tests}
use Rattle.bisimulation.specs.Spelled.{one_length}
use Rattle.verdict.specs.PlaceLists.{places_in}
use Rattle.verdict.specs.ShortLists.{listed}
use Rattle.verdict.specs.Search.{AllFrom, Completes, bags_after, Passed, mover_of, related_by}
use Rattle.verdict.specs.declared.obligation.Obligation.{Obligation}
use Rattle.verdict.specs.declared.place_list.PlaceList.{PlaceList}
use Rattle.verdict.specs.declared.job.Job.{Job}

pub keep_append : {X : Type 0} (f : X → Bool) (xs ys : List X) → keep f (xs ++ ys) ≡ keep f xs ++ keep f ys
keep_append f [] ys = refl
keep_append {X} f (x ∷ xs) ys = go (keep_append f xs ys) (f x)
  where
    go : keep f (xs ++ ys) ≡ keep f xs ++ keep f ys → (b : Bool) → cond b (x ∷ keep f (xs ++ ys)) (keep f (xs ++ ys)) ≡ cond b (x ∷ keep f xs) (keep f xs) ++ keep f ys
    go rest true = ap (λ zs. x ∷ zs) rest
    go rest false = rest

deeper : (pre : List ℕ) (lo : ℕ) (ls : List (List ℕ)) → map (λ zs. pre ++ zs) (map (λ xs. lo ∷ xs) ls) ≡ map (λ zs. (pre ++ lo ∷ []) ++ zs) ls
deeper pre lo [] = refl
deeper pre lo (l ∷ ls) = ap (λ v. v ∷ map (λ zs. pre ++ zs) (map (λ xs. lo ∷ xs) ls)) (sym (append_assoc pre (lo ∷ []) l)) ∙ ap (λ vs. ((pre ++ lo ∷ []) ++ l) ∷ vs) (deeper pre lo ls)

-- those that go on with lo, then those that go on with a later place
opened : (f : List ℕ → Bool) (pre : List ℕ) (d lo s : ℕ) → keep f (map (λ zs. pre ++ zs) (lists_from (suc d) lo (suc s))) ≡ keep f (map (λ zs. (pre ++ lo ∷ []) ++ zs) (lists_from (suc d) lo s)) ++ keep f (map (λ zs. pre ++ zs) (lists_from d (suc lo) (suc s)))
unfolding lists_from
opened f pre d lo s =
    ap (keep f) (map-append (λ zs. pre ++ zs) (map (λ xs. lo ∷ xs) (lists_from (suc d) lo s)) (lists_from d (suc lo) (suc s)) ∙ ap (λ vs. vs ++ map (λ zs. pre ++ zs) (lists_from d (suc lo) (suc s))) (deeper pre lo (lists_from (suc d) lo s)))
    ∙ keep_append f (map (λ zs. (pre ++ lo ∷ []) ++ zs) (lists_from (suc d) lo s)) (map (λ zs. pre ++ zs) (lists_from d (suc lo) (suc s)))

pub open_bags : (mover : Meaning) (R : PlaceRelation) (t : ℕ) (pre : List ℕ) (d lo s : ℕ) → 0 < d → 0 < s → bags_after mover R t pre d lo s ≡ bags_after mover R t (pre ++ lo ∷ []) d lo (s - 1) ++ bags_after mover R t pre (d - 1) (lo + 1) s
open_bags mover R t pre zero lo s hd hs = absurd (omega arith)
open_bags mover R t pre (suc d) lo zero hd hs = absurd (omega arith)
open_bags mover R t pre (suc d) lo (suc s) hd hs = rw (add-one, sub-one, sub-one) (opened (obliges mover R t) pre d lo s)

pub open_length : (d lo s : ℕ) → 0 < d → 0 < s → length (lists_from d lo s) ≡ length (lists_from d lo (s - 1)) + length (lists_from (d - 1) (lo + 1) s)
unfolding lists_from
open_length zero lo s hd hs = absurd (omega arith)
open_length (suc d) lo zero hd hs = absurd (omega arith)
open_length (suc d) lo (suc s) hd hs = rw (add-one, sub-one, sub-one) (length-append (map (λ xs. lo ∷ xs) (lists_from (suc d) lo s)) (lists_from d (suc lo) (suc s)) ∙ ap (λ n. n + length (lists_from d (suc lo) (suc s))) (length-map (lists_from (suc d) lo s) (λ xs. lo ∷ xs)))

-- at the end, and past the last place
pub leaf_bags : (mover : Meaning) (R : PlaceRelation) (t : ℕ) (pre : List ℕ) (d lo : ℕ) → obliges mover R t pre ≡ true → bags_after mover R t pre d lo 0 ≡ pre ∷ []
unfolding lists_from
leaf_bags mover R t pre d lo e = ap (λ ys. keep (obliges mover R t) (ys ∷ [])) (append-nil pre) ∙ cond-true (obliges mover R t pre) (pre ∷ []) [] e

pub past_bags : (mover : Meaning) (R : PlaceRelation) (t : ℕ) (pre : List ℕ) (d lo s : ℕ) → d ≡ 0 → 0 < s → bags_after mover R t pre d lo s ≡ []
unfolding lists_from
past_bags mover R t pre zero lo zero e h = absurd (omega arith)
past_bags mover R t pre zero lo (suc s) e h = refl
past_bags mover R t pre (suc d) lo s e h = absurd (omega arith)

-- no more bags than lists
keep_length : {X : Type 0} (f : X → Bool) (xs : List X) → length (keep f xs) ≤ length xs
keep_length f [] = omega arith
keep_length {X} f (x ∷ xs) = go (keep_length f xs) (f x)
  where
    go : length (keep f xs) ≤ length xs → (b : Bool) → length (cond b (x ∷ keep f xs) (keep f xs)) ≤ suc (length xs)
    go rest true = omega arith
    go rest false = omega arith

pub bags_length : (mover : Meaning) (R : PlaceRelation) (t : ℕ) (pre : List ℕ) (d lo s : ℕ) → length (bags_after mover R t pre d lo s) ≤ length (lists_from d lo s)
bags_length mover R t pre d lo s = omega (arith, keep_length (obliges mover R t) (map (λ zs. pre ++ zs) (lists_from d lo s)), length-map (lists_from d lo s) (λ zs. pre ++ zs))

-- a beginning that nothing completes has no bags
none_kept : (f : List ℕ → Bool) (pre : List ℕ) (from d lo s : ℕ) → from ≤ lo → ((zs : List ℕ) → AllFrom from zs → f (pre ++ zs) ≡ true → ⊥) → keep f (map (λ zs. pre ++ zs) (lists_from d lo s)) ≡ []
unfolding lists_from
none_kept f pre from d lo zero l h = elim (cases_Bool (f (pre ++ []))) [
  | inl e ↦ absurd (h [] tt e)
  | inr e ↦ cond-false (f (pre ++ [])) ((pre ++ []) ∷ []) [] e
]
none_kept f pre from zero lo (suc s) l h = refl
none_kept f pre from (suc d) lo (suc s) l h =
    opened f pre d lo s
    ∙ ap (λ xs. xs ++ keep f (map (λ zs. pre ++ zs) (lists_from d (suc lo) (suc s)))) (none_kept f (pre ++ lo ∷ []) from (suc d) lo s l (λ zs a e. h (lo ∷ zs) (l, a) (ap f (sym (append_assoc pre (lo ∷ []) zs)) ∙ e)))
    ∙ none_kept f pre from d (suc lo) (suc s) (omega arith) h

related_of : (mover : Meaning) (R : PlaceRelation) (t : ℕ) (ys : List ℕ) → obliges mover R t ys ≡ true → related_lists R (takes mover t) ys ≡ true
related_of mover R t ys e = (and_parts (not (self_blocked mover t)) (related_lists R (takes mover t) ys) (and_parts (ltb t mover.transitions) (not (self_blocked mover t) && related_lists R (takes mover t) ys) e).1).1

pub pruned : (mover : Meaning) (R : PlaceRelation) (t : ℕ) (pre : List ℕ) (d lo s : ℕ) → (Completes R (tokens_of (takes mover t)) pre lo → ⊥) → bags_after mover R t pre d lo s ≡ []
pruned mover R t pre d lo s none = none_kept (obliges mover R t) pre lo d lo s (omega arith) (λ zs a e. none (record { later = zs; from_lo = a; related = (tests R (takes mover t) (pre ++ zs)).0 (related_of mover R t (pre ++ zs) e) }))

-- a beginning of full length that can be completed is an obligation
pub full_obliges : (j : Job) (pre : List ℕ) (lo : ℕ) → length pre ≡ length (takes (mover_of j) j.t) → Completes (related_by j) (tokens_of (takes (mover_of j) j.t)) pre lo → obliges (mover_of j) (related_by j) j.t pre ≡ true
full_obliges j pre lo long c =
    and_from (ltb j.t (mover_of j).transitions) (not (self_blocked (mover_of j) j.t) && related_lists (related_by j) (takes (mover_of j) j.t) pre) (lt-ltb j.t (mover_of j).transitions j.there)
    (and_from (not (self_blocked (mover_of j) j.t)) (related_lists (related_by j) (takes (mover_of j) j.t) pre) (not_from_false (self_blocked (mover_of j) j.t) j.free)
    ((tests (related_by j) (takes (mover_of j) j.t) pre).1 (moved (λ p. refl) (λ q. ap (λ ys. tokens_of ys q) alone) c.related)))
  where
    short : length c.later ≡ 0
    short = omega (arith, one_length (takes (mover_of j) j.t) (pre ++ c.later) c.related, length-append pre c.later)

    none : (zs : List ℕ) → length zs ≡ 0 → zs ≡ []
    none [] e = refl
    none (z ∷ zs) e = absurd (omega arith)

    alone : pre ++ c.later ≡ pre
    alone = ap (λ zs. pre ++ zs) (none c.later short) ∙ append-nil pre

-- the first that has no answer, in two parts
abbrev pub or_else : {X : Type 0} → Option X → Option X → Option X
or_else None y = y
or_else (Some x) y = Some x

pub first_append : {X : Type 0} (f : X → Option ℕ) (xs ys : List X) → first_open f (xs ++ ys) ≡ or_else (first_open f xs) (first_open f ys)
first_append f [] ys = refl
first_append {X} f (x ∷ xs) ys = ap (open_or (f x) x) (first_append f xs ys) ∙ go (f x)
  where
    go : (v : Option ℕ) → open_or v x (or_else (first_open f xs) (first_open f ys)) ≡ or_else (open_or v x (first_open f xs)) (first_open f ys)
    go (Some u) = refl
    go None = refl

pub passed_on : (j : Job) (f : List ℕ → Option ℕ) (before middle : ℕ) (xs ys : List (List ℕ)) (r : Result ℕ Obligation) → Passed j f before xs (Ok middle) → Passed j f middle ys r → Passed j f before (xs ++ ys) r
passed_on j f before middle xs ys (Ok count) a b = (
  first_append f xs ys ∙ ap (λ v. or_else v (first_open f ys)) a.0 ∙ b.0,
  omega (arith, a.1, b.1, length-append xs ys),
)
passed_on j f before middle xs ys (Err o) a b = (first_append f xs ys ∙ ap (λ v. or_else v (first_open f ys)) a.0 ∙ b.0, b.1)

pub passed_stop : (j : Job) (f : List ℕ → Option ℕ) (before : ℕ) (xs ys : List (List ℕ)) (r : Result ℕ Obligation) (o : Obligation) → IsErrAnd r (λ x. x ≡ o) → Passed j f before xs (Err o) → Passed j f before (xs ++ ys) r
passed_stop j f before xs ys (Ok count) o e a = absurd e
passed_stop j f before xs ys (Err x) o e a = subst (λ y. Passed j f before (xs ++ ys) (Err y)) (sym e) (first_append f xs ys ∙ ap (λ v. or_else v (first_open f ys)) a.0, a.1)

-- a refusal that is passed on
pub err_is : (P : Result ℕ Obligation → Type 0) (r : Result ℕ Obligation) (o : Obligation) → IsErrAnd r (λ x. x ≡ o) → P (Err o) → P r
err_is P (Ok n) o e p = absurd e
err_is P (Err x) o e p = subst (λ y. P (Err y)) (sym e) p

pub passed_none : (j : Job) (f : List ℕ → Option ℕ) (before : ℕ) → Passed j f before [] (Ok before)
passed_none j f before = (refl, omega arith)

-- one bag
some_open : {X : Type 0} (v : Option ℕ) (x : X) → true ≡ is_some v → open_or v x None ≡ None
some_open (Some u) x e = refl
some_open None x e = absurd (false≢true (sym e))

none_open : {X : Type 0} (v : Option ℕ) (x : X) → false ≡ is_some v → open_or v x None ≡ Some x
none_open (Some u) x e = absurd (false≢true e)
none_open None x e = refl

pub passed_one : (j : Job) (f : List ℕ → Option ℕ) (before : ℕ) (ys : List ℕ) → true ≡ is_some (f ys) → Passed j f before (ys ∷ []) (Ok (before + 1))
passed_one j f before ys e = (some_open (f ys) ys e, omega arith)

pub stopped_one : (j : Job) (f : List ℕ → Option ℕ) (before : ℕ) (ys : List ℕ) (bag : PlaceList) → false ≡ is_some (f ys) → places_in bag ≡ ys → Passed j f before (ys ∷ []) (Err (record { side = j.half.now.side; transition = j.t; bag = bag }))
stopped_one j f before ys bag e is = (none_open (f ys) ys e ∙ ap Some (sym is), refl)

pub answer_is : (mover other : Meaning) (R : PlaceRelation) (t : ℕ) (ys : List ℕ) (r : Option ℕ) → obliges mover R t ys ≡ true → r ≡ lowest_below (answers mover other R t ys) other.transitions → answer_for mover other R t ys ≡ r
answer_is mover other R t ys r e h = cond-true (obliges mover R t ys) (lowest_below (answers mover other R t ys) other.transitions) None e ∙ sym h

pub one_list : (d lo s : ℕ) → s ≡ 0 → length (lists_from d lo s) ≡ 1
unfolding lists_from
one_list d lo zero e = refl
one_list d lo (suc s) e = absurd (omega arith)

-- the end of a list of places chosen
pub leaf_passed : (j : Job) (f : List ℕ → Option ℕ) (pre : List ℕ) (d lo left count : ℕ) (r : Result ℕ Obligation) → left ≡ 0 → obliges (mover_of j) (related_by j) j.t pre ≡ true → Passed j f count (pre ∷ []) r → Passed j f count (bags_after (mover_of j) (related_by j) j.t pre d lo left) r
leaf_passed j f pre d lo left count r z e h =
    subst (λ s. Passed j f count (bags_after (mover_of j) (related_by j) j.t pre d lo s) r) (sym z)
    (subst (λ bags. Passed j f count bags r) (sym (leaf_bags (mover_of j) (related_by j) j.t pre d lo e)) h)

-- a beginning and its tokens, as they stand in the job
pub begun : (j : Job) (ys pre : List ℕ) (lo : ℕ) → ys ≡ pre → Completes (related_by j) (tokens_of (listed j.flows.takes)) ys lo ↔ Completes (related_by j) (tokens_of (takes (mover_of j) j.t)) pre lo
begun j ys pre lo same = (
  λ c. subst (λ xs. Completes (related_by j) (tokens_of xs) pre lo) j.taken (subst (λ zs. Completes (related_by j) (tokens_of (listed j.flows.takes)) zs lo) same c),
  λ c. subst (λ zs. Completes (related_by j) (tokens_of (listed j.flows.takes)) zs lo) (sym same) (subst (λ xs. Completes (related_by j) (tokens_of xs) pre lo) (sym j.taken) c),
)

-- a count that is passed on
pub counted_on : (r : Result ℕ Obligation) (before middle all first second : ℕ) → all ≡ first + second → middle ≡ before + first → IfOk r (λ n. n ≡ middle + second) → IfOk r (λ n. n ≡ before + all)
counted_on (Ok n) before middle all first second e m h = omega (arith, e, m, h)
counted_on (Err o) before middle all first second e m h = tt

pub counted_stop : (r : Result ℕ Obligation) (P : ℕ → Type 0) (o : Obligation) → IsErrAnd r (λ x. x ≡ o) → IfOk r P
counted_stop (Ok n) P o e = absurd e
counted_stop (Err x) P o e = tt
