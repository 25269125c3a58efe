-- The obligations of one side.
use Rattle.std.proofs.Common.{◌≡◌, ℕ, zero, suc, ◌+◌, ◌*◌, ◌^◌, ◌<◌, ◌≤◌, Bool, true, false, cond, not, ◌&&◌, T, ltb, List, [], ◌∷◌, ◌++◌, map, length, Some, None, Ok, Err, Option, Result, sym, refl, ap, ◌∙◌, subst, inl, inr, pow-suc, add-one, arith, length-append, pow_mono}
use Rattle.std.proofs.lemmas.List.{length-map}
use Rattle.std.proofs.lemmas.Bool.{cases_eq, cond-false, and_from, lt-ltb, not_from_false}
use Rattle.places.specs.Sets.{PlaceRelation}
use Rattle.places.specs.declared.Side.{Side}
use Rattle.nets.specs.Meaning.{Meaning}
use Rattle.bisimulation.specs.Lists.{is_nil, related_lists, lists_from, lists}
use Rattle.bisimulation.specs.Laws.{open_or}
use Rattle.bisimulation.specs.Verdicts.{keep, takes, self_blocked, obliges, answers, lowest_below, answer_for, bags_for, ObligationAt, obligations_below, first_open}
use Rattle.verdict.specs.Results.{obligation_at, at, JudgedBelow}
use Rattle.verdict.specs.Search.{bags_after, bags_of, mover_of, other_of, related_by, Passed, JudgedFor}
use Rattle.verdict.specs.declared.job.Job.{Job}
use Rattle.verdict.specs.declared.obligation.Obligation.{Obligation}
use Rattle.verdict.proofs.Walks.{first_append, answer_is, bags_length, or_else}

-- the obligations of a transition, by the bags
abbrev maybe : {X Y : Type 0} → (X → Y) → Option X → Option Y
maybe g None = None
maybe g (Some x) = Some (g x)

first_mapped : {X Y : Type 0} (f : Y → Option ℕ) (h : X → Option ℕ) (g : X → Y) → ((x : X) → f (g x) ≡ h x) → (xs : List X) → first_open f (map g xs) ≡ maybe g (first_open h xs)
first_mapped f h g e [] = refl
first_mapped {X} {Y} f h g e (x ∷ xs) = ap (λ v. open_or v (g x) (first_open f (map g xs))) (e x) ∙ ap (open_or (h x) (g x)) (first_mapped f h g e xs) ∙ go (h x)
  where
    go : (v : Option ℕ) → open_or v (g x) (maybe g (first_open h xs)) ≡ maybe g (open_or v x (first_open h xs))
    go (Some u) = refl
    go None = refl

-- going through all lists of the size is going through the bags of the transition
pub all_bags : (mover other : Meaning) (R : PlaceRelation) (t size : ℕ) (d : ℕ) → size ≡ length (takes mover t) → d ≡ other.places → bags_after mover R t [] d 0 size ≡ bags_for mover other R t
unfolding lists
all_bags mover other R t size d e h = ap (λ ls. keep (obliges mover R t) ls) (itself (lists_from d 0 size)) ∙ ap (λ n. keep (obliges mover R t) (lists_from n 0 size)) h ∙ ap (λ n. keep (obliges mover R t) (lists_from other.places 0 n)) e
  where
    itself : (ls : List (List ℕ)) → map (λ zs. [] ++ zs) ls ≡ ls
    itself [] = refl
    itself (l ∷ ls) = ap (λ vs. l ∷ vs) (itself ls)

-- two ways to answer that agree where there is an obligation
same_open : {X : Type 0} (f g : X → Option ℕ) (p : X → Bool) → ((x : X) → p x ≡ true → g x ≡ f x) → (xs : List X) → first_open g (keep p xs) ≡ first_open f (keep p xs)
same_open f g p agrees [] = refl
same_open {X} f g p agrees (x ∷ xs) = go (p x) refl (same_open f g p agrees xs)
  where
    go : (b : Bool) → p x ≡ b → first_open g (keep p xs) ≡ first_open f (keep p xs) → first_open g (cond b (x ∷ keep p xs) (keep p xs)) ≡ first_open f (cond b (x ∷ keep p xs) (keep p xs))
    go true e rest = ap (λ v. open_or v x (first_open g (keep p xs))) (agrees x e) ∙ ap (open_or (f x) x) rest
    go false e rest = rest

-- the answers of a job, by its lowest answering transition
abbrev pub lowest_for : Job → List ℕ → Option ℕ
lowest_for j ys = lowest_below (answers (mover_of j) (other_of j) (related_by j) j.t ys) (other_of j).transitions

abbrev pub answers_for : Job → List ℕ → Option ℕ
answers_for j ys = answer_for (mover_of j) (other_of j) (related_by j) j.t ys

open_for : (j : Job) (size d : ℕ) (f : ObligationAt → Option ℕ) → ((t : ℕ) (ys : List ℕ) → f (at j.half.now.side t ys) ≡ answer_for (mover_of j) (other_of j) (related_by j) t ys) → size ≡ length (takes (mover_of j) j.t) → d ≡ (other_of j).places → first_open f (map (at j.half.now.side j.t) (bags_of j.half.now j.t)) ≡ maybe (at j.half.now.side j.t) (first_open (lowest_for j) (bags_after (mover_of j) (related_by j) j.t [] d 0 size))
open_for j size d f agrees e h =
    first_mapped f (answers_for j) (at j.half.now.side j.t) (agrees j.t) (bags_of j.half.now j.t)
    ∙ ap (λ bs. maybe (at j.half.now.side j.t) (first_open (answers_for j) bs)) (sym (all_bags (mover_of j) (other_of j) (related_by j) j.t size d e h))
    ∙ ap (maybe (at j.half.now.side j.t)) (same_open (lowest_for j) (answers_for j) (obliges (mover_of j) (related_by j) j.t) (λ ys known. answer_is (mover_of j) (other_of j) (related_by j) j.t ys (lowest_for j ys) known refl) (map (λ zs. [] ++ zs) (lists_from d 0 size)))

pub judged_by : (j : Job) (size d before : ℕ) (r : Result ℕ Obligation) → size ≡ length (takes (mover_of j) j.t) → d ≡ (other_of j).places → Passed j (lowest_for j) before (bags_after (mover_of j) (related_by j) j.t [] d 0 size) r → JudgedFor j.half.now before (map (at j.half.now.side j.t) (bags_of j.half.now j.t)) r
judged_by j size d before (Ok count) e h p f agrees =
    let bags = all_bags (mover_of j) (other_of j) (related_by j) j.t size d e h in (
      open_for j size d f agrees e h ∙ ap (maybe (at j.half.now.side j.t)) p.0,
      omega (arith, p.1, ap length bags, length-map (bags_of j.half.now j.t) (at j.half.now.side j.t)),
    )
judged_by j size d before (Err o) e h p f agrees = open_for j size d f agrees e h ∙ ap (maybe (at j.half.now.side j.t)) p.0 ∙ ap Some (sym p.1)

-- a transition that obliges to nothing has no obligations
none_obliged : {X : Type 0} (f : X → Bool) → ((x : X) → f x ≡ false) → (xs : List X) → keep f xs ≡ []
none_obliged f h [] = refl
none_obliged f h (x ∷ xs) = cond-false (f x) (x ∷ keep f xs) (keep f xs) (h x) ∙ none_obliged f h xs

pub no_bags : (mover other : Meaning) (R : PlaceRelation) (t : ℕ) → ((ys : List ℕ) → obliges mover R t ys ≡ false) → bags_for mover other R t ≡ []
no_bags mover other R t h = none_obliged (obliges mover R t) h (lists other.places (length (takes mover t)))

pub judged_none : (side : Side) (mover other : Meaning) (R : PlaceRelation) (t before : ℕ) → ((ys : List ℕ) → obliges mover R t ys ≡ false) → JudgedBelow side mover other R before (map (at side t) (bags_for mover other R t)) (Ok before)
judged_none side mover other R t before h f agrees =
    let none = no_bags mover other R t h in
    (ap (λ bs. first_open f (map (at side t) bs)) none, omega (arith, ap (λ bs. length (map (at side t) bs)) none))

-- no list of nothing is left out
pub none_obliges : (mover : Meaning) (R : PlaceRelation) (t : ℕ) → t < mover.transitions → false ≡ self_blocked mover t → length (takes mover t) ≡ 0 → obliges mover R t [] ≡ true
unfolding related_lists is_nil
none_obliges mover R t l e z =
    and_from (ltb t mover.transitions) (not (self_blocked mover t) && related_lists R (takes mover t) []) (lt-ltb t mover.transitions l)
    (and_from (not (self_blocked mover t)) (related_lists R (takes mover t) []) (not_from_false (self_blocked mover t) (sym e)) (empties (takes mover t) z))
  where
    empties : (xs : List ℕ) → length xs ≡ 0 → related_lists R xs [] ≡ true
    empties [] h = refl
    empties (x ∷ xs) h = absurd (omega arith)

-- how many lists there are
lists_few : (d lo s : ℕ) → length (lists_from d lo s) ≤ 2 ^ (d + s)
unfolding lists_from
lists_few zero lo zero = omega arith
lists_few (suc d) lo zero = one (suc d + 0)
  where
    one : (n : ℕ) → 1 ≤ 2 ^ n
    one zero = omega arith
    one (suc n) = omega (arith, one n, pow-suc 2 n)
lists_few zero lo (suc s) = omega arith
lists_few (suc d) lo (suc s) = omega (
  arith,
  length-append (map (λ xs. lo ∷ xs) (lists_from (suc d) lo s)) (lists_from d (suc lo) (suc s)),
  length-map (lists_from (suc d) lo s) (λ xs. lo ∷ xs),
  lists_few (suc d) lo s,
  lists_few d (suc lo) (suc s),
  double (d + s),
  ap (λ n. 2 ^ n) (shift_both d s),
  ap (λ n. 2 ^ n) (shift_one d s),
  ap (λ n. 2 ^ n) (shift_other d s),
)
  where
    double : (n : ℕ) → 2 ^ (suc (suc n)) ≡ 2 ^ (suc n) + 2 ^ (suc n)
    double n = pow-suc 2 (suc n) ∙ omega arith

    shift_both : (a b : ℕ) → suc a + suc b ≡ suc (suc (a + b))
    shift_both a b = omega arith

    shift_one : (a b : ℕ) → suc a + b ≡ suc (a + b)
    shift_one a b = omega arith

    shift_other : (a b : ℕ) → a + suc b ≡ suc (a + b)
    shift_other a b = omega arith

pub few_lists : (d s : ℕ) → d ≤ 16 → s ≤ 4 → length (lists_from d 0 s) ≤ 2 ^ 20
few_lists d s hd hs = omega (arith, lists_few d 0 s, pow_mono {i = d + s} {j = 20} (omega arith))

-- the obligations of the transitions below t have answers, and are counted
pub record SoFar (side : Side) (mover other : Meaning) (R : PlaceRelation) (start t count : ℕ) : Type 0 where
  pub judged : JudgedBelow side mover other R start (obligations_below side mover other R t) (Ok count)
  pub few : length (obligations_below side mover other R t) ≤ t * 2 ^ 20
  pub counted : count ≡ start + length (obligations_below side mover other R t)

pub so_far_none : (side : Side) (mover other : Meaning) (R : PlaceRelation) (start : ℕ) → SoFar side mover other R start 0 start
so_far_none side mover other R start = record { judged = λ f agrees. (refl, omega arith); few = omega arith; counted = omega arith }

bags_few : (mover other : Meaning) (R : PlaceRelation) (t : ℕ) → other.places ≤ 16 → length (takes mover t) ≤ 4 → length (bags_for mover other R t) ≤ 2 ^ 20
bags_few mover other R t hp ht = omega (arith, few_lists other.places (length (takes mover t)) hp ht, bags_length mover R t [] other.places 0 (length (takes mover t)), ap length (all_bags mover other R t (length (takes mover t)) other.places refl refl))

pub so_far_more : (side : Side) (mover other : Meaning) (R : PlaceRelation) (start t count seen : ℕ) → other.places ≤ 16 → length (takes mover t) ≤ 4 → SoFar side mover other R start t count → JudgedBelow side mover other R count (map (at side t) (bags_for mover other R t)) (Ok seen) → SoFar side mover other R start (t + 1) seen
so_far_more side mover other R start t count seen hp ht h j = rw add-one (record {
  judged = λ f agrees. (
    first_append f (obligations_below side mover other R t) (map (at side t) (bags_for mover other R t)) ∙ ap (λ v. or_else v (first_open f (map (at side t) (bags_for mover other R t)))) (h.judged f agrees).0 ∙ (j f agrees).0,
    total,
  );
  few = omega (arith, h.few, bags_few mover other R t hp ht, length-map (bags_for mover other R t) (at side t), length-append (obligations_below side mover other R t) (map (at side t) (bags_for mover other R t)));
  counted = total;
})
  where
    own : ObligationAt → Option ℕ
    own o = answer_for mover other R o.transition o.bag

    total : seen ≡ start + length (obligations_below side mover other R t ++ map (at side t) (bags_for mover other R t))
    total = omega (arith, h.counted, (j own (λ s ys. refl)).1, length-append (obligations_below side mover other R t) (map (at side t) (bags_for mover other R t)))

pub so_far_stops : (side : Side) (mover other : Meaning) (R : PlaceRelation) (start t count T : ℕ) (o : Obligation) → t < T → SoFar side mover other R start t count → JudgedBelow side mover other R count (map (at side t) (bags_for mover other R t)) (Err o) → JudgedBelow side mover other R start (obligations_below side mover other R T) (Err o)
so_far_stops side mover other R start t count zero o l h j f agrees = absurd (omega arith)
so_far_stops side mover other R start t count (suc T) o l h j f agrees = elim (cases_eq t T) [
  | inl e ↦ subst (λ k. first_open f (obligations_below side mover other R k ++ map (at side k) (bags_for mover other R k)) ≡ Some (obligation_at o)) e (first_append f (obligations_below side mover other R t) (map (at side t) (bags_for mover other R t)) ∙ ap (λ v. or_else v (first_open f (map (at side t) (bags_for mover other R t)))) (h.judged f agrees).0 ∙ j f agrees)
  | inr n ↦ first_append f (obligations_below side mover other R T) (map (at side T) (bags_for mover other R T)) ∙ ap (λ v. or_else v (first_open f (map (at side T) (bags_for mover other R T)))) (so_far_stops side mover other R start t count T o (omega arith) h j f agrees)
]

-- how many obligations one side has
pub side_few : (side : Side) (mover other : Meaning) (R : PlaceRelation) (T : ℕ) → other.places ≤ 16 → ((t : ℕ) → length (takes mover t) ≤ 4) → length (obligations_below side mover other R T) ≤ T * 2 ^ 20
side_few side mover other R zero hp ht = omega arith
side_few side mover other R (suc T) hp ht = omega (arith, side_few side mover other R T hp ht, bags_few mover other R T hp (ht T), length-map (bags_for mover other R T) (at side T), length-append (obligations_below side mover other R T) (map (at side T) (bags_for mover other R T)))
