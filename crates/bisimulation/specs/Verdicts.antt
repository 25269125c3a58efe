-- The verdict, computed: all obligations in order, the answer to each, and the first that has none. Assumes nothing.
use Rattle.std.specs.Prelude.{ℕ, zero, suc, Bool, true, false, cond, not, ◌&&◌, ◌||◌, List, [], ◌∷◌, ◌++◌, map, length, Some, None, Option, is_some, ◌==◌, nat_lt}
use Rattle.std.specs.List.{filter, find, list_all, range_with_len}
use Rattle.places.specs.Sets.{PlaceRelation, turned}
use Rattle.places.specs.declared.Side.{Side}
use Rattle.places.specs.declared.Side.TheVariants.{Left, Right}
use Rattle.pairing.specs.Outnumbering.{some_below}
use Rattle.nets.specs.Meaning.{Meaning}
use Rattle.nets.specs.Firing.{pre_set, post_set}
use Rattle.bisimulation.specs.Bisimulation.{between}
use Rattle.bisimulation.specs.Lists.{list_of, same_list, related_lists, lists}

-- the elements that pass a test, in order
abbrev pub keep : {X : Type 0} → (X → Bool) → List X → List X
keep f xs = filter f xs

-- whether a test passes at every number below k
abbrev pub all_below : (ℕ → Bool) → ℕ → Bool
all_below f k = list_all f (range_with_len 0 k)

-- the lowest number below k at which a test passes
abbrev pub lowest_below : (ℕ → Bool) → ℕ → Option ℕ
lowest_below f k = find f (range_with_len 0 k)

-- what a transition takes and what it gives, as ascending lists
abbrev pub takes : Meaning → ℕ → List ℕ
takes n t = list_of n.places (pre_set n t)

abbrev pub gives : Meaning → ℕ → List ℕ
gives n t = list_of n.places (post_set n t)

-- whether an input place of t also inhibits t
abbrev pub self_blocked : Meaning → ℕ → Bool
self_blocked n t = some_below (λ p. nat_lt 0 (pre_set n t p) && n.inhibits t p) n.places

-- whether the bag of a list makes an obligation for t
abbrev pub obliges : Meaning → PlaceRelation → ℕ → List ℕ → Bool
obliges mover R t ys = nat_lt t mover.transitions && (not (self_blocked mover t) && related_lists R (takes mover t) ys)

-- whether of every two related places the one inhibits t exactly when the other inhibits u
abbrev pub same_truth : Bool → Bool → Bool
same_truth true b = b
same_truth false b = not b

abbrev pub alike : Meaning → Meaning → PlaceRelation → ℕ → ℕ → Bool
alike mover other R t u = all_below (λ p. all_below (λ q. not (R p q) || same_truth (mover.inhibits t p) (other.inhibits u q)) other.places) mover.places

-- whether u answers t and the bag of a list
abbrev pub answers : Meaning → Meaning → PlaceRelation → ℕ → List ℕ → ℕ → Bool
answers mover other R t ys u =
    same_list (takes other u) ys && (mover.label t == other.label u && (related_lists R (gives mover t) (gives other u) && alike mover other R t u))

-- the answer that is given
abbrev pub answer_for : Meaning → Meaning → PlaceRelation → ℕ → List ℕ → Option ℕ
answer_for mover other R t ys = cond (obliges mover R t ys) (lowest_below (answers mover other R t ys) other.transitions) None

-- the bags of the obligations of t, as ascending lists in dictionary order
abbrev pub bags_for : Meaning → Meaning → PlaceRelation → ℕ → List (List ℕ)
bags_for mover other R t = keep (obliges mover R t) (lists other.places (length (takes mover t)))

-- an obligation of the verdict: its side, its transition and its bag, as an ascending list
pub record ObligationAt : Type 0 where
  pub side : Side
  pub transition : ℕ
  pub bag : List ℕ

-- the obligations of the transitions below a number
abbrev pub obligations_below : Side → Meaning → Meaning → PlaceRelation → ℕ → List ObligationAt
obligations_below side mover other R zero = []
obligations_below side mover other R (suc t) = obligations_below side mover other R t ++ map (λ ys. record { side = side; transition = t; bag = ys }) (bags_for mover other R t)

-- left before right, then by transition, then in dictionary order
abbrev pub obligations : Meaning → Meaning → PlaceRelation → List ObligationAt
obligations n k R = obligations_below Left n k R n.transitions ++ obligations_below Right k n (turned R) k.transitions

-- the answer to an obligation of either side
abbrev pub answer_on : Meaning → Meaning → PlaceRelation → Side → ℕ → List ℕ → Option ℕ
answer_on n k R Left t ys = answer_for n k R t ys
answer_on n k R Right t ys = answer_for k n (turned R) t ys

abbrev pub answer_to : Meaning → Meaning → PlaceRelation → ObligationAt → Option ℕ
answer_to n k R o = answer_on n k R o.side o.transition o.bag

-- the first that has no answer
abbrev pub first_open : {X : Type 0} → (X → Option ℕ) → List X → Option X
first_open f xs = find (λ x. not (is_some (f x))) xs

-- accepted with the number of obligations, or refused with the first that has no answer
pub data Verdict : Type 0 where
  accepted : ℕ → Verdict
  refused : ObligationAt → Verdict

abbrev pub judged : List ObligationAt → Option ObligationAt → Verdict
judged all None = accepted (length all)
judged all (Some o) = refused o

abbrev pub verdict_of : Meaning → Meaning → PlaceRelation → Verdict
verdict_of n k R = judged (obligations n k (between n k R)) (first_open (answer_to n k (between n k R)) (obligations n k (between n k R)))
