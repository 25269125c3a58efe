-- What is known while the bags of an obligation are gone through. Assumes nothing.
use Rattle.std.specs.Prelude.{◌≡◌, ℕ, ◌+◌, ◌≤◌, T, List, [], ◌∷◌, ◌++◌, map, length, Some, None, Ok, Err, Option, Result}
use Rattle.places.specs.Bags.{Bag}
use Rattle.places.specs.Sets.{PlaceRelation}
use Rattle.places.specs.declared.Side.{Side}
use Rattle.places.specs.declared.Side.TheVariants.{Left, Right}
use Rattle.pairing.specs.Closure.{Closure}
use Rattle.nets.specs.Meaning.{Meaning}
use Rattle.nets.specs.Tables.{table_meaning}
use Rattle.nets.specs.declared.table.Table.{Table}
use Rattle.bisimulation.specs.Bisimulation.{between}
use Rattle.bisimulation.specs.Lists.{tokens_of, lists_from}
use Rattle.bisimulation.specs.Verdicts.{keep, obliges, bags_for, ObligationAt, obligations_below, first_open}
use Rattle.verdict.specs.PlaceLists.{places_in}
use Rattle.verdict.specs.Results.{obligation_at, at, JudgedBelow, WroteBelow}
use Rattle.verdict.specs.declared.obligation.Obligation.{Obligation}
use Rattle.verdict.specs.declared.obligation.AnsweredObligation.{AnsweredObligation}
use Rattle.verdict.specs.declared.pairs.Pairs.{Pairs}
use Rattle.verdict.specs.Relating.{facing, pairs_of}
use Rattle.verdict.specs.declared.half.Half.{Half}
use Rattle.verdict.specs.declared.job.Job.{Job}

-- no place of the list is below lo
abbrev pub AllFrom : ℕ → List ℕ → Type 0
AllFrom lo [] = Unit {0}
AllFrom lo (x ∷ xs) = (lo ≤ x) × AllFrom lo xs

-- each place of the list is related to one that is not below lo
abbrev pub AllReach : PlaceRelation → ℕ → List ℕ → Type 0
AllReach R lo [] = Unit {0}
AllReach R lo (x ∷ xs) = ((q : ℕ) × ((lo ≤ q) × T (R x q))) × AllReach R lo xs

-- the bag b is related to the places of the list cs and to later places, none of them below lo
pub record Completes (R : PlaceRelation) (b : Bag) (cs : List ℕ) (lo : ℕ) : Type 0 where
  pub later : List ℕ
  pub from_lo : AllFrom lo later
  pub related : Closure R b (tokens_of (cs ++ later))

-- the side on which a net moves and another answers
pub record Moves (side : Side) (mover other : Table) (pairs : Pairs) (h : Half) : Type 0 where
  pub side_is : h.side ≡ side
  pub mover_is : h.mover.now ≡ mover
  pub other_is : h.other.now ≡ other
  pub pairs_are : h.pairs ≡ pairs

-- the net that moves, and the one that answers
abbrev pub mover_on : Side → Meaning → Meaning → Meaning
mover_on Left n k = n
mover_on Right n k = k

abbrev pub other_on : Side → Meaning → Meaning → Meaning
other_on Left n k = k
other_on Right n k = n

-- a side of the nets n and k under R
pub record Faces (side : Side) (n k : Meaning) (R : PlaceRelation) (h : Half) : Type 0 where
  pub side_is : h.side ≡ side
  pub mover_is : table_meaning h.mover.now ≡ mover_on side n k
  pub other_is : table_meaning h.other.now ≡ other_on side n k
  pub related_is : pairs_of h.pairs ≡ facing side (between n k R)

-- the nets and the relation of a job
abbrev pub mover_of : Job → Meaning
mover_of j = table_meaning j.half.now.mover.now

abbrev pub other_of : Job → Meaning
other_of j = table_meaning j.half.now.other.now

abbrev pub related_by : Job → PlaceRelation
related_by j = pairs_of j.half.now.pairs

-- the bags of the obligations that begin with pre and go on with s places of lo, .., lo + d - 1
abbrev pub bags_after : Meaning → PlaceRelation → ℕ → List ℕ → ℕ → ℕ → ℕ → List (List ℕ)
bags_after mover R t pre d lo s = keep (obliges mover R t) (map (λ zs. pre ++ zs) (lists_from d lo s))

-- all bags of a list have answers, and were counted; or the obligation of the first that has none is given
abbrev pub Passed : Job → (List ℕ → Option ℕ) → ℕ → List (List ℕ) → Result ℕ Obligation → Type 0
Passed j answer before bags (Ok count) = (first_open answer bags ≡ None) × (count ≡ before + length bags)
Passed j answer before bags (Err o) = (first_open answer bags ≡ Some (places_in o.bag)) × (obligation_at o ≡ at j.half.now.side j.t (places_in o.bag))

-- the bags of the obligations of a transition of a side, and the obligations of its transitions below a number
abbrev pub bags_of : Half → ℕ → List (List ℕ)
bags_of h t = bags_for (table_meaning h.mover.now) (table_meaning h.other.now) (pairs_of h.pairs) t

abbrev pub obligations_of : Half → ℕ → List ObligationAt
obligations_of h k = obligations_below h.side (table_meaning h.mover.now) (table_meaning h.other.now) (pairs_of h.pairs) k

-- obligations of a side were judged, or written with their answers
abbrev pub JudgedFor : Half → ℕ → List ObligationAt → Result ℕ Obligation → Type 0
JudgedFor h before all r = JudgedBelow h.side (table_meaning h.mover.now) (table_meaning h.other.now) (pairs_of h.pairs) before all r

abbrev pub WroteFor : Half → ℕ → List AnsweredObligation → List ObligationAt → List AnsweredObligation → Type 0
WroteFor h i xs all ys = WroteBelow h.side (table_meaning h.mover.now) (table_meaning h.other.now) (pairs_of h.pairs) i xs all ys
