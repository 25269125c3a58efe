-- The pairs of a side, and the lists of what transitions take and give. Assumes nothing.
use Rattle.std.specs.Prelude.{◌≡◌, ℕ, ◌+◌, ◌<◌, ◌&&◌, T, List, length, nat_lt, slice_index, slice_index_or}
use Rattle.places.specs.Sets.{PlaceRelation, turned}
use Rattle.places.specs.Meanings.{relation_of}
use Rattle.places.specs.declared.Side.{Side}
use Rattle.places.specs.declared.Side.TheVariants.{Left, Right}
use Rattle.nets.specs.Meaning.{Meaning}
use Rattle.nets.specs.Roles.{weights_in}
use Rattle.nets.specs.declared.role.Role.{Role}
use Rattle.nets.specs.declared.role.Role.TheVariants.{Input, Output}
use Rattle.bisimulation.specs.Lists.{list_of}
use Rattle.verdict.specs.ShortLists.{listed}
use Rattle.verdict.specs.declared.pairs.Pairs.{Pairs}
use Rattle.verdict.specs.declared.outline.Flows.{Flows}

-- the pairs of R with a left place and a right place below the two numbers
abbrev pub inside : ℕ → ℕ → PlaceRelation → PlaceRelation
inside left right R p q = nat_lt p left && (nat_lt q right && R p q)

-- a relation, seen from a side
abbrev pub facing : Side → PlaceRelation → PlaceRelation
facing Left R = R
facing Right R = turned R

-- the relation of a Pairs, from the side that moves to the other
abbrev pub pairs_of : Pairs → PlaceRelation
pairs_of s = facing s.from (inside s.left s.right (relation_of s.relation.now))

-- the table gives for each place one more than the highest place that is related to it, or 0 where there is none
abbrev pub Topped : PlaceRelation → List ℕ → Type 0
Topped R tops = ((p q : ℕ) → p < 16 → T (R p q) → q < slice_index tops p) × ((p q : ℕ) → p < 16 → q + 1 ≡ slice_index tops p → T (R p q))

-- what a transition takes, or gives, as an ascending list
abbrev pub flow_list : Meaning → Role → ℕ → List ℕ
flow_list n role t = list_of n.places (weights_in n role t)

-- the lists of a transition
pub record FlowsOf (n : Meaning) (t : ℕ) (f : Flows) : Type 0 where
  pub takes_are : listed f.takes ≡ flow_list n Input t
  pub gives_are : listed f.gives ≡ flow_list n Output t

-- the lists of the transitions of a net
pub record Outlined (n : Meaning) (o : List Flows) : Type 0 where
  pub long : length o ≡ 32
  pub each : (t : ℕ) → t < 32 → (d : Flows) → FlowsOf n t (slice_index_or o t d)
