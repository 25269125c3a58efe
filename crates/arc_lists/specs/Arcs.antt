-- What arc records weigh. Assumes nothing.
use Rattle.std.specs.Prelude.{ℕ, ◌+◌, min, Bool, cond, ◌&&◌, List, sum_by, ◌==◌}
use Rattle.std.specs.List.{list_any}
use Rattle.places.specs.Bags.{Bag}
use Rattle.arc_lists.specs.declared.arc.Arc.{Arc}

-- whether an arc is of the kind k, and joins the transition t and the place p
abbrev pub arc_is : ℕ → ℕ → ℕ → Arc → Bool
arc_is k t p a = a.kind == k && (a.transition == t && a.place == p)

-- what one arc weighs for the kind k at t and p
abbrev pub arc_weight : ℕ → ℕ → ℕ → Arc → ℕ
arc_weight k t p a = cond (arc_is k t p a) a.weight 0

-- the sum of the weights of the arcs of the kind k at t and p
abbrev pub weights : ℕ → ℕ → ℕ → List Arc → ℕ
weights k t p arcs = sum_by (arc_weight k t p) arcs

-- the same for one t, as a bag of places
abbrev pub arc_bag : ℕ → List Arc → ℕ → Bag
arc_bag k arcs t p = weights k t p arcs

-- whether some arc is of the kind k at t and p
abbrev pub some_arc : ℕ → ℕ → ℕ → List Arc → Bool
some_arc k t p arcs = list_any (arc_is k t p) arcs

-- a sum with one more term, at most 255
abbrev pub capped : {X : Type 0} → (X → ℕ) → ℕ → X → ℕ
capped f s x = min (s + f x) 255
