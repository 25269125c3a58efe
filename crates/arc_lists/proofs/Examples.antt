-- Lists that pass, and lists that do not.
use Rattle.std.proofs.Common.{◌≡◌, ℕ, true, false, List, [], ◌∷◌, refl}
use Rattle.places.specs.Sets.{tokens_below}
use Rattle.arc_lists.specs.Lists.{list_passes, arcs_meaning}
use Rattle.arc_lists.specs.declared.arc.Arc.{Arc}

abbrev arc : ℕ → ℕ → ℕ → ℕ → Arc
arc t p k w = record { transition = t; place = p; kind = k; weight = w }

-- one transition takes 2 from the place 0, gives 1 to the place 1, and is inhibited by the place 1
abbrev good : List Arc
good = arc 0 0 0 2 ∷ arc 0 1 1 1 ∷ arc 0 1 2 1 ∷ []

pub good_passes : list_passes 2 (7 ∷ []) good ≡ true
unfolding tokens_below
good_passes = refl

pub good_input : (arcs_meaning 2 (7 ∷ []) good).input 0 0 ≡ 2
good_input = refl

pub good_inhibits : (arcs_meaning 2 (7 ∷ []) good).inhibits 0 1 ≡ true
good_inhibits = refl

-- no arcs pass where there is a transition; doubles do not pass, nor inputs that add up to 5, nor a heavy inhibitor, nor what lies beyond the places
pub no_arcs : list_passes 2 (7 ∷ []) [] ≡ false
unfolding tokens_below
no_arcs = refl

pub doubles : list_passes 2 (7 ∷ []) (arc 0 0 0 1 ∷ good) ≡ false
unfolding tokens_below
doubles = refl

pub heavy : list_passes 2 (7 ∷ []) (arc 0 1 0 3 ∷ good) ≡ false
unfolding tokens_below
heavy = refl

pub heavy_inhibitor : list_passes 2 (7 ∷ []) (arc 0 0 2 2 ∷ good) ≡ false
heavy_inhibitor = refl

pub beyond_places : list_passes 1 (7 ∷ []) good ≡ false
beyond_places = refl

pub too_wide : list_passes 17 (7 ∷ []) good ≡ false
too_wide = refl
