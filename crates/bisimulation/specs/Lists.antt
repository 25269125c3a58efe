-- Bags of places as ascending lists: a place stands in the list as often as the bag holds it. Assumes nothing.
use Rattle.std.specs.Prelude.{ℕ, zero, suc, ◌+◌, Bool, true, false, cond, ◌&&◌, ◌||◌, T, List, [], ◌∷◌, ◌++◌, map, ◌==◌, nat_le, nat_lt}
use Rattle.places.specs.Bags.{Bag, empty, single, ◌⊕◌}
use Rattle.places.specs.Sets.{PlaceRelation}

-- the bag of a list of places
abbrev pub tokens_of : List ℕ → Bag
tokens_of [] = empty
tokens_of (x ∷ xs) = single x ⊕ tokens_of xs

-- a list with n times x in front
unfoldable pub pile : ℕ → ℕ → List ℕ → List ℕ
pile zero x xs = xs
pile (suc n) x xs = x ∷ pile n x xs

-- the ascending list of a bag over the places lo, .., lo + d - 1
unfoldable pub list_from : ℕ → ℕ → Bag → List ℕ
unfolding pile
list_from zero lo m = []
list_from (suc d) lo m = pile (m lo) lo (list_from d (suc lo) m)

-- over the places below a number
unfoldable pub list_of : ℕ → Bag → List ℕ
unfolding list_from
list_of places m = list_from places 0 m

-- whether two lists are the same; unfolded only where that is asked for, and so is `times`, since examples are computed by
-- them: std's words are unfolded wherever they stand
unfoldable pub same_list : List ℕ → List ℕ → Bool
same_list [] [] = true
same_list [] (y ∷ ys) = false
same_list (x ∷ xs) [] = false
same_list (x ∷ xs) (y ∷ ys) = x == y && same_list xs ys

-- whether the test passes at some element and the others; those before it are in front
unfoldable pub some_pick : (ℕ → List ℕ → Bool) → List ℕ → List ℕ → Bool
some_pick f front [] = false
some_pick f front (y ∷ ys) =
    let later = some_pick f (y ∷ front) ys in
    cond (f y (front ++ ys)) true later

unfoldable pub is_nil : List ℕ → Bool
is_nil [] = true
is_nil (y ∷ ys) = false

-- whether the bags of two lists are related: each element of the first picks a related element of the second, and none
-- is left over
unfoldable pub related_lists : PlaceRelation → List ℕ → List ℕ → Bool
unfolding some_pick is_nil
related_lists R [] ys = is_nil ys
related_lists R (x ∷ xs) ys = some_pick (λ y rest. let later = related_lists R xs rest in cond (R x y) later false) [] ys

-- all ascending lists of a length over the places lo, .., lo + d - 1, in dictionary order
unfoldable pub lists_from : ℕ → ℕ → ℕ → List (List ℕ)
lists_from d lo zero = [] ∷ []
lists_from zero lo (suc size) = []
lists_from (suc d) lo (suc size) = map (λ xs. lo ∷ xs) (lists_from (suc d) lo size) ++ lists_from d (suc lo) (suc size)

-- over the places below a number
unfoldable pub lists : ℕ → ℕ → List (List ℕ)
unfolding lists_from
lists places size = lists_from places 0 size

-- how often a list stands among lists
unfoldable pub times : List ℕ → List (List ℕ) → ℕ
unfolding same_list
times xs [] = 0
times xs (ys ∷ yss) = cond (same_list xs ys) 1 0 + times xs yss

-- whether a list ascends, from lo on and below hi, and has a length
unfoldable pub ascends : ℕ → ℕ → ℕ → List ℕ → Bool
ascends lo hi zero [] = true
ascends lo hi zero (x ∷ xs) = false
ascends lo hi (suc size) [] = false
ascends lo hi (suc size) (x ∷ xs) = nat_le lo x && (nat_lt x hi && ascends x hi size xs)

-- whether a list is before another in dictionary order
unfoldable pub earlier : List ℕ → List ℕ → Bool
earlier [] [] = false
earlier [] (y ∷ ys) = true
earlier (x ∷ xs) [] = false
earlier (x ∷ xs) (y ∷ ys) = nat_lt x y || (x == y && earlier xs ys)

abbrev pub Before : List ℕ → List (List ℕ) → Type 0
Before l [] = Unit {0}
Before l (m ∷ ms) = T (earlier l m) × Before l ms

-- each list stands before all those behind it
abbrev pub Ordered : List (List ℕ) → Type 0
Ordered [] = Unit {0}
Ordered (l ∷ ls) = Before l ls × Ordered ls
