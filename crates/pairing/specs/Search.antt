-- What the search for a pairing knows while it works. Assumes nothing.
-- xs are the pairs made so far, free the right tokens that are in no pair, seen the right places that were tried.
use Rattle.std.specs.Prelude.{◌≡◌, ℕ, ◌+◌, ◌-◌, ◌<◌, ◌≤◌, true, false, cond, ◌⊎◌, List, [], ◌∷◌, ◌++◌, length, get_or, count_by, ◌≢◌, nat_eq, slice_index_or}
use Rattle.places.specs.Bags.{Bag, single, ◌⊖◌}
use Rattle.places.specs.Sets.{Subset, PlaceRelation, nowhere, size}
use Rattle.pairing.specs.Outnumbering.{Outnumbers}

-- how many pairs start at p, and how many end at q
abbrev pub starts : List (ℕ × ℕ) → Bag
starts xs p = count_by (λ x. nat_eq x.0 p) xs

abbrev pub ends : List (ℕ × ℕ) → Bag
ends xs q = count_by (λ x. nat_eq x.1 q) xs

-- the two ends of the pair at a number
abbrev pub left_end : List (ℕ × ℕ) → ℕ → ℕ
left_end xs j = (get_or xs j (0, 0)).0

abbrev pub right_end : List (ℕ × ℕ) → ℕ → ℕ
right_end xs j = (get_or xs j (0, 0)).1

-- how many places have not been seen
abbrev pub unseen : Subset → ℕ
unseen seen = size (λ p. cond (seen p) 0 1)

-- every pair is of related places
pub record Held (R : PlaceRelation) (xs : List (ℕ × ℕ)) : Type 0 where
  pub low : (j : ℕ) → j < length xs → left_end xs j < 16
  pub high : (j : ℕ) → j < length xs → right_end xs j < 16
  pub fits : (j : ℕ) → j < length xs → R (left_end xs j) (right_end xs j) ≡ true

-- no pair that ends at q could end at r
abbrev pub NoHolder : PlaceRelation → List (ℕ × ℕ) → ℕ → ℕ → Type 0
NoHolder R xs q r = (j : ℕ) → j < length xs → right_end xs j ≡ q → R (left_end xs j) r ≡ false

-- the pair at j ends at q and could end at r
pub record Holder (R : PlaceRelation) (xs : List (ℕ × ℕ)) (q r j : ℕ) : Type 0 where
  pub there : j < length xs
  pub at : right_end xs j ≡ q
  pub could : R (left_end xs j) r ≡ true

-- the pairs that end at q could end at seen places only, of those below k
abbrev pub Tried : PlaceRelation → List (ℕ × ℕ) → Subset → ℕ → ℕ → Type 0
Tried R xs seen q k = (j r : ℕ) → j < length xs → right_end xs j ≡ q → r < k → R (left_end xs j) r ≡ true → seen r ≡ true

-- q has no free token, and its pairs could end at seen places only
pub record Stuck (R : PlaceRelation) (xs : List (ℕ × ℕ)) (free : Bag) (seen : Subset) (q : ℕ) : Type 0 where
  pub taken : free q ≡ 0
  pub holders : Tried R xs seen q 16

-- pairs were moved, none that ends at a seen place but q, so that q has a free token
pub record Opened (R : PlaceRelation) (xs : List (ℕ × ℕ)) (free : Bag) (seen : Subset) (q : ℕ) (ys : List (ℕ × ℕ)) (left : Bag) : Type 0 where
  pub long : length ys ≡ length xs
  pub held : Held R ys
  pub starts_same : (p : ℕ) → starts ys p ≡ starts xs p
  pub sums : (r : ℕ) → ends ys r + left r ≡ ends xs r + free r
  pub frame : (j : ℕ) → j < length xs → seen (right_end xs j) ≡ true → (right_end xs j ≢ q) → slice_index_or ys j (0, 0) ≡ slice_index_or xs j (0, 0)
  pub there : 0 < left q

-- the pairs of q were tried for the places below k in vain: nothing was moved, and each place that was seen on the
-- way is stuck
pub record Trying (R : PlaceRelation) (xs : List (ℕ × ℕ)) (free : Bag) (seen : Subset) (q : ℕ) (ys : List (ℕ × ℕ)) (left : Bag) (seen-after : Subset) (k : ℕ) : Type 0 where
  pub same_pairs : ys ≡ xs
  pub same_free : left ≡ free
  pub grows : (r : ℕ) → seen r ≡ true → seen-after r ≡ true
  pub fewer : unseen seen-after ≤ unseen seen
  pub tried : Tried R xs seen-after q k
  pub stuck : (r : ℕ) → seen-after r ≡ true → seen r ≡ false → Stuck R xs free seen-after r

-- no token of q can be made free: nothing was moved, and q and each place that was seen on the way are stuck
pub record Shut (R : PlaceRelation) (xs : List (ℕ × ℕ)) (free : Bag) (seen : Subset) (q : ℕ) (ys : List (ℕ × ℕ)) (left : Bag) (seen-after : Subset) : Type 0 where
  pub same_pairs : ys ≡ xs
  pub same_free : left ≡ free
  pub grows : (r : ℕ) → seen r ≡ true → seen-after r ≡ true
  pub marked : seen-after q ≡ true
  pub fewer : unseen seen-after ≤ unseen seen
  pub stuck : (r : ℕ) → seen-after r ≡ true → seen r ≡ false → Stuck R xs free seen-after r

-- the places below k that are related to p were tried in vain; nothing was moved, and each seen place is stuck
pub record Blocked (R : PlaceRelation) (xs : List (ℕ × ℕ)) (free : Bag) (p k : ℕ) (ys : List (ℕ × ℕ)) (left : Bag) (seen : Subset) : Type 0 where
  pub same_pairs : ys ≡ xs
  pub same_free : left ≡ free
  pub stuck : (r : ℕ) → seen r ≡ true → Stuck R xs free seen r
  pub tried : (r : ℕ) → r < k → R p r ≡ true → seen r ≡ true

-- q is related to p and has a free token
pub record Room (R : PlaceRelation) (xs : List (ℕ × ℕ)) (free : Bag) (p q : ℕ) (ys : List (ℕ × ℕ)) (left : Bag) : Type 0 where
  pub low : q < 16
  pub fits : R p q ≡ true
  pub opened : Opened R xs free nowhere q ys left

-- one more pair, with the left end p: a token of q was made free, and taken
pub record Added (R : PlaceRelation) (xs : List (ℕ × ℕ)) (free : Bag) (p : ℕ) (ys : List (ℕ × ℕ)) (left : Bag) : Type 0 where
  pub q : ℕ
  pub opened_pairs : List (ℕ × ℕ)
  pub opened_free : Bag
  pub room : Room R xs free p q opened_pairs opened_free
  pub pair_more : ys ≡ opened_pairs ++ (p, q) ∷ []
  pub token_less : left ≡ opened_free ⊖ single q

-- the pairs are made of the tokens of m and n that are no longer in rest and free, and the places below p are done
pub record Going (R : PlaceRelation) (m n : Bag) (xs : List (ℕ × ℕ)) (rest free : Bag) (p : ℕ) : Type 0 where
  pub held : Held R xs
  pub lefts_and_rest : (k : ℕ) → starts xs k + rest k ≡ m k
  pub rights_and_free : (k : ℕ) → ends xs k + free k ≡ n k
  pub done : (k : ℕ) → k < p → rest k ≡ 0

-- the set of p and the left ends of the first n pairs that end at seen places
pub record Reached (xs : List (ℕ × ℕ)) (seen : Subset) (p n : ℕ) (S : Subset) : Type 0 where
  pub start : S p ≡ true
  pub ends_seen : (k : ℕ) → k < n → seen (right_end xs k) ≡ true → S (left_end xs k) ≡ true
  pub only : (i : ℕ) → S i ≡ true → (i ≡ p) ⊎ ((k : ℕ) × ((k < n) × (seen (right_end xs k) ≡ true) × (left_end xs k ≡ i)))

-- no token could be made free for p: nothing was moved, and S are the left places that were reached on the way
pub record InVain (R : PlaceRelation) (xs : List (ℕ × ℕ)) (free : Bag) (p : ℕ) (ys : List (ℕ × ℕ)) (left : Bag) (S : Subset) : Type 0 where
  pub seen : Subset
  pub blocked : Blocked R xs free p 16 ys left seen
  pub reached : Reached xs seen p (length xs) S

-- so many pairs more, all of them with the left end p
pub record PairedOf (R : PlaceRelation) (xs : List (ℕ × ℕ)) (free : Bag) (p times : ℕ) (ys : List (ℕ × ℕ)) (left : Bag) : Type 0 where
  pub held : Held R ys
  pub longer : length ys ≡ length xs + times
  pub starts_more : (k : ℕ) → starts ys k ≡ starts xs k + cond (nat_eq p k) times 0
  pub sums : (r : ℕ) → ends ys r + left r ≡ ends xs r + free r

-- fewer pairs than so many were made, and then no token could be made free for p
pub record ShortOf (R : PlaceRelation) (xs : List (ℕ × ℕ)) (free : Bag) (p times : ℕ) (S : Subset) : Type 0 where
  pub made : ℕ
  pub fewer : made < times
  pub pairs_then : List (ℕ × ℕ)
  pub free_then : Bag
  pub paired : PairedOf R xs free p made pairs_then free_then
  pub pairs_left : List (ℕ × ℕ)
  pub free_left : Bag
  pub in_vain : InVain R pairs_then free_then p pairs_left free_left S

-- the tokens of m that no pair of xs starts at
abbrev pub unpaired : Bag → List (ℕ × ℕ) → Bag
unpaired m xs k = m k - starts xs k

-- all tokens of m on the places below p are paired, and no others
pub record PairedBelow (R : PlaceRelation) (m n : Bag) (xs : List (ℕ × ℕ)) (free : Bag) (p : ℕ) : Type 0 where
  pub going : Going R m n xs (unpaired m xs) free p
  pub none : (k : ℕ) → p ≤ k → starts xs k ≡ 0

-- the search has failed at a set of left places: it outnumbers the places related to it, is not empty, and has only
-- places that hold a token of m
pub record Fails (R : PlaceRelation) (m n : Bag) (S : Subset) : Type 0 where
  pub outnumbers : Outnumbers R m n S
  pub some_place : (p : ℕ) × (S p ≡ true)
  pub marked : (p : ℕ) → S p ≡ true → 0 < m p
