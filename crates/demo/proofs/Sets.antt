-- Sets that have the same places below 16 have the same places.
use Rattle.std.proofs.Common.{◌≡◌, ℕ, ◌≤◌, ◌<◌, Bool, true, get_or, sym, ap, ◌∙◌, inl, inr, arith}
use Rattle.std.proofs.Math.Bool.{beq}
use Rattle.std.proofs.lemmas.Bool.{cases_lt}
use Rattle.std.proofs.lemmas.List.Elements.{All-get_or, All-from_get_or}
use Rattle.std.proofs.lemmas.List.FromFn.{length-range_with_len, get_or-range_with_len}
use Rattle.std.proofs.lemmas.List.Sums.{AllPass-from_list_all, list_all-from_AllPass}
use Rattle.std.specs.List.{list_all, range_with_len}
use Rattle.std.specs.Cmp.{booleans_Decides}
use Rattle.places.specs.Laws.{set_placed}
use Rattle.places.specs.Meanings.{set_of}
use Rattle.places.specs.declared.place_set.PlaceSet.{PlaceSet}

-- beyond 15 no set has a place
past : (a b : PlaceSet) (p : ℕ) → 16 ≤ p → set_of a p ≡ set_of b p
past a b p l = set_placed a p l ∙ sym (set_placed b p l)

pub same_sets : (a b : PlaceSet) (r : Bool) → r ≡ list_all (λ p. beq (set_of a p) (set_of b p)) (range_with_len 0 16) → (r ≡ true → (p : ℕ) → set_of a p ≡ set_of b p) × (((p : ℕ) → set_of a p ≡ set_of b p) → r ≡ true)
same_sets a b r told = (λ e p. elim (cases_lt p 16) [ inl below ↦ at p below (sym told ∙ e) | inr beyond ↦ past a b p beyond ], λ same. told ∙ list_all-from_AllPass agree (range_with_len 0 16) (All-from_get_or (λ p. agree p ≡ true) (range_with_len 0 16) 0 (λ i l. (booleans_Decides _ _).1 (same (get_or (range_with_len 0 16) i 0)))))
  where
    agree : ℕ → Bool
    agree p = beq (set_of a p) (set_of b p)

    at : (p : ℕ) → p < 16 → list_all agree (range_with_len 0 16) ≡ true → set_of a p ≡ set_of b p
    at p below e =
        let listed : get_or (range_with_len 0 16) p 0 ≡ p = omega (arith, get_or-range_with_len 0 16 p 0 below) in
        (booleans_Decides _ _).0 (sym (ap agree listed) ∙ All-get_or (λ x. agree x ≡ true) (range_with_len 0 16) p 0 (omega (arith, below, length-range_with_len 0 16)) (AllPass-from_list_all agree (range_with_len 0 16) e))
