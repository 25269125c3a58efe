-- A pairing of two bags exists exactly when the closure relates them.
use Rattle.std.proofs.Common.{ℕ, ◌+◌, List, [], ◌∷◌, refl, ap, subst₂}
use mathlib.Core.Path.{fun_ext}
use Rattle.places.specs.Bags.{Bag, single}
use Rattle.places.specs.Sets.{PlaceRelation}
use Rattle.pairing.specs.Closure.{Closure, none, more, lefts, rights, AllIn, Pairing, PairedExactly}

listed : {R : PlaceRelation} {m n : Bag} → Closure R m n → (xs : List (ℕ × ℕ)) × Pairing R m n xs
listed none = ([], record { related = tt; left_ends = λ p. refl; right_ends = λ q. refl })
listed (more a b r c) =
    let rest = listed c in (
      (a, b) ∷ rest.0,
      record {
        related = (r, rest.1.related);
        left_ends = λ p. ap (λ k. single a p + k) (rest.1.left_ends p);
        right_ends = λ q. ap (λ k. single b q + k) (rest.1.right_ends q);
      },
    )

closed : {R : PlaceRelation} (xs : List (ℕ × ℕ)) → AllIn R xs → Closure R (lefts xs) (rights xs)
closed [] all = none
closed (x ∷ xs) all = more x.0 x.1 all.0 (closed xs all.1)

pub paired_exactly : PairedExactly
paired_exactly R m n = (listed, λ p. subst₂ (Closure R) (fun_ext p.1.left_ends) (fun_ext p.1.right_ends) (closed p.0 p.1.related))
