-- The worked examples of pairings.
use Rattle.std.proofs.Common.{◌≡◌, ℕ, ◌<◌, true, eqb, [], ◌∷◌, sym, refl, ap, ◌∙◌, subst, arith, lit<}
use Rattle.std.proofs.lemmas.Bool.{eqb-true}
use Rattle.places.specs.Bags.{Bag}
use Rattle.places.specs.Sets.{Subset, tokens_below, size, Placed}
use Rattle.places.specs.Laws.{single_other}
use Rattle.places.specs.declared.Side.{Side}
use Rattle.places.specs.declared.Side.TheVariants.{Left, Right}
use Rattle.pairing.specs.Outnumbering.{Outnumbers, OutnumberedApart}
use Rattle.pairing.specs.Answers.{Shows}
use Rattle.worked_examples.specs.Setting.{tokens, p, u, v, K}
use Rattle.worked_examples.specs.Worked.{TwoAgainstOneEach}

abbrev m : Bag
m = tokens (p ∷ p ∷ [])

abbrev n : Bag
n = tokens (u ∷ v ∷ [])

abbrev only_p : Subset
only_p x = eqb p x

placed_m : Placed m
placed_m x l = omega (arith, single_other 0 x (λ e. omega arith))

placed_n : Placed n
placed_n x l = omega (arith, single_other 0 x (λ e. omega arith), single_other 1 x (λ e. omega arith))

size_m : size m ≡ 2
unfolding tokens_below
size_m = refl

size_n : size n ≡ 2
unfolding tokens_below
size_n = refl

more : Outnumbers K m n only_p
unfolding tokens_below
more = lit< tt

sides : Left ≡ Right → ⊥
sides e = grind (arith, e)

marked_is_p : (x : ℕ) → 0 < m x → x ≡ p
marked_is_p x some = grind (arith, some, single_other 0 x)

left_only : (side : Side) → ((side ≡ Right) → 2 < 2) → side ≡ Left
left_only Left h = refl
left_only Right h = absurd (omega (arith, h refl))

only : (side : Side) (S : Subset) → Shows K m n side S → (side ≡ Left) × ((x : ℕ) → S x ≡ eqb p x)
only side S shows = (is_left, set_is)
  where
    is_left : side ≡ Left
    is_left = left_only side (λ e. omega (arith, shows.larger_right.0 e, size_m, size_n))

    on_left : Shows K m n Left S
    on_left = subst (λ s. Shows K m n s S) is_left shows

    has_p : S p ≡ true
    has_p = subst (λ x. S x ≡ true) (marked_is_p on_left.some_place.0 (on_left.marked on_left.some_place.0 on_left.some_place.1)) on_left.some_place.1

    set_is : (x : ℕ) → S x ≡ eqb p x
    set_is x = grind (arith, has_p, on_left.marked x, marked_is_p x)

pub two_against_one_each : OutnumberedApart → TwoAgainstOneEach
two_against_one_each apart = record {
  none = (apart K m n only_p placed_m placed_n).0 more;
  left_p = record {
    outnumbers = more;
    larger_right = (λ e. absurd (sides e), λ l. absurd (omega (arith, size_m, size_n)));
    some_place = (p, refl);
    marked = λ x e. omega (arith, ap m (eqb-true p x e));
    all_marked = λ odd. absurd (odd (size_m ∙ sym size_n));
  };
  only = only;
}
