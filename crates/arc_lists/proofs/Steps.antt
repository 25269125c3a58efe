-- The steps of the chains over arcs.
use Rattle.std.proofs.Common.{◌≡◌, ℕ, zero, suc, ◌+◌, ◌≤◌, min, Bool, true, false, cond, leb, List, [], ◌∷◌, map, length, fold, filter, sum_by, sym, refl, ap, ◌∙◌, subst, inl, inr, add-one, arith}
use Rattle.std.specs.List.{range_with_len}
use Rattle.std.proofs.lemmas.List.FromFn.{map-range_with_len_more}
use Rattle.std.proofs.lemmas.List.Sums.{fold_push, sum_by-cons}
use Rattle.std.proofs.lemmas.Bool.{cases_eq, cases_lt, and_right, lt-leb}
use Rattle.places.specs.Bags.{Bag}
use Rattle.places.specs.Sets.{everywhere, tokens_below}
use Rattle.places.specs.Laws.{tokens_more, tokens_none, tokens_at}
use Rattle.nets.specs.declared.role.Role.{Role}
use Rattle.nets.specs.declared.role.Role.TheVariants.{Input as RoleInput, Output as RoleOutput}
use Rattle.arc_lists.specs.Arcs.{weights, arc_bag, capped}
use Rattle.arc_lists.specs.Links.{role_number}
use Rattle.arc_lists.specs.Lists.{in_range, list_passes}
use Rattle.arc_lists.specs.Limits.{no_weight, sums_at, inputs_fit, outputs_fit, passed_parts}
use Rattle.arc_lists.specs.declared.arc.Arc.{Arc}

min_low : (a b : ℕ) → a ≤ b → min a b ≡ a
min_low a b l = omega arith

min_high : (a b : ℕ) → b ≤ a → min a b ≡ b
min_high a b l = omega arith

-- adding with a cap, and then more
cap_more : (s w r : ℕ) → min (min (s + w) 255 + r) 255 ≡ min (s + (w + r)) 255
cap_more s w r = omega arith

-- adding up the elements that pass, with a cap
pub capped_filter : {X : Type 0} (p : X → Bool) (f : X → ℕ) (xs : List X) (s : ℕ) → s ≤ 255 → fold (capped f) s (filter p xs) ≡ min (s + sum_by (λ x. cond (p x) (f x) 0) xs) 255
capped_filter p f [] s l = omega arith
capped_filter p f (x ∷ xs) s l = here (p x) (capped_filter p f xs) ∙ ap (λ n. min (s + n) 255) (sym (sum_by-cons (λ y. cond (p y) (f y) 0) x xs))
  where
    here : (b : Bool) → ((t : ℕ) → t ≤ 255 → fold (capped f) t (filter p xs) ≡ min (t + sum_by (λ y. cond (p y) (f y) 0) xs) 255) → fold (capped f) s (cond b (x ∷ filter p xs) (filter p xs)) ≡ min (s + (cond b (f x) 0 + sum_by (λ y. cond (p y) (f y) 0) xs)) 255
    here true rest = rest (min (s + f x) 255) (omega arith) ∙ cap_more s (f x) (sum_by (λ y. cond (p y) (f y) 0) xs)
    here false rest = rest s l ∙ omega arith

-- adding up the counts of a bag, with a cap on each and on the sum
pub capped_bag : (m : Bag) (k : ℕ) → fold (capped (λ w. w)) 0 (map (λ p. min (m p) 255) (range_with_len 0 k)) ≡ min (tokens_below k everywhere m) 255
capped_bag m zero = sym (ap (λ n. min n 255) (tokens_none everywhere m))
capped_bag m (suc k) =
    let f : ℕ → ℕ = λ p. min (m p) 255 in
    ap (λ n. fold (capped (λ w. w)) 0 (map f (range_with_len 0 n))) (sym (add-one k)) ∙
    ap (fold (capped (λ w. w)) 0) (map-range_with_len_more f 0 k k (omega arith)) ∙
    fold_push (capped (λ w. w)) 0 (map f (range_with_len 0 k)) (f k) ∙
    ap (λ n. min (n + min (m k) 255) 255) (capped_bag m k) ∙
    caps (tokens_below k everywhere m) (m k) ∙
    ap (λ n. min n 255) (sym (tokens_more k everywhere m)) ∙
    ap (λ n. min (tokens_below n everywhere m) 255) (add-one k)
  where
    caps : (a b : ℕ) → min (min a 255 + min b 255) 255 ≡ min (a + b) 255
    caps a b = omega arith

pub range_cap : (lowest n : ℕ) → lowest ≤ 4 → in_range lowest (min n 255) ≡ in_range lowest n
range_cap lowest n l = elim (cases_lt n 255) [
  | inl few ↦ ap (in_range lowest) (min_low n 255 (omega arith))
  | inr many ↦
      ap (in_range lowest) (min_high n 255 many) ∙
      and_right (leb lowest 255) (leb 255 4) refl ∙
      sym (and_right (leb lowest n) (leb n 4) (lt-leb n 4 (omega arith)))
]

-- what an input or an output weighs in a list that passes
pub weights_few : (P : ℕ) (labels : List ℕ) (arcs : List Arc) (k t p : ℕ) → list_passes P labels arcs ≡ true → k ≤ 1 → weights k t p arcs ≤ 4
weights_few P labels arcs k t p e l =
    let h = passed_parts P labels arcs e in
    elim (cases_lt t (length labels)) [
      | inr beyond ↦ omega (arith, no_weight P (length labels) k t p arcs h.one_by_one (inl beyond))
      | inl there ↦ elim (cases_lt p P) [
        | inr beyond ↦ omega (arith, no_weight P (length labels) k t p arcs h.one_by_one (inr beyond))
        | inl inside ↦
            let fit = sums_at (length labels) arcs h.sums t there in
            elim (cases_eq k 0) [
              | inl none ↦ subst (λ n. weights n t p arcs ≤ 4) (sym none) (omega (arith, tokens_at 16 everywhere (arc_bag 0 arcs t) p (omega (arith, h.narrow)) refl, (inputs_fit arcs t fit).1))
              | inr some ↦
                  let one : k ≡ 1 = omega arith in
                  subst (λ n. weights n t p arcs ≤ 4) (sym one) (omega (arith, tokens_at 16 everywhere (arc_bag 1 arcs t) p (omega (arith, h.narrow)) refl, (outputs_fit arcs t fit).1))
            ]
      ]
    ]

pub capped_is : (n : ℕ) → n ≤ 4 → min n 255 ≡ n
capped_is n l = min_low n 255 (omega arith)

-- the number of a role's kind
pub role_low : (r : Role) → role_number r ≤ 1
role_low RoleInput = omega arith
role_low RoleOutput = omega arith
