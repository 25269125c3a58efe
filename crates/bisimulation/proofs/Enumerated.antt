-- The lists that are gone through: each ascending list once, in dictionary order.
use Rattle.std.proofs.Common.{◌≡◌, ℕ, zero, suc, ◌+◌, ◌≤◌, Bool, true, false, cond, ◌&&◌, ◌||◌, T, eqb, ltb, leb, List, [], ◌∷◌, ◌++◌, map, sym, refl, ap, ◌∙◌, inl, inr, arith, lt→ltb}
use lib.Dec.{eqb_refl}
use Rattle.std.proofs.lemmas.Bool.{cases_eq, cases_lt, eq-eqb, ne_eqb, lt-ltb, le-ltb, le-leb, lt-leb}
use Rattle.bisimulation.specs.Lists.{lists_from, lists, same_list, times, ascends, earlier, Before, Ordered}
use Rattle.bisimulation.specs.Theorems.{ListedOnce, ListedInOrder}

times_append : (xs : List ℕ) (ls ms : List (List ℕ)) → times xs (ls ++ ms) ≡ times xs ls + times xs ms
unfolding times
times_append xs [] ms = omega arith
times_append xs (l ∷ ls) ms = omega (arith, times_append xs ls ms)

times_nil : (lo : ℕ) (ls : List (List ℕ)) → times [] (map (λ ys. lo ∷ ys) ls) ≡ 0
unfolding times same_list
times_nil lo [] = refl
times_nil lo (l ∷ ls) = omega (arith, times_nil lo ls)

times_same : (x lo : ℕ) (xs : List ℕ) (ls : List (List ℕ)) → x ≡ lo → times (x ∷ xs) (map (λ ys. lo ∷ ys) ls) ≡ times xs ls
unfolding times same_list
times_same x lo xs [] e = refl
times_same x lo xs (l ∷ ls) e = omega (arith, times_same x lo xs ls e, ap (λ (v : Bool). cond {A = ℕ} (v && same_list xs l) 1 0) (eq-eqb x lo e))

times_other : (x lo : ℕ) (xs : List ℕ) (ls : List (List ℕ)) → (x ≡ lo → ⊥) → times (x ∷ xs) (map (λ ys. lo ∷ ys) ls) ≡ 0
unfolding times same_list
times_other x lo xs [] n = refl
times_other x lo xs (l ∷ ls) n = omega (arith, times_other x lo xs ls n, ap (λ (v : Bool). cond {A = ℕ} (v && same_list xs l) 1 0) (ne_eqb x lo n))

-- whether a list goes on at x, as a number
abbrev step : Bool → Bool → Bool → ℕ
step a b c = cond (a && (b && c)) 1 0

no_place : (lo hi x : ℕ) (r : Bool) → hi ≤ lo → step (leb lo x) (ltb x hi) r ≡ 0
no_place lo hi x r h = elim (cases_lt x lo) [
  | inl l ↦ ap (λ (v : Bool). step v (ltb x hi) r) (lt-leb lo x l)
  | inr l ↦ ap (λ (v : Bool). step v (ltb x hi) r) (le-leb lo x l) ∙ ap (λ (v : Bool). step true v r) (le-ltb x hi (omega arith))
]

past : (lo x : ℕ) → (x ≡ lo → ⊥) → leb (suc lo) x ≡ leb lo x
past lo x n = elim (cases_lt x lo) [
  | inl l ↦ lt-leb (suc lo) x (omega arith) ∙ sym (lt-leb lo x l)
  | inr l ↦ le-leb (suc lo) x (omega arith) ∙ sym (le-leb lo x l)
]

each : (d lo hi size : ℕ) (xs : List ℕ) → lo + d ≡ hi → times xs (lists_from d lo size) ≡ cond (ascends lo hi size xs) 1 0
unfolding lists_from times same_list ascends
each d lo hi zero [] h = refl
each d lo hi zero (x ∷ xs) h = refl
each zero lo hi (suc size) [] h = refl
each zero lo hi (suc size) (x ∷ xs) h = sym (no_place lo hi x (ascends x hi size xs) (omega arith))
each (suc d) lo hi (suc size) [] h =
    omega (arith, times_append [] (map (λ ys. lo ∷ ys) (lists_from (suc d) lo size)) (lists_from d (suc lo) (suc size)), times_nil lo (lists_from (suc d) lo size), each d (suc lo) hi (suc size) [] (omega arith))
each (suc d) lo hi (suc size) (x ∷ xs) h =
    let parts = times_append (x ∷ xs) (map (λ ys. lo ∷ ys) (lists_from (suc d) lo size)) (lists_from d (suc lo) (suc size)) in
    let first = each (suc d) lo hi size xs h in
    let later = each d (suc lo) hi (suc size) (x ∷ xs) (omega arith) in
    elim (cases_eq x lo) [
      | inl e ↦ omega (
        arith,
        times_same x lo xs (lists_from (suc d) lo size) e,
        ap (λ (v : Bool). step v (ltb x hi) (ascends x hi size xs)) (lt-leb (suc lo) x (omega arith)),
        ap (λ (v : Bool). step v (ltb x hi) (ascends x hi size xs)) (le-leb lo x (omega arith)),
        ap (λ (v : Bool). step true v (ascends x hi size xs)) (lt-ltb x hi (omega arith)),
        ap (λ (v : ℕ). cond {A = ℕ} (ascends v hi size xs) 1 0) e,
      )
      | inr e ↦ omega (arith, times_other x lo xs (lists_from (suc d) lo size) e, ap (λ (v : Bool). step v (ltb x hi) (ascends x hi size xs)) (past lo x e))
    ]

pub each_once : ListedOnce
unfolding lists
each_once places size xs = each places 0 places size xs (omega arith)

T_first : (a b : Bool) → T a → T (a || b)
T_first true b t = tt
T_first false b t = absurd t

T_second : (a b c : Bool) → T b → T c → T (a || (b && c))
T_second true b c t u = tt
T_second false true c t u = u
T_second false false c t u = absurd t

-- each list begins at lo or later
abbrev Heads : ℕ → List (List ℕ) → Type 0
Heads lo [] = Unit {0}
Heads lo ([] ∷ ls) = ⊥
Heads lo ((x ∷ xs) ∷ ls) = (lo ≤ x) × Heads lo ls

heads_map : (lo x : ℕ) (ls ms : List (List ℕ)) → lo ≤ x → Heads lo ms → Heads lo (map (λ ys. x ∷ ys) ls ++ ms)
heads_map lo x [] ms h g = g
heads_map lo x (l ∷ ls) ms h g = (h, heads_map lo x ls ms h g)

heads_lower : (lo : ℕ) (ls : List (List ℕ)) → Heads (suc lo) ls → Heads lo ls
heads_lower lo [] h = tt
heads_lower lo ([] ∷ ls) h = h
heads_lower lo ((x ∷ xs) ∷ ls) h = (omega (arith, h.0), heads_lower lo ls h.1)

heads : (d lo size : ℕ) → Heads lo (lists_from d lo (suc size))
unfolding lists_from
heads zero lo size = tt
heads (suc d) lo size = heads_map lo lo (lists_from (suc d) lo size) (lists_from d (suc lo) (suc size)) (omega arith) (heads_lower lo (lists_from d (suc lo) (suc size)) (heads d (suc lo) size))

before_heads : (x : ℕ) (l : List ℕ) (ms : List (List ℕ)) → Heads (suc x) ms → Before (x ∷ l) ms
unfolding earlier
before_heads x l [] h = tt
before_heads x l ([] ∷ ms) h = absurd h
before_heads x l ((y ∷ ys) ∷ ms) h = (T_first (ltb x y) (eqb x y && earlier l ys) (lt→ltb x y h.0), before_heads x l ms h.1)

before_map : (x : ℕ) (l : List ℕ) (ls ms : List (List ℕ)) → Before l ls → Before (x ∷ l) ms → Before (x ∷ l) (map (λ ys. x ∷ ys) ls ++ ms)
unfolding earlier
before_map x l [] ms b c = c
before_map x l (k ∷ ls) ms b c = (T_second (ltb x x) (eqb x x) (earlier l k) (eqb_refl x) b.0, before_map x l ls ms b.1 c)

ordered_map : (x : ℕ) (ls ms : List (List ℕ)) → Ordered ls → Heads (suc x) ms → Ordered ms → Ordered (map (λ ys. x ∷ ys) ls ++ ms)
ordered_map x [] ms o h p = p
ordered_map x (l ∷ ls) ms o h p = (before_map x l ls ms o.0 (before_heads x l ms h), ordered_map x ls ms o.1 h p)

ordered : (d lo size : ℕ) → Ordered (lists_from d lo size)
unfolding lists_from
ordered d lo zero = (tt, tt)
ordered zero lo (suc size) = tt
ordered (suc d) lo (suc size) = ordered_map lo (lists_from (suc d) lo size) (lists_from d (suc lo) (suc size)) (ordered (suc d) lo size) (heads d (suc lo) size) (ordered d (suc lo) (suc size))

pub in_order : ListedInOrder
unfolding lists
in_order places size = ordered places 0 size
