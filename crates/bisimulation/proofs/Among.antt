-- Elements of lists, and the first that has no answer.
use Rattle.std.specs.List.{find, list_all, range_with_len}
use Rattle.std.specs.Option.{option_or}
use Rattle.std.proofs.Common.{◌≡◌, ℕ, zero, suc, ◌<◌, Bool, true, false, cond, ◌&&◌, ◌⊎◌, List, [], ◌∷◌, ◌++◌, map, Some, None, Option, sym, refl, ap, ◌∙◌, subst, inl, inr, arith}
use Rattle.std.proofs.lemmas.List.Folds.{find-append, list_all-append}
use Rattle.pairing.specs.Laws.{range_to}
use Rattle.std.proofs.lemmas.Bool.{cases_eq, cases_Bool, cond-true, cond-false, and_parts, and_from}
use Rattle.bisimulation.specs.Laws.{open_or}
use Rattle.bisimulation.specs.Verdicts.{keep, all_below, lowest_below, first_open}

-- x is an element of the list
abbrev pub In : {X : Type 0} → X → List X → Type 0
In x [] = ⊥
In x (y ∷ ys) = (x ≡ y) ⊎ In x ys

pub in_left : {X : Type 0} (x : X) (xs ys : List X) → In x xs → In x (xs ++ ys)
in_left x [] ys h = absurd h
in_left x (z ∷ xs) ys (inl e) = inl e
in_left x (z ∷ xs) ys (inr h) = inr (in_left x xs ys h)

pub in_right : {X : Type 0} (x : X) (xs ys : List X) → In x ys → In x (xs ++ ys)
in_right x [] ys h = h
in_right x (z ∷ xs) ys h = inr (in_right x xs ys h)

pub in_either : {X : Type 0} (x : X) (xs ys : List X) → In x (xs ++ ys) → In x xs ⊎ In x ys
in_either x [] ys h = inr h
in_either x (z ∷ xs) ys (inl e) = inl (inl e)
in_either x (z ∷ xs) ys (inr h) = elim (in_either x xs ys h) [ inl a ↦ inl (inr a) | inr b ↦ inr b ]

pub in_map : {X Y : Type 0} (g : X → Y) (x : X) (xs : List X) → In x xs → In (g x) (map g xs)
in_map g x [] h = absurd h
in_map g x (z ∷ xs) (inl e) = inl (ap g e)
in_map g x (z ∷ xs) (inr h) = inr (in_map g x xs h)

pub map_in : {X Y : Type 0} (g : X → Y) (y : Y) (xs : List X) → In y (map g xs) → (x : X) × (In x xs × (y ≡ g x))
map_in g y [] h = absurd h
map_in g y (z ∷ xs) (inl e) = (z, (inl refl, e))
map_in g y (z ∷ xs) (inr h) = let r = map_in g y xs h in (r.0, (inr r.1.0, r.1.1))

pub in_keep : {X : Type 0} (f : X → Bool) (x : X) (xs : List X) → In x xs → f x ≡ true → In x (keep f xs)
in_keep f x [] h e = absurd h
in_keep f x (z ∷ xs) (inl same) e = subst (In x) (sym (cond-true (f z) (z ∷ keep f xs) (keep f xs) (ap f (sym same) ∙ e))) (inl same)
in_keep f x (z ∷ xs) (inr h) e = elim (cases_Bool (f z)) [
  | inl yes-z ↦ subst (In x) (sym (cond-true (f z) (z ∷ keep f xs) (keep f xs) yes-z)) (inr (in_keep f x xs h e))
  | inr no-z ↦ subst (In x) (sym (cond-false (f z) (z ∷ keep f xs) (keep f xs) no-z)) (in_keep f x xs h e)
]

pub keep_in : {X : Type 0} (f : X → Bool) (x : X) (xs : List X) → In x (keep f xs) → In x xs × (f x ≡ true)
keep_in f x [] h = absurd h
keep_in {X} f x (z ∷ xs) h = elim (cases_Bool (f z)) [
  | inl yes-z ↦ kept (keep_in f x xs) yes-z (subst (In x) (cond-true (f z) (z ∷ keep f xs) (keep f xs) yes-z) h)
  | inr no-z ↦ (let r = keep_in f x xs (subst (In x) (cond-false (f z) (z ∷ keep f xs) (keep f xs) no-z) h) in (inr r.0, r.1))
]
  where
    kept : (In x (keep f xs) → In x xs × (f x ≡ true)) → f z ≡ true → (x ≡ z) ⊎ In x (keep f xs) → In x (z ∷ xs) × (f x ≡ true)
    kept later yes-z (inl e) = (inl e, ap f e ∙ yes-z)
    kept later yes-z (inr h) = let r = later h in (inr r.0, r.1)

and_true : (b : Bool) → (b && true) ≡ b
and_true true = refl
and_true false = refl

all_step : (f : ℕ → Bool) (k : ℕ) → all_below f (suc k) ≡ (all_below f k && f k)
all_step f k = ap (list_all f) (range_to k) ∙ list_all-append f (range_with_len 0 k) (k ∷ []) ∙ ap (λ b. all_below f k && b) (and_true (f k))

-- a test at every number below k
pub all_from : (f : ℕ → Bool) (k : ℕ) → ((i : ℕ) → i < k → f i ≡ true) → all_below f k ≡ true
all_from f zero h = refl
all_from f (suc k) h = all_step f k ∙ and_from (all_below f k) (f k) (all_from f k (λ i l. h i (omega arith))) (h k (omega arith))

pub all_at : (f : ℕ → Bool) (k : ℕ) → all_below f k ≡ true → (i : ℕ) → i < k → f i ≡ true
all_at f zero e i l = absurd (omega arith)
all_at f (suc k) e i l =
    let both = and_parts (all_below f k) (f k) (sym (all_step f k) ∙ e) in
    elim (cases_eq i k) [ inl same ↦ ap f same ∙ both.1 | inr other ↦ all_at f k both.0 i (omega arith) ]

-- the lowest number below k at which a test passes, or none
abbrev pub Lowest : (ℕ → Bool) → ℕ → Option ℕ → Type 0
Lowest f k None = (i : ℕ) → i < k → f i ≡ false
Lowest f k (Some u) = (u < k) × (f u ≡ true) × ((v : ℕ) → v < u → f v ≡ false)

pub lowest : (f : ℕ → Bool) (k : ℕ) → Lowest f k (lowest_below f k)
lowest f zero = λ i l. absurd (omega arith)
lowest f (suc k) = subst (Lowest f (suc k)) (sym (ap (find f) (range_to k) ∙ find-append f (range_with_len 0 k) (k ∷ []))) (step (lowest_below f k) (lowest f k))
  where
    here : (b : Bool) → f k ≡ b → ((i : ℕ) → i < k → f i ≡ false) → Lowest f (suc k) (cond b (Some k) None)
    here true e h = (omega arith, e, h)
    here false e h = λ i l. elim (cases_eq i k) [ inl same ↦ ap f same ∙ e | inr other ↦ h i (omega arith) ]

    step : (o : Option ℕ) → Lowest f k o → Lowest f (suc k) (option_or o (cond (f k) (Some k) None))
    step (Some u) h = (omega (arith, h.0), h.1, h.2)
    step None h = here (f k) refl h

-- the first that has no answer
pub first_in : {X : Type 0} (f : X → Option ℕ) (o : X) (xs : List X) → first_open f xs ≡ Some o → In o xs × (f o ≡ None)
first_in f o [] e = absurd (none_some e)
  where
    none_some : {X : Type 0} {y : X} → ◌≡◌ {A = Option X} None (Some y) → ⊥
    none_some h = let z : ◌≡◌ {A = ℕ} 0 1 = cc in omega arith
first_in {X} f o (x ∷ xs) e = step (first_in f o xs) (f x) refl e
  where
    same : {y : X} → ◌≡◌ {A = Option X} (Some x) (Some y) → x ≡ y
    same h = cc

    step : (first_open f xs ≡ Some o → In o xs × (f o ≡ None)) → (v : Option ℕ) → f x ≡ v → open_or v x (first_open f xs) ≡ Some o → In o (x ∷ xs) × (f o ≡ None)
    step later (Some u) fx h = let r = later h in (inr r.0, r.1)
    step later None fx h = (inl (sym (same h)), ap f (sym (same h)) ∙ fx)

pub all_answered : {X : Type 0} (f : X → Option ℕ) (xs : List X) → first_open f xs ≡ None → (x : X) → In x xs → (u : ℕ) × (f x ≡ Some u)
all_answered f [] e x h = absurd h
all_answered {X} f (y ∷ xs) e x h = step (λ g i. all_answered f xs g x i) (f y) refl e h
  where
    some_none : {z : X} → ◌≡◌ {A = Option X} (Some z) None → ⊥
    some_none g = let z : ◌≡◌ {A = ℕ} 0 1 = cc in omega arith

    step : (first_open f xs ≡ None → In x xs → (u : ℕ) × (f x ≡ Some u)) → (v : Option ℕ) → f y ≡ v → open_or v y (first_open f xs) ≡ None → (x ≡ y) ⊎ In x xs → (u : ℕ) × (f x ≡ Some u)
    step rest (Some u) fy g (inl same) = (u, ap f same ∙ fy)
    step rest (Some u) fy g (inr later) = rest g later
    step rest None fy g i = absurd (some_none g)

pub none_open : {X : Type 0} (f : X → Option ℕ) (xs : List X) → ((x : X) → In x xs → (u : ℕ) × (f x ≡ Some u)) → first_open f xs ≡ None
none_open f [] h = refl
none_open {X} f (x ∷ xs) h = step (none_open f xs (λ y i. h y (inr i))) (f x) (h x (inl refl)).1
  where
    step : first_open f xs ≡ None → (v : Option ℕ) {u : ℕ} → v ≡ Some u → open_or v x (first_open f xs) ≡ None
    step later (Some u) e = later
    step later None e = absurd (let z : ◌≡◌ {A = ℕ} 0 1 = cc in omega arith)
