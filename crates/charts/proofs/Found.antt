-- The steps of lists of names.
use Rattle.std.proofs.Common.{◌≡◌, ℕ, ◌+◌, ◌<◌, true, false, cond, not, ◌||◌, eqb, List, [], ◌∷◌, ◌++◌, map, length, get_or, Some, None, Option, sym, refl, ap, ◌∙◌, subst, inl, inr, arith, MatchOption}
use Rattle.std.proofs.lemmas.List.{length_push, map-append, get_or_push, get_or_append_left}
use Rattle.std.proofs.lemmas.Option.{slice_get-map, slice_get_within, slice_get_read, get_or_from_slice_get}
use Rattle.std.specs.List.{slice_get}
use Rattle.std.proofs.lemmas.Bool.{cases_lt, eq-eqb, ne_eqb, and_parts, and_from, or_parts, or_from, not-true, not_from_false}
use Rattle.std.specs.Option.{option_map}
use Rattle.names.specs.Names.{IsName}
use Rattle.names.specs.Numbers.{is_packed}
use Rattle.names.specs.Laws.{packed_name}
use Rattle.names.specs.Meanings.{number_of}
use Rattle.names.specs.declared.name.Name.{Name}
use Rattle.std.specs.List.{position_from}
use Rattle.std.proofs.lemmas.List.Folds.{list_any-append}
use Rattle.charts.specs.Naming.{position, has_name, AllNames, distinct}

-- the first that passes in a list of values
pub first_map : {X : Type 0} (h : X → ℕ) (n i : ℕ) (xs : List X) → position_from (λ x. eqb (h x) n) i xs ≡ position_from (λ y. eqb y n) i (map h xs)
first_map h n i [] = refl
first_map h n i (x ∷ xs) = ap (λ o. cond (eqb (h x) n) (Some i) o) (first_map h n (i + 1) xs)

-- what is read as a name that stands there
pub name_read : (r : Option Name) (n : ℕ) → MatchOption r (IsName n → ⊥) (λ m. IsName n × (number_of m ≡ n)) → IsName n → option_map number_of r ≡ Some n
name_read None n h i = absurd (h i)
name_read (Some m) n h i = ap Some h.1

has_push : (x y : ℕ) (xs : List ℕ) → has_name x xs ≡ false → (y ≡ x → ⊥) → has_name x (xs ++ y ∷ []) ≡ false
has_push x y xs h n = list_any-append (λ z. eqb z x) xs (y ∷ []) ∙ or_from (has_name x xs) (eqb y x || false) h (or_from (eqb y x) false (ne_eqb y x n) refl)

-- one name more
pub distinct_push : (xs : List ℕ) (y : ℕ) → distinct xs ≡ true → has_name y xs ≡ false → distinct (xs ++ y ∷ []) ≡ true
distinct_push [] y d h = refl
distinct_push (x ∷ xs) y d h =
    let p = or_parts (eqb x y) (has_name y xs) h in
    let q = and_parts (not (has_name x xs)) (distinct xs) d in
    let other : y ≡ x → ⊥ = λ e. apart x y p.0 (sym e) in
    and_from (not (has_name x (xs ++ y ∷ []))) (distinct (xs ++ y ∷ []))
    (not_from_false (has_name x (xs ++ y ∷ [])) (has_push x y xs (not-true (has_name x xs) q.0) other))
    (distinct_push xs y q.1 p.1)
  where
    apart : (a b : ℕ) → eqb a b ≡ false → a ≡ b → ⊥
    apart a b f e = let t = eq-eqb a b e in let z : ◌≡◌ {A = ℕ} 0 1 = cc in omega arith

pub names_push : (xs : List ℕ) (y : ℕ) → AllNames xs → is_packed y ≡ true → AllNames (xs ++ y ∷ [])
names_push xs y h e i l = elim (cases_lt i (length xs)) [
  | inl less ↦ ap is_packed (get_or_append_left xs (y ∷ []) 0 i less) ∙ h i less
  | inr more ↦
      let last : length xs ≡ i = omega (arith, length_push xs y) in
      ap is_packed (get_or_push xs y 0 i last) ∙ e
]

-- what is found in a list of values
pub first_named : {X : Type 0} (h : X → ℕ) (xs : List X) (n m : ℕ) (r : Option ℕ) → r ≡ position_from (λ x. eqb (h x) n) 0 xs → n ≡ m → r ≡ position m (map h xs)
first_named h xs n m r f e = f ∙ first_map h n 0 xs ∙ ap (λ k. position k (map h xs)) e

-- what is read as the name, of the number n, at i of the numbers that are read off some entries
pub name_at : {X : Type 0} (h : X → ℕ) (xs : List X) (i : ℕ) (x : X) (n : ℕ) (r : Option Name) → i < length xs → x ≡ get_or xs i x → AllNames (map h xs) → n ≡ h x → MatchOption r (IsName n → ⊥) (λ m. IsName n × (number_of m ≡ n)) → option_map number_of r ≡ slice_get (map h xs) i
name_at h xs i x n r l at names same read =
    let there : slice_get (map h xs) i ≡ Some (h x) = slice_get-map h xs i ∙ ap (option_map h) (slice_get_read xs (length xs) i x refl l at) in
    let inside = slice_get_within (map h xs) i (h x) there in
    let packed : is_packed n ≡ true = ap is_packed (same ∙ sym (get_or_from_slice_get (map h xs) i (h x) 0 there)) ∙ names i inside in
    name_read r n read (packed_name _ packed) ∙ ap Some same ∙ sym there

-- one entry more
pub valid_more : {E : Type 0} (f : E → ℕ) (es : List E) (e : E) (after : List E) → after ≡ es ++ e ∷ [] → AllNames (map f es) → is_packed (f e) ≡ true → AllNames (map f after)
valid_more f es e after more h p = subst AllNames (sym (ap (map f) more ∙ map-append f es (e ∷ []))) (names_push (map f es) (f e) h p)

pub distinct_more : {E : Type 0} (f : E → ℕ) (es : List E) (e : E) (after : List E) → after ≡ es ++ e ∷ [] → distinct (map f es) ≡ true → has_name (f e) (map f es) ≡ false → distinct (map f after) ≡ true
distinct_more f es e after more h n = ap distinct (ap (map f) more ∙ map-append f es (e ∷ [])) ∙ distinct_push (map f es) (f e) h n
