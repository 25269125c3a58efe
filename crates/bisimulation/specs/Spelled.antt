-- A bag and its ascending list: laws that the crates above use. Assumes nothing.
use Rattle.std.specs.Prelude.{◌≡◌, ℕ, zero, suc, ◌+◌, ◌-◌, ◌<◌, ◌≤◌, Bool, true, false, cond, ◌&&◌, List, [], ◌∷◌, length, ◌==◌, ◌≢◌, nat_le, nat_lt, refl}
use Rattle.std.proofs.Common.{sym, ap, ◌∙◌, subst, inl, inr, arith}
use Rattle.std.proofs.lemmas.Bool.{cases_eq, cases_lt, eqb-true, eq-eqb, ne_eqb, lt-ltb, le-leb, leb-true, and_parts, and_from, ltb-true, false≢true}
use Rattle.places.specs.Bags.{Bag, single}
use Rattle.places.specs.Sets.{PlaceRelation}
use Rattle.places.specs.Laws.{single_same, single_other, single_le}
use Rattle.pairing.specs.Closure.{Closure}
use Rattle.pairing.specs.Laws.{moved, emptied, pick}
use Rattle.bisimulation.specs.Lists.{tokens_of, pile, list_from, list_of, same_list, ascends}

-- a bag, spelled

tokens_pile : (n x : ℕ) (xs : List ℕ) (p : ℕ) → tokens_of (pile n x xs) p ≡ cond (x == p) n 0 + tokens_of xs p
unfolding pile
tokens_pile zero x xs p = go (x == p)
  where
    go : (b : Bool) → tokens_of xs p ≡ cond b 0 0 + tokens_of xs p
    go true = omega arith
    go false = omega arith
tokens_pile (suc n) x xs p = omega (arith, tokens_pile n x xs p, go (x == p))
  where
    go : (b : Bool) → cond b 1 0 + cond b n 0 ≡ cond b (suc n) 0
    go true = omega arith
    go false = omega arith

pile_here : (n x : ℕ) (xs : List ℕ) → tokens_of (pile n x xs) x ≡ n + tokens_of xs x
pile_here n x xs = omega (arith, tokens_pile n x xs x, ap (λ (b : Bool). cond b n 0) (eq-eqb x x refl))

pile_other : (n x : ℕ) (xs : List ℕ) (p : ℕ) → (x ≢ p) → tokens_of (pile n x xs) p ≡ tokens_of xs p
pile_other n x xs p e = omega (arith, tokens_pile n x xs p, ap (λ (b : Bool). cond b n 0) (ne_eqb x p e))

spell_low : (d lo : ℕ) (m : Bag) (p : ℕ) → p < lo → tokens_of (list_from d lo m) p ≡ 0
unfolding list_from
spell_low zero lo m p h = refl
spell_low (suc d) lo m p h = pile_other (m lo) lo (list_from d (suc lo) m) p (λ e. omega arith) ∙ spell_low d (suc lo) m p (omega arith)

spell_in : (d lo : ℕ) (m : Bag) (p : ℕ) → lo ≤ p → p < lo + d → tokens_of (list_from d lo m) p ≡ m p
unfolding list_from
spell_in zero lo m p h l = absurd (omega arith)
spell_in (suc d) lo m p h l = elim (cases_eq lo p) [
  | inl e ↦ subst (λ (q : ℕ). tokens_of (pile (m lo) lo (list_from d (suc lo) m)) q ≡ m q) e (omega (arith, pile_here (m lo) lo (list_from d (suc lo) m), spell_low d (suc lo) m lo (omega arith)))
  | inr e ↦ pile_other (m lo) lo (list_from d (suc lo) m) p e ∙ spell_in d (suc lo) m p (omega arith) (omega arith)
]

spell_high : (d lo : ℕ) (m : Bag) (p : ℕ) → lo + d ≤ p → tokens_of (list_from d lo m) p ≡ 0
unfolding list_from
spell_high zero lo m p h = refl
spell_high (suc d) lo m p h = pile_other (m lo) lo (list_from d (suc lo) m) p (λ e. omega arith) ∙ spell_high d (suc lo) m p (omega arith)

pub spelled : (places : ℕ) (m : Bag) → ((p : ℕ) → places ≤ p → m p ≡ 0) → (p : ℕ) → tokens_of (list_of places m) p ≡ m p
unfolding list_of
spelled places m z p = elim (cases_lt p places) [
  | inl h ↦ spell_in places 0 m p (omega arith) (omega arith)
  | inr h ↦ spell_high places 0 m p (omega arith) ∙ sym (z p h)
]

-- it ascends

ascends_lower : (lo lo' hi size : ℕ) (xs : List ℕ) → lo ≤ lo' → ascends lo' hi size xs ≡ true → ascends lo hi size xs ≡ true
unfolding ascends
ascends_lower lo lo' hi zero [] h e = refl
ascends_lower lo lo' hi zero (x ∷ xs) h e = e
ascends_lower lo lo' hi (suc size) [] h e = e
ascends_lower lo lo' hi (suc size) (x ∷ xs) h e =
    let g = and_parts (nat_le lo' x) (nat_lt x hi && ascends x hi size xs) e in
    let l = leb-true lo' x g.0 in
    and_from _ _ (le-leb lo x (omega arith)) g.1

ascends_pile : (n x hi : ℕ) (xs : List ℕ) → x < hi → ascends x hi (length xs) xs ≡ true → ascends x hi (length (pile n x xs)) (pile n x xs) ≡ true
unfolding ascends pile
ascends_pile zero x hi xs h e = e
ascends_pile (suc n) x hi xs h e = and_from _ _ (le-leb x x (omega arith)) (and_from _ _ (lt-ltb x hi h) (ascends_pile n x hi xs h e))

pub list_ascends : (d lo hi : ℕ) (m : Bag) → lo + d ≡ hi → ascends lo hi (length (list_from d lo m)) (list_from d lo m) ≡ true
unfolding ascends list_from
list_ascends zero lo hi m h = refl
list_ascends (suc d) lo hi m h =
    ascends_pile (m lo) lo hi (list_from d (suc lo) m) (omega arith) (ascends_lower lo (suc lo) hi _ (list_from d (suc lo) m) (omega arith) (list_ascends d (suc lo) hi m (omega arith)))

-- related lists have one length

pub record Removed (ys : List ℕ) (y : ℕ) : Type 0 where
  pub left : List ℕ
  pub makes : (q : ℕ) → tokens_of left q ≡ tokens_of ys q - single y q
  pub shorter : suc (length left) ≡ length ys

pub remove : (ys : List ℕ) (y : ℕ) → 0 < tokens_of ys y → Removed ys y
remove [] y h = absurd (omega arith)
remove (z ∷ ys) y h = elim (cases_eq z y) [
  | inl e ↦ record { left = ys; makes = λ q. omega (arith, ap (λ (v : ℕ). single v q) e); shorter = refl }
  | inr e ↦ (
      let k : 0 < tokens_of ys y = omega (arith, single_other z y e) in
      let x = remove ys y k in
      record { left = z ∷ x.left; makes = λ q. omega (arith, x.makes q, single_le (tokens_of ys) y q k); shorter = ap suc x.shorter }
      )
]

pub one_length : {R : PlaceRelation} (xs ys : List ℕ) → Closure R (tokens_of xs) (tokens_of ys) → length xs ≡ length ys
one_length [] [] c = refl
one_length [] (y ∷ ys) c = absurd (omega (arith, emptied c (λ p. refl) y, single_same y))
one_length (x ∷ xs) ys c =
    let y = pick c x (omega (arith, single_same x)) in
    let z = remove ys y.other y.held in
    ap suc (one_length xs z.left (moved (λ p. omega arith) (λ q. sym (z.makes q)) y.rest)) ∙ z.shorter

-- lists that are the same

pub same_is : (xs ys : List ℕ) → same_list xs ys ≡ true → xs ≡ ys
unfolding same_list
same_is [] [] e = refl
same_is [] (y ∷ ys) e = absurd (false≢true e)
same_is (x ∷ xs) [] e = absurd (false≢true e)
same_is (x ∷ xs) (y ∷ ys) e =
    let g = and_parts _ _ e in
    let h = eqb-true x y g.0 in
    let t = same_is xs ys g.1 in
    cc

pub is_same : (xs zs : List ℕ) → xs ≡ zs → same_list xs zs ≡ true
unfolding same_list
is_same [] [] e = refl
is_same [] (z ∷ zs) e = absurd (let one : ◌≡◌ {A = ℕ} 0 1 = cc in omega arith)
is_same (x ∷ xs) [] e = absurd (let one : ◌≡◌ {A = ℕ} 0 1 = cc in omega arith)
is_same (x ∷ xs) (z ∷ zs) e =
    let first : x ≡ z = cc in
    let rest : xs ≡ zs = cc in
    and_from (x == z) (same_list xs zs) (eq-eqb x z first) (is_same xs zs rest)

-- an ascending list is the list of its bag

list_from_same : (d lo : ℕ) (m n : Bag) → ((p : ℕ) → lo ≤ p → m p ≡ n p) → list_from d lo m ≡ list_from d lo n
unfolding list_from
list_from_same zero lo m n h = refl
list_from_same (suc d) lo m n h = ap (λ c. pile c lo (list_from d (suc lo) m)) (h lo (omega arith)) ∙ ap (pile (n lo) lo) (list_from_same d (suc lo) m n (λ p l. h p (omega arith)))

-- a place below the first is not in the list
not_below : (lo hi size : ℕ) (ys : List ℕ) (p : ℕ) → p < lo → ascends lo hi size ys ≡ true → tokens_of ys p ≡ 0
unfolding ascends
not_below lo hi zero [] p l e = refl
not_below lo hi zero (y ∷ ys) p l e = absurd (false≢true e)
not_below lo hi (suc size) [] p l e = absurd (false≢true e)
not_below lo hi (suc size) (y ∷ ys) p l e =
    let g = and_parts (nat_le lo y) (nat_lt y hi && ascends y hi size ys) e in
    let r = and_parts (nat_lt y hi) (ascends y hi size ys) g.1 in
    omega (arith, leb-true lo y g.0, single_other y p (λ same. omega (arith, leb-true lo y g.0)), not_below y hi size ys p (omega (arith, leb-true lo y g.0)) r.1)

listed_from : (d lo hi : ℕ) (ys : List ℕ) → lo + d ≡ hi → ascends lo hi (length ys) ys ≡ true → list_from d lo (tokens_of ys) ≡ ys
unfolding list_from ascends pile
listed_from zero lo hi [] h e = refl
listed_from zero lo hi (y ∷ ys) h e =
    let g = and_parts (nat_le lo y) (nat_lt y hi && ascends y hi (length ys) ys) e in
    let r = and_parts (nat_lt y hi) (ascends y hi (length ys) ys) g.1 in
    absurd (omega (arith, leb-true lo y g.0, ltb-true y hi r.0))
listed_from (suc d) lo hi [] h e = listed_from d (suc lo) hi [] (omega arith) refl
listed_from (suc d) lo hi (y ∷ ys) h e =
    let g = and_parts (nat_le lo y) (nat_lt y hi && ascends y hi (length ys) ys) e in
    let r = and_parts (nat_lt y hi) (ascends y hi (length ys) ys) g.1 in
    let above = leb-true lo y g.0 in
    elim (cases_eq y lo) [
      | inl same ↦ (
          let front : tokens_of (y ∷ ys) lo ≡ suc (tokens_of ys lo) = omega (arith, ap (single y) (sym same), single_same y) in
          let later : list_from d (suc lo) (tokens_of (y ∷ ys)) ≡ list_from d (suc lo) (tokens_of ys) = list_from_same d (suc lo) (tokens_of (y ∷ ys)) (tokens_of ys) (λ p l. omega (arith, single_other y p (λ w. omega arith))) in
          let up : ascends lo hi (length ys) ys ≡ true = subst (λ v. ascends v hi (length ys) ys ≡ true) same r.1 in
          ap (λ c. pile c lo (list_from d (suc lo) (tokens_of (y ∷ ys)))) front ∙ ap (λ zs. lo ∷ pile (tokens_of ys lo) lo zs) later ∙ ap (λ zs. lo ∷ zs) (listed_from (suc d) lo hi ys h up) ∙ ap (λ v. v ∷ ys) (sym same)
          )
      | inr other ↦ (
          let none_here : tokens_of (y ∷ ys) lo ≡ 0 = omega (arith, single_other y lo other, not_below y hi (length ys) ys lo (omega arith) r.1) in
          let up : ascends (suc lo) hi (length (y ∷ ys)) (y ∷ ys) ≡ true = and_from (nat_le (suc lo) y) (nat_lt y hi && ascends y hi (length ys) ys) (le-leb (suc lo) y (omega arith)) g.1 in
          ap (λ c. pile c lo (list_from d (suc lo) (tokens_of (y ∷ ys)))) none_here ∙ listed_from d (suc lo) hi (y ∷ ys) (omega arith) up
          )
    ]

pub ascending_list : (places : ℕ) (ys : List ℕ) → ascends 0 places (length ys) ys ≡ true → list_of places (tokens_of ys) ≡ ys
unfolding list_of
ascending_list places ys e = listed_from places 0 places ys (omega arith) e

-- an ascending list whose bag has no token beyond the places is below them
pub ascends_below : (lo hi places : ℕ) (ys : List ℕ) → ascends lo hi (length ys) ys ≡ true → ((q : ℕ) → places ≤ q → tokens_of ys q ≡ 0) → ascends lo places (length ys) ys ≡ true
unfolding ascends
ascends_below lo hi places [] e z = refl
ascends_below lo hi places (y ∷ ys) e z =
    let g = and_parts (nat_le lo y) (nat_lt y hi && ascends y hi (length ys) ys) e in
    let r = and_parts (nat_lt y hi) (ascends y hi (length ys) ys) g.1 in
    and_from (nat_le lo y) (nat_lt y places && ascends y places (length ys) ys) g.0
    (and_from (nat_lt y places) (ascends y places (length ys) ys)
    (elim (cases_lt y places) [ inl l ↦ lt-ltb y places l | inr h ↦ absurd (omega (arith, z y h, single_same y)) ])
    (ascends_below y hi places ys r.1 (λ q h. omega (arith, z q h))))

pub ascends_up : (lo hi places : ℕ) (ys : List ℕ) → hi ≤ places → ascends lo hi (length ys) ys ≡ true → ascends lo places (length ys) ys ≡ true
unfolding ascends
ascends_up lo hi places [] h e = refl
ascends_up lo hi places (y ∷ ys) h e =
    let g = and_parts (nat_le lo y) (nat_lt y hi && ascends y hi (length ys) ys) e in
    let r = and_parts (nat_lt y hi) (ascends y hi (length ys) ys) g.1 in
    and_from (nat_le lo y) (nat_lt y places && ascends y places (length ys) ys) g.0
    (and_from (nat_lt y places) (ascends y places (length ys) ys) (lt-ltb y places (omega (arith, ltb-true y hi r.0))) (ascends_up y hi places ys h r.1))

pub ascends_length : (lo hi size : ℕ) (ys : List ℕ) → ascends lo hi size ys ≡ true → length ys ≡ size
unfolding ascends
ascends_length lo hi zero [] e = refl
ascends_length lo hi zero (y ∷ ys) e = absurd (false≢true e)
ascends_length lo hi (suc size) [] e = absurd (false≢true e)
ascends_length lo hi (suc size) (y ∷ ys) e =
    let g = and_parts (nat_le lo y) (nat_lt y hi && ascends y hi size ys) e in
    ap suc (ascends_length y hi size ys (and_parts (nat_lt y hi) (ascends y hi size ys) g.1).1)

pub ascends_size : (lo hi size : ℕ) (ys : List ℕ) → ascends lo hi size ys ≡ true → ascends lo hi (length ys) ys ≡ true
ascends_size lo hi size ys e = subst (λ k. ascends lo hi k ys ≡ true) (sym (ascends_length lo hi size ys e)) e
