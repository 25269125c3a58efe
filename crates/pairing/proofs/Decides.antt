-- What the answer says decides whether the closure relates the two bags.
use Rattle.std.proofs.Common.{◌≡◌, ℕ, zero, suc, ◌<◌, ◌≤◌, Bool, true, false, cond, ltb, Ok, Err, Result, sym, refl, ap, subst, ◌∙◌, inl, inr, add-one, arith}
use Rattle.std.proofs.lemmas.Bool.{false≢true, cases_lt, lt-ltb, ltb-true, ltb-false}
use Rattle.std.specs.Result.{IsErrAnd, MatchResult}
use Rattle.bags.specs.Items.{items}
use Rattle.bags.specs.declared.sequence.Sequence.{Sequence}
use Rattle.places.specs.Bags.{Bag}
use Rattle.places.specs.Sets.{Subset, PlaceRelation, turned, everywhere, tokens_below, size, Placed}
use Rattle.places.specs.Meanings.{set_of}
use Rattle.places.specs.Laws.{tokens_le, tokens_none, tokens_more}
use Rattle.places.specs.declared.place_set.PlaceSet.{PlaceSet}
use Rattle.places.specs.declared.Side.{Side}
use Rattle.places.specs.declared.Side.TheVariants.{Left, Right}
use Rattle.pairing.specs.Closure.{Closure, Pairing}
use Rattle.pairing.specs.Outnumbering.{beside, Outnumbers}
use Rattle.pairing.specs.Answers.{OutnumbersFrom, Answers, Decided}
use Rattle.pairing.specs.Search.{Fails}
use Rattle.pairing.specs.Refusals.{shown_with}
use Rattle.pairing.specs.declared.PairingRefusal.{PairingRefusal}
use Rattle.pairing.specs.declared.PairingRefusal.TheVariants.{NoPairing}
use Rattle.pairing.proofs.Paired.{paired_exactly}
use Rattle.pairing.proofs.Counting.{outnumbered_apart}

-- all marked places of the larger bag outnumber all places of the other
larger : (R : PlaceRelation) (m n : Bag) (S : Subset) → size n < size m → ((p : ℕ) → S p ≡ ltb 0 (m p)) → Outnumbers R m n S
larger R m n S more marks = omega (
  arith,
  more,
  tokens_le 16 (beside R S) everywhere n n (λ i l. least (beside R S i) (n i)),
  tokens_le 16 everywhere S m m (λ i l. all i (S i) refl),
)
  where
    least : (b : Bool) (k : ℕ) → cond b k 0 ≤ k
    least true k = omega arith
    least false k = omega arith

    all : (i : ℕ) → (b : Bool) → S i ≡ b → m i ≤ cond b (m i) 0
    all i true e = omega arith
    all i false e = omega (arith, ltb-false 0 (m i) (sym (marks i) ∙ e))

-- where there is a token below k, there is a marked place
some_marked : (k : ℕ) (m : Bag) → 0 < tokens_below k everywhere m → (p : ℕ) × (0 < m p)
some_marked zero m more = absurd (omega (arith, tokens_none everywhere m))
some_marked (suc k) m more = elim (cases_lt 0 (m k)) [
  | inl h ↦ (k, h)
  | inr h ↦ some_marked k m (omega (arith, tokens_more k everywhere m, ap (λ j. tokens_below j everywhere m) (add-one k)))
]

apart : {R : PlaceRelation} {m n : Bag} (side : Side) (S : Subset) → Placed m → Placed n → OutnumbersFrom side R m n S → Closure R m n → ⊥
apart {R} {m} {n} Left S zm zn o c = (outnumbered_apart R m n S zm zn).0 o c
apart {R} {m} {n} Right S zm zn o c = (outnumbered_apart R m n S zm zn).1 o c

decided : (R : PlaceRelation) (m n : Bag) (r : Result (Sequence (ℕ × ℕ) 64) PairingRefusal) → Placed m → Placed n → Answers R m n r → Decided R m n r
decided R m n (Ok xs) zm zn a = record { says = a; exact = (λ _. (paired_exactly R m n).1 (items xs, a.pairing), λ _. refl) }
decided R m n (Err e) zm zn a = record { says = a; exact = (λ h. absurd (false≢true h), λ c. absurd (apart (shown_with e).0 (set_of (shown_with e).1) zm zn a.outnumbers c)) }

pub found : {R : PlaceRelation} {m n : Bag} (xs : Sequence (ℕ × ℕ) 64) → Placed m → Placed n → Pairing R m n (items xs) → Decided R m n (Ok xs)
found {R} {m} {n} xs zm zn p = decided R m n (Ok xs) zm zn (record { pairing = p })

sides : Left ≡ Right → ⊥
sides e = let z : ◌≡◌ {A = ℕ} 0 1 = cc in omega arith

-- two bags of one size show a set of left places
pub fails_equal : {R : PlaceRelation} {m n : Bag} (set : PlaceSet) → Placed m → Placed n → size m ≡ size n → Fails R m n (set_of set) → Decided R m n (Err (NoPairing (Left, set)))
fails_equal {R} {m} {n} set zm zn even f = decided R m n (Err (NoPairing (Left, set))) zm zn (record {
  outnumbers = f.outnumbers;
  larger_right = (λ e. absurd (sides e), λ l. absurd (omega arith));
  some_place = f.some_place;
  marked = f.marked;
  all_marked = λ odd. absurd (odd even);
})

-- a set with which the search has failed comes back
pub fails_as : {R : PlaceRelation} {m n : Bag} (r : Result (Sequence (ℕ × ℕ) 64) PlaceSet) (set : PlaceSet) → IsErrAnd r (λ x. x ≡ set) → Fails R m n (set_of set)
    → MatchResult r (λ pairs. Pairing R m n (items pairs)) (λ places. Fails R m n (set_of places))
fails_as (Ok pairs) set e f = absurd e
fails_as {R} {m} {n} (Err places) set e f = subst (λ s. Fails R m n (set_of s)) (sym e) f

-- the pairing, or the refusal with the set
pub decided_as : {R : PlaceRelation} {m n : Bag} (r : Result (Sequence (ℕ × ℕ) 64) PlaceSet) (s : Result (Sequence (ℕ × ℕ) 64) PairingRefusal) → Placed m → Placed n → size m ≡ size n
    → MatchResult r (λ pairs. Pairing R m n (items pairs)) (λ places. Fails R m n (set_of places))
    → MatchResult r (λ pairs. s ≡ Ok pairs) (λ places. IsErrAnd s (λ refusal. refusal ≡ NoPairing (Left, places)))
    → Decided R m n s
decided_as {R} {m} {n} (Ok pairs) s zm zn even h e = subst (λ t. Decided R m n t) (sym e) (found pairs zm zn h)
decided_as {R} {m} {n} (Err places) (Ok pairs) zm zn even h e = absurd e
decided_as {R} {m} {n} (Err places) (Err refusal) zm zn even h e = subst (λ t. Decided R m n (Err t)) (sym e) (fails_equal places zm zn even h)

-- the larger bag shows all its marked places
pub fails_left : {R : PlaceRelation} {m n : Bag} (set : PlaceSet) → Placed m → Placed n → size n < size m → ((p : ℕ) → set_of set p ≡ ltb 0 (m p)) → Decided R m n (Err (NoPairing (Left, set)))
fails_left {R} {m} {n} set zm zn more marks = decided R m n (Err (NoPairing (Left, set))) zm zn (record {
  outnumbers = larger R m n (set_of set) more marks;
  larger_right = (λ e. absurd (sides e), λ l. absurd (omega arith));
  some_place = (let one = some_marked 16 m (omega arith) in (one.0, marks one.0 ∙ lt-ltb 0 (m one.0) one.1));
  marked = λ p e. ltb-true 0 (m p) (sym (marks p) ∙ e);
  all_marked = λ odd. marks;
})

pub fails_right : {R : PlaceRelation} {m n : Bag} (set : PlaceSet) → Placed m → Placed n → size m < size n → ((p : ℕ) → set_of set p ≡ ltb 0 (n p)) → Decided R m n (Err (NoPairing (Right, set)))
fails_right {R} {m} {n} set zm zn more marks = decided R m n (Err (NoPairing (Right, set))) zm zn (record {
  outnumbers = larger (turned R) n m (set_of set) more marks;
  larger_right = (λ _. more, λ _. refl);
  some_place = (let one = some_marked 16 n (omega arith) in (one.0, marks one.0 ∙ lt-ltb 0 (n one.0) one.1));
  marked = λ p e. ltb-true 0 (n p) (sym (marks p) ∙ e);
  all_marked = λ odd. marks;
})
