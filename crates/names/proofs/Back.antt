-- From a number back to the name that is packed into it.
use Rattle.std.proofs.Common.{◌≡◌, ℕ, zero, suc, ◌+◌, ◌-◌, ◌*◌, ◌/◌, ◌%◌, ◌^◌, ◌<◌, ◌≤◌, true, cond, not, ◌&&◌, ◌||◌, eqb, leb, List, [], ◌∷◌, ◌++◌, length, take, drop, replicate, sym, refl, ap, ◌∙◌, subst, inl, inr, mod-lt, mod-eq_of_lt, div-one, one-add, arith, lit<}
use native.Mathlib.Nat.{zero-div, zero-mod, pow-succ'}
use lib.Arith.{digits_lt, digits_div, digits_mod, mod-mul}
use Rattle.std.specs.List.{prefix_len}
use Rattle.std.proofs.lemmas.List.{take-append-le, drop-append-le, take_all, drop_all}
use Rattle.std.proofs.lemmas.Bool.{and_parts, and_from, or_cases, leb-true, eqb-true, eq-eqb, ne_eqb}
use Rattle.names.specs.Names.{is_letter, is_tail, all_tail, valid_name, pack_into, packed, IsName, PackedOnce}
use Rattle.names.specs.Numbers.{bytes_in, before_zero, text_in, is_packed}
use Rattle.names.specs.Laws.{text_name}
use Rattle.names.specs.Written.{Written}

pow_above : (k : ℕ) → 0 < 256 ^ k
pow_above zero = lit< tt
pow_above (suc k) = rw pow-succ' (omega (arith, pow_above k))

-- a byte in front of a number of k bytes
bytes_more : (k q r : ℕ) → r < 256 ^ k → bytes_in (suc k) (q * 256 ^ k + r) ≡ q ∷ bytes_in k r
unfolding bytes_in
bytes_more k q r h = ap (λ d. d ∷ bytes_in k ((q * 256 ^ k + r) % 256 ^ k)) (digits_div q h) ∙ ap (λ m. q ∷ bytes_in k m) (digits_mod q h)

bytes_none : (k : ℕ) → bytes_in k 0 ≡ replicate k 0
unfolding bytes_in
bytes_none zero = refl
bytes_none (suc k) = ap (λ d. d ∷ bytes_in k (0 % 256 ^ k)) (zero-div (256 ^ k)) ∙ ap (λ m. 0 ∷ bytes_in k m) (zero-mod (256 ^ k)) ∙ ap (λ bs. 0 ∷ bs) (bytes_none k)

-- a byte, and not 0
Solid : ℕ → Type 0
Solid b = (0 < b) × (b < 256)

solid_letter : (b : ℕ) → is_letter b ≡ true → Solid b
unfolding Solid
solid_letter b e = elim (or_cases (leb 65 b && leb b 90) (leb 97 b && leb b 122) e) [
  | inl h ↦ let p = and_parts (leb 65 b) (leb b 90) h in (omega (arith, leb-true 65 b p.0), omega (arith, leb-true b 90 p.1))
  | inr h ↦ let p = and_parts (leb 97 b) (leb b 122) h in (omega (arith, leb-true 97 b p.0), omega (arith, leb-true b 122 p.1))
]

solid_tail : (b : ℕ) → is_tail b ≡ true → Solid b
unfolding Solid
solid_tail b e = elim (or_cases (is_letter b) ((leb 48 b && leb b 57) || eqb b 95) e) [
  | inl h ↦ solid_letter b h
  | inr h ↦ elim (or_cases (leb 48 b && leb b 57) (eqb b 95) h) [
    | inl d ↦ let p = and_parts (leb 48 b) (leb b 57) d in (omega (arith, leb-true 48 b p.0), omega (arith, leb-true b 57 p.1))
    | inr d ↦ (omega (arith, eqb-true b 95 d), omega (arith, eqb-true b 95 d))
  ]
]

-- a list of such bytes
AllSolid : List ℕ → Type 0
AllSolid [] = Unit {0}
AllSolid (b ∷ bs) = Solid b × AllSolid bs

solid_tails : (bs : List ℕ) → all_tail bs ≡ true → AllSolid bs
unfolding AllSolid
solid_tails [] e = tt
solid_tails (b ∷ bs) e = let p = and_parts (is_tail b) (all_tail bs) e in (solid_tail b p.0, solid_tails bs p.1)

solid_name : (bs : List ℕ) → valid_name bs ≡ true → AllSolid bs × (length bs ≤ 8)
unfolding AllSolid
solid_name [] e = let z : ◌≡◌ {A = ℕ} 0 1 = cc in absurd (omega arith)
solid_name (b ∷ bs) e =
    let p = and_parts (is_letter b) (leb (length (b ∷ bs)) 8 && all_tail bs) e in
    let q = and_parts (leb (length (b ∷ bs)) 8) (all_tail bs) p.1 in
    ((solid_letter b p.0, solid_tails bs q.1), leb-true (length (b ∷ bs)) 8 q.0)

pack_lt : (k : ℕ) (bs : List ℕ) → AllSolid bs → pack_into k bs < 256 ^ k
unfolding AllSolid Solid
pack_lt zero bs h = lit< tt
pack_lt (suc k) [] h = pow_above (suc k)
pack_lt (suc k) (b ∷ bs) h = rw pow-succ' (digits_lt h.0.1 (pack_lt k bs h.1))

-- the bytes of a packed list: the list, and zeros behind
bytes_back : (k : ℕ) (bs : List ℕ) → AllSolid bs → length bs ≤ k → bytes_in k (pack_into k bs) ≡ bs ++ replicate (k - length bs) 0
unfolding AllSolid bytes_in
bytes_back zero [] h l = refl
bytes_back zero (b ∷ bs) h l = absurd (omega arith)
bytes_back (suc k) [] h l = let e : suc k ≡ suc k - 0 = omega arith in bytes_none (suc k) ∙ ap (λ m. replicate m 0) e
bytes_back (suc k) (b ∷ bs) h l =
    let e : k - length bs ≡ suc k - length (b ∷ bs) = omega arith in
    bytes_more k b (pack_into k bs) (pack_lt k bs h.1) ∙
    ap (λ cs. b ∷ cs) (bytes_back k bs h.1 (omega arith)) ∙
    ap (λ m. b ∷ (bs ++ replicate m 0)) e

front_zeros : (m : ℕ) → before_zero (replicate m 0) ≡ []
front_zeros zero = refl
front_zeros (suc m) = refl

-- a byte that is not 0 stands in front of the first zero byte
front_more : (b : ℕ) (bs : List ℕ) → (b ≡ 0 → ⊥) → before_zero (b ∷ bs) ≡ b ∷ before_zero bs
front_more b bs n = ap (λ t. take (cond (not t) (1 + prefix_len (λ x. not (eqb x 0)) bs) 0) (b ∷ bs)) (ne_eqb b 0 n) ∙ ap (λ k. take k (b ∷ bs)) (one-add _)

front_back : (bs : List ℕ) (m : ℕ) → AllSolid bs → before_zero (bs ++ replicate m 0) ≡ bs
unfolding AllSolid Solid
front_back [] m h = front_zeros m
front_back (b ∷ bs) m h = front_more b (bs ++ replicate m 0) (λ e. omega (arith, h.0.0)) ∙ ap (λ cs. b ∷ cs) (front_back bs m h.1)

-- what a name is packed into holds the name
pub text_back : (bs : List ℕ) → valid_name bs ≡ true → text_in (packed bs) ≡ bs
text_back bs e = let s = solid_name bs e in ap before_zero (bytes_back 8 bs s.0 s.1) ∙ front_back bs (8 - length bs) s.0

pub packed_once : PackedOnce
packed_once xs ys p q e = sym (text_back xs p) ∙ ap text_in e ∙ text_back ys q

pub packed_is : (bs : List ℕ) → valid_name bs ≡ true → is_packed (packed bs) ≡ true
packed_is bs e =
    let t = text_back bs e in
    and_from (valid_name (text_in (packed bs))) (eqb (packed (text_in (packed bs))) (packed bs)) (ap valid_name t ∙ e) (eq-eqb _ _ (ap packed t))

pub name_packed : (n : ℕ) → IsName n → is_packed n ≡ true
name_packed n i = subst (λ m. is_packed m ≡ true) i.1.1 (packed_is i.0 i.1.0)

-- the bytes of a number below 256 ^ k, each by itself
flat : ℕ → ℕ → List ℕ
flat zero n = []
flat (suc k) n = (n / 256 ^ k % 256) ∷ flat k n

flat_is : (k n : ℕ) → bytes_in k (n % 256 ^ k) ≡ flat k n
unfolding bytes_in flat
flat_is zero n = refl
flat_is (suc k) n =
    ap (λ m. bytes_in (suc k) (n % m)) (pow-succ' 256 k) ∙
    ap (bytes_in (suc k)) (mod-mul n (lit< tt) (pow_above k)) ∙
    bytes_more k (n / 256 ^ k % 256) (n % 256 ^ k) (mod-lt n (pow_above k)) ∙
    ap (λ bs. (n / 256 ^ k % 256) ∷ bs) (flat_is k n)

pub big_endian : (n : ℕ) → n < 2 ^ 64 → (n / 72057594037927936 % 256) ∷ (n / 281474976710656 % 256) ∷ (n / 1099511627776 % 256) ∷ (n / 4294967296 % 256) ∷ (n / 16777216 % 256) ∷ (n / 65536 % 256) ∷ (n / 256 % 256) ∷ (n % 256) ∷ [] ≡ bytes_in 8 n
unfolding flat
big_endian n h =
    ap (λ d. (n / 72057594037927936 % 256) ∷ (n / 281474976710656 % 256) ∷ (n / 1099511627776 % 256) ∷ (n / 4294967296 % 256) ∷ (n / 16777216 % 256) ∷ (n / 65536 % 256) ∷ (n / 256 % 256) ∷ (d % 256) ∷ []) (sym (div-one n)) ∙
    sym (flat_is 8 n) ∙ ap (bytes_in 8) (mod-eq_of_lt h)

-- the 8 bytes of the number that a name is packed into, cut behind the name
pub written : (n k : ℕ) (bytes : List ℕ) → is_packed n ≡ true → k ≡ length (text_in n) → bytes ≡ bytes_in 8 n → Written n k bytes
written n k bytes e c b =
    let i = text_name n e in
    let t : List ℕ = text_in n in
    let s = solid_name t i.0 in
    let whole : bytes ≡ t ++ replicate (8 - length t) 0 = b ∙ ap (bytes_in 8) (sym i.1) ∙ bytes_back 8 t s.0 s.1 in
    let front : take k bytes ≡ t =
    ap (λ m. take m bytes) c ∙ ap (take (length t)) whole ∙ take-append-le (length t) t (replicate (8 - length t) 0) (omega arith) ∙ take_all (length t) t (omega arith) in
    let behind : drop k bytes ≡ replicate (8 - length t) 0 =
    ap (λ m. drop m bytes) c ∙ ap (drop (length t)) whole ∙ drop-append-le (length t) t (replicate (8 - length t) 0) (omega arith) ∙ ap (λ cs. cs ++ replicate (8 - length t) 0) (drop_all (length t) t (omega arith)) in
    record {
      count = c;
      text = front;
      valid = ap valid_name front ∙ i.0;
      packs = ap packed front ∙ i.1;
      rest = behind ∙ ap (λ m. replicate (8 - m) 0) (sym c);
      same = λ bs v p. front ∙ packed_once t bs i.0 v (i.1 ∙ sym p);
    }
