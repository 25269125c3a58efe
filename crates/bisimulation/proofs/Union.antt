-- A net of two places with one transition that takes a token from each and gives it back: the identity and the exchange
-- of the two places are place bisimulations, and their union is not, since under it two tokens on one place are related
-- to one on each.
use Rattle.std.proofs.Common.{◌≡◌, ◌+◌, ◌^◌, ◌<◌, ◌≤◌, true, false, cond, eqb, List, [], ◌∷◌, sym, refl, ◌∙◌, subst, inl, inr, arith, lit<, lit≤}
use Rattle.std.proofs.lemmas.Bool.{cases_eq, le-ltb, false≢true}
use Rattle.places.specs.Sets.{PlaceRelation, tokens_below, size}
use Rattle.nets.specs.Meaning.{Meaning, Limits}
use Rattle.nets.specs.Rows.{row_at, tabled, tabled_limits, InputsKept, OutputsKept, LabelsKept}
use Rattle.nets.specs.declared.row.Row.{Row}
use Rattle.bisimulation.specs.Lists.{list_of, same_list, related_lists, lists}
use Rattle.bisimulation.specs.Verdicts.{verdict_of}
use Rattle.bisimulation.specs.Theorems.{is_accepted, either, UnionFails}
use Rattle.bisimulation.proofs.Accepts.{accepted_exactly}

abbrev rows : List Row
rows = record { label = 1; inputs = 1 ∷ 1 ∷ []; outputs = 1 ∷ 1 ∷ []; inhibitors = false ∷ false ∷ [] } ∷ []

abbrev G : Meaning
G = tabled 2 1 rows

abbrev identity : PlaceRelation
identity p q = eqb p q

abbrev exchange : PlaceRelation
exchange p q = eqb (p + q) 1

ins : InputsKept 2 1 rows
unfolding tokens_below
ins t l = elim (cases_eq 0 t) [
  | inl e ↦ subst (λ s. (1 ≤ size (G.input s)) × (size (G.input s) ≤ 4)) e (lit≤ tt, lit≤ tt)
  | inr n ↦ absurd (omega arith)
]

outs : OutputsKept 2 1 rows
unfolding tokens_below
outs t l = elim (cases_eq 0 t) [
  | inl e ↦ subst (λ s. (1 ≤ size (G.output s)) × (size (G.output s) ≤ 4)) e (lit≤ tt, lit≤ tt)
  | inr n ↦ absurd (omega arith)
]

labels : LabelsKept 2 1 rows
labels t = elim (cases_eq 0 t) [
  | inl e ↦ subst (λ s. G.label s < 2 ^ 64) e (lit< tt)
  | inr n ↦ subst (λ b. cond b (row_at rows t).label 0 < 2 ^ 64) (sym (le-ltb t 1 (omega arith))) (lit< tt)
]

G_limits : Limits G
G_limits = tabled_limits 2 1 rows (lit≤ tt) (lit≤ tt) ins outs labels

identity_accepted : is_accepted (verdict_of G G identity) ≡ true
unfolding list_of same_list related_lists lists
identity_accepted = refl

exchange_accepted : is_accepted (verdict_of G G exchange) ≡ true
unfolding list_of same_list related_lists lists
exchange_accepted = refl

union_refused : is_accepted (verdict_of G G (either identity exchange)) ≡ false
unfolding list_of same_list related_lists lists
union_refused = refl

pub union_fails : UnionFails
union_fails = record {
  net = G;
  limits = G_limits;
  one = identity;
  other = exchange;
  one_holds = (accepted_exactly G G identity G_limits G_limits).0 identity_accepted;
  other_holds = (accepted_exactly G G exchange G_limits G_limits).0 exchange_accepted;
  union_fails = λ b. false≢true (sym union_refused ∙ (accepted_exactly G G (either identity exchange) G_limits G_limits).1 b);
}
