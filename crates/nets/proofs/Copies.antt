-- A table of rows that were copied from a net has the net's meaning.
use Rattle.std.proofs.Common.{◌≡◌, ℕ, ◌<◌, ◌≤◌, false, cond, ◌&&◌, ltb, List, get_or, sym, ap, ◌∙◌, inl, inr, arith}
use mathlib.Core.Path.{fun_ext}
use Rattle.std.proofs.lemmas.Bool.{cases_lt, lt-ltb, le-ltb, and_from, and_left, and_right}
use Rattle.nets.specs.Meaning.{Meaning, Limits}
use Rattle.nets.specs.Rows.{row_at, tabled}
use Rattle.nets.specs.Copies.{RowsOf}
use Rattle.nets.specs.declared.row.Row.{Row}

same_meaning : (a b : Meaning) → a.places ≡ b.places → a.transitions ≡ b.transitions → a.label ≡ b.label → a.input ≡ b.input → a.output ≡ b.output → a.inhibits ≡ b.inhibits → a ≡ b
same_meaning a b e₁ e₂ e₃ e₄ e₅ e₆ =
    ap (λ x. record { places = x; transitions = a.transitions; label = a.label; input = a.input; output = a.output; inhibits = a.inhibits }) e₁ ∙
    ap (λ x. record { places = b.places; transitions = x; label = a.label; input = a.input; output = a.output; inhibits = a.inhibits }) e₂ ∙
    ap (λ x. record { places = b.places; transitions = b.transitions; label = x; input = a.input; output = a.output; inhibits = a.inhibits }) e₃ ∙
    ap (λ x. record { places = b.places; transitions = b.transitions; label = b.label; input = x; output = a.output; inhibits = a.inhibits }) e₄ ∙
    ap (λ x. record { places = b.places; transitions = b.transitions; label = b.label; input = b.input; output = x; inhibits = a.inhibits }) e₅ ∙
    ap (λ x. record { places = b.places; transitions = b.transitions; label = b.label; input = b.input; output = b.output; inhibits = x }) e₆

-- an entry inside the net, and one outside
entry : {X : Type 0} (t p T P : ℕ) (v d w : X) → ((t < T) → (p < P) → v ≡ w) → ((T ≤ t) → d ≡ w) → ((P ≤ p) → d ≡ w) → cond (ltb t T && ltb p P) v d ≡ w
entry t p T P v d w inside past-t past-p = elim (cases_lt t T) [
  | inl lt ↦ elim (cases_lt p P) [
    | inl lp ↦ ap (λ b. cond b v d) (and_from (ltb t T) (ltb p P) (lt-ltb t T lt) (lt-ltb p P lp)) ∙ inside lt lp
    | inr gp ↦ ap (λ b. cond b v d) (and_right (ltb t T) (ltb p P) (le-ltb p P gp)) ∙ past-p gp
  ]
  | inr gt ↦ ap (λ b. cond b v d) (and_left (ltb t T) (ltb p P) (le-ltb t T gt)) ∙ past-t gt
]

pub copied : (n : Meaning) (places transitions : ℕ) (rows : List Row) → Limits n → places ≡ n.places → transitions ≡ n.transitions → RowsOf n rows → tabled places transitions rows ≡ n
copied n places transitions rows lim ep et rs = same_meaning (tabled places transitions rows) n ep et
    (fun_ext (λ t. elim (cases_lt t transitions) [
      | inl l ↦ ap (λ b. cond b (row_at rows t).label 0) (lt-ltb t transitions l) ∙ (rs.each t (omega (arith, lim.few_transitions))).label_is
      | inr g ↦ ap (λ b. cond b (row_at rows t).label 0) (le-ltb t transitions g) ∙ sym (lim.no_label t (omega arith))
    ]))
    (fun_ext (λ t. fun_ext (λ p. entry t p transitions places (get_or (row_at rows t).inputs p 0) 0 (n.input t p)
    (λ lt lp. (rs.each t (omega (arith, lim.few_transitions))).inputs_are p (omega (arith, lim.few_places)))
    (λ g. sym (lim.no_transition_input t p (omega arith))) (λ g. sym (lim.no_place_input t p (omega arith))))))
    (fun_ext (λ t. fun_ext (λ p. entry t p transitions places (get_or (row_at rows t).outputs p 0) 0 (n.output t p)
    (λ lt lp. (rs.each t (omega (arith, lim.few_transitions))).outputs_are p (omega (arith, lim.few_places)))
    (λ g. sym (lim.no_transition_output t p (omega arith))) (λ g. sym (lim.no_place_output t p (omega arith))))))
    (fun_ext (λ t. fun_ext (λ p. entry t p transitions places (get_or (row_at rows t).inhibitors p false) false (n.inhibits t p)
    (λ lt lp. (rs.each t (omega (arith, lim.few_transitions))).inhibitors_are p (omega (arith, lim.few_places)))
    (λ g. sym (lim.no_transition_inhibits t p (omega arith))) (λ g. sym (lim.no_place_inhibits t p (omega arith))))))
