use Rattle.std.specs.List.{list_all}
use Rattle.std.proofs.Common.{◌≡◌, T, length, get_or, nat_lt, sym, refl, ap, ◌∙◌, subst, arith}
use Rattle.std.proofs.lemmas.Bool.{false≢true, both_ways}
use Rattle.places.specs.Bags.{single, ◌⊖◌}
use Rattle.bisimulation.specs.Lists.{tokens_of}
use Rattle.pairing.specs.Laws.{T_of, of_T}
use Rattle.verdict.specs.Relating.{pairs_of}
use Rattle.verdict.specs.Search.{Completes}
use Rattle.verdict.specs.ShortLists.{listed}
use Rattle.verdict.proofs.Paired.{completes_none, completes_by, before_more, none_completes, nothing, first_and_later, later_than_first}
use Rattle.verdict.proofs.Tops.{all_reach}
use Rattle.verdict.proofs.matching.+completes.Goals as goal
use Rattle.verdict.proofs.matching.+completes.Goals.{else-relates-via-then-relates+else-completes, else-relates-via-else-relates}

pub returns-in_default : goal.returns-in_default
returns-in_default t c =
    let h = c.args.half.now in
    let xs = listed c.args.tokens in
    let none = nothing c.args.chosen.now c.in_default.len_below in
    let told : c.all_above.result ≡ list_all (λ p. nat_lt c.args.from (get_or h.tops p 0)) xs = c.all_above.ensures ∙ ap (list_all (λ p. nat_lt c.args.from (get_or h.tops p 0))) c.as_slice.ensures in
    let reach = all_reach h.pairs h.tops h.topped h.wide c.args.from xs in
    let both = completes_none {R = pairs_of h.pairs} {lo = c.args.from} xs in (
      λ e. subst (λ cs. Completes (pairs_of h.pairs) (tokens_of xs) cs c.args.from) (sym none) (both.0 (reach.0 (sym told ∙ e))),
      λ d. told ∙ reach.1 (both.1 (subst (λ cs. Completes (pairs_of h.pairs) (tokens_of xs) cs c.args.from) none d)),
    )

pub returns-then-completes : goal.returns-then-completes
returns-then-completes t c =
    let R = pairs_of c.args.half.now.pairs in
    let xs = listed c.args.tokens in
    let q = get_or c.args.chosen.now 0 0 in
    let cs = later_than_first c.args.chosen.now in
    let i = c.loop-token.token-index in
    let token : get_or c.as_slice-token-items.result.now i 0 ≡ get_or xs i 0 = ap (λ ys. get_or ys i 0) c.as_slice-token-items.ensures in
    let related = subst (λ x. T (R x q)) token (T_of _ (sym c.relates.ensures ∙ c.if-relates.true)) in
    let rest = subst (λ b. Completes R b cs c.args.from) (c.without.ensures ∙ ap (λ v. tokens_of xs ⊖ single v) token) (c.if-completes.ensures.0 refl) in
    let whole = completes_by xs i q cs (omega (arith, c.loop-token-test.true, ap length c.as_slice-token-items.ensures)) related rest in
    (λ e. subst (λ ds. Completes R (tokens_of xs) ds c.args.from) (sym (first_and_later c.args.chosen.now c.in-len1-up.len_at_least)) whole, λ d. refl)

pub loop-token-preserved : goal.loop-token-preserved
loop-token-preserved t c =
    let R = pairs_of c.args.half.now.pairs in
    let xs = listed c.args.tokens in
    let q = get_or c.args.chosen.now 0 0 in
    let cs = later_than_first c.args.chosen.now in
    let i = c.loop-token.token-index in
    let token : get_or c.as_slice-token-items.result.now i 0 ≡ get_or xs i 0 = ap (λ ys. get_or ys i 0) c.as_slice-token-items.ensures in
    elim c.else-relates.branch [
      | else-relates-via-then-relates+else-completes w ↦ before_more xs i q cs c.loop-token.invariant (λ r d. false≢true (w.if-completes.ensures.1 (subst (λ b. Completes R b cs c.args.from) (sym (w.without.ensures ∙ ap (λ v. tokens_of xs ⊖ single v) token)) d)))
      | else-relates-via-else-relates w ↦ before_more xs i q cs c.loop-token.invariant (λ r d. both_ways _ (sym c.relates.ensures ∙ w.if-relates.false) (of_T _ (subst (λ x. T (R x q)) (sym token) r)))
    ]

pub returns : goal.returns
returns t c =
    let R = pairs_of c.args.half.now.pairs in
    let xs = listed c.args.tokens in (
      λ e. absurd (false≢true e),
      λ d. absurd (none_completes xs (later_than_first c.args.chosen.now) (omega (arith, c.loop-token-test.false, ap length c.as_slice-token-items.ensures)) c.loop-token.invariant (subst (λ cs. Completes R (tokens_of xs) cs c.args.from) (first_and_later c.args.chosen.now c.in-len1-up.len_at_least) d)),
    )
