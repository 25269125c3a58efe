use Rattle.std.proofs.Common.{◌≡◌, ◌+◌, ◌-◌, ◌*◌, ◌∷◌, ◌++◌, ◌∙◌, map, sym, ap, refl, rules}
use Rattle.std.proofs.lemmas.Fn.{serves_by}
use Rattle.numerals.specs.Numerals.{value_after}
use Rattle.numerals.proofs.Steps.{given_front, at_digit, value_more}
use Rattle.numerals.proofs.value.Goals as goal

pub fold-requires-clause-callable : goal.fold-requires-clause-callable
fold-requires-clause-callable c =
    serves_by _ (λ xs q. q.1 ≡ value_after 0 (map (λ y. y.now) xs))
    (λ xs q x v j r. let step : v.1 ≡ q.1 * 10 + (x.now - 48) = search rules in step ∙ ap (λ n. n * 10 + (x.now - 48)) j ∙ sym (value_more xs x 0)) _ _ _ _ refl
    (λ xs t q x u y e j.
    let word : c.args.word.now ≡ map (λ y. y.now) xs ++ x.now ∷ u.rest.now = cc (given_front c.iter.result xs t y) in
    let digit = at_digit c.args.word.now (map (λ y. y.now) xs) u.rest.now x.now c.requires word in
    search rules)
