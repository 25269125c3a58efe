use Rattle.std.proofs.Common.{ap, sym, ◌∙◌}
use Rattle.std.proofs.lemmas.List.{at_drop_all}
use Rattle.places.specs.Meanings.{bag_of}
use Rattle.places.specs.Lists.{with_tokens}
use Rattle.places.proofs.Listed.{tokens_more, tokens_refused, refused_so}
use Rattle.places.proofs.lists.laid.Goals as goal

pub loop-token-init : goal.loop-token-init
loop-token-init c = ap (λ m. with_tokens m c.args.tokens.now) (sym c.new-bag.ensures)

pub returns-in_err-lay : goal.returns-in_err-lay
returns-in_err-lay c = refused_so c.from_residual.result _ c.from_residual.ensures.1 ∙ sym (c.loop-token.invariant ∙ tokens_refused (bag_of c.loop-token.bag) _ c.args.tokens.now c.loop-token.token-index _ c.loop-token-test.true c.in_err-lay.ensures)

pub loop-token-preserved : goal.loop-token-preserved
loop-token-preserved c = c.loop-token.invariant ∙ tokens_more (bag_of c.loop-token.bag) _ c.args.tokens.now c.loop-token.token-index _ c.loop-token-test.true c.in_ok-lay.ensures

pub returns : goal.returns
returns c = sym (c.loop-token.invariant ∙ at_drop_all (with_tokens (bag_of c.loop-token.bag)) c.args.tokens.now c.loop-token.token-index c.loop-token-test.false)
