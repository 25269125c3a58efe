use Rattle.std.proofs.Common.{arith}
use Rattle.bags.specs.Changes.{pushed_fits}
use Rattle.verdict.specs.ShortLists.{listed}
use Rattle.verdict.proofs.Flows.{piled_none, piled_more, piled_all}
use Rattle.verdict.proofs.outline.pile_on.Goals as goal

pub loop-init : goal.loop-init
loop-init c = piled_none (listed c.args.list.now) c.args.place

pub loop-preserved : goal.loop-preserved
loop-preserved c = piled_more (listed c.push.new.self) (pushed_fits 4 _ _ c.push.result _ c.push.ensures (omega (arith, c.requires, c.loop.invariant.long, c.loop-test.true))) c.loop.invariant

pub returns : goal.returns
returns c = piled_all c.loop.counter c.args.times (omega arith) c.loop.invariant
