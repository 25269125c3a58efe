use Rattle.std.proofs.Common.{sym, subst, arith}
use Rattle.places.specs.Meanings.{bag_of}
use Rattle.verdict.specs.ShortLists.{listed}
use Rattle.verdict.proofs.Flows.{ListedTo, listed_none, listed_more, listed_all, still_short, list_short}
use Rattle.verdict.proofs.answering.bag_list.Goals as goal

pub loop-p-init : goal.loop-p-init
loop-p-init c = subst (ListedTo (bag_of c.args.bag.now) 16 0) (sym c.new-list.ensures) (listed_none (bag_of c.args.bag.now) 16)

pub pile_on-requires : goal.pile_on-requires
pile_on-requires c = still_short (bag_of c.args.bag.now) 16 c.loop-p.p (listed c.loop-p.list) c.count.result c.loop-p-test.true c.count.ensures (omega (arith, list_short 16 (bag_of c.args.bag.now) (omega arith), c.requires)) c.loop-p.invariant

pub loop-p-preserved : goal.loop-p-preserved
loop-p-preserved c = listed_more (bag_of c.args.bag.now) 16 c.loop-p.p (listed c.loop-p.list) (listed c.pile_on.new.list) c.count.result c.loop-p-test.true c.count.ensures c.pile_on.ensures c.loop-p.invariant

pub returns : goal.returns
returns c = listed_all c.loop-p-test.false c.loop-p.invariant
