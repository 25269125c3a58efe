use Rattle.std.proofs.Common.{◌≤◌, length, sym, ap, ◌∙◌, subst}
use Rattle.nets.specs.Tables.{table_meaning, table_limits}
use Rattle.bisimulation.specs.Lists.{list_of}
use Rattle.nets.specs.Roles.{weights_in}
use Rattle.verdict.specs.ShortLists.{listed}
use Rattle.verdict.proofs.Flows.{listed_none, listed_more, listed_all, still_short, flow_short, ListedTo}
use Rattle.verdict.proofs.outline.flow_list.Goals as goal

pub loop-p-init : goal.loop-p-init
loop-p-init c =
    let m = weights_in (table_meaning c.args.net.now) c.args.role c.args.t in
    (c.places-p-end.ensures, subst (ListedTo m c.places-p-end.result 0) (sym c.new-list.ensures) (listed_none m c.places-p-end.result))

pub pile_on-requires : goal.pile_on-requires
pile_on-requires c =
    let n = table_meaning c.args.net.now in
    let short = flow_short n c.args.role c.args.t (table_limits c.args.net.now) in
    still_short (weights_in n c.args.role c.args.t) c.places-p-end.result c.loop-p.p (listed c.loop-p.list) c.weight.result c.loop-p-test.true c.weight.ensures (subst (λ k. length (list_of k (weights_in n c.args.role c.args.t)) ≤ 4) (sym c.places-p-end.ensures) short) c.loop-p.invariant.1

pub loop-p-preserved : goal.loop-p-preserved
loop-p-preserved c = (
  c.places-p-end.ensures,
  listed_more (weights_in (table_meaning c.args.net.now) c.args.role c.args.t) c.places-p-end.result c.loop-p.p (listed c.loop-p.list) (listed c.pile_on.new.list) c.weight.result c.loop-p-test.true c.weight.ensures c.pile_on.ensures c.loop-p.invariant.1,
)

pub returns : goal.returns
returns c =
    let n = table_meaning c.args.net.now in
    listed_all c.loop-p-test.false c.loop-p.invariant.1 ∙ ap (λ k. list_of k (weights_in n c.args.role c.args.t)) c.places-p-end.ensures
