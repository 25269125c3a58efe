use Rattle.std.proofs.Common.{◌≡◌}
use Rattle.nets.specs.Roles.{weights_in}
use Rattle.nets.specs.Tables.{table_meaning}
use Rattle.verdict.specs.ShortLists.{listed}
use Rattle.verdict.proofs.Flows.{ListedTo}
use Rattle.verdict.proofs.outline.flow_list.Given as goal

abbrev pub invariant-loop-p : goal.invariant-loop-p
invariant-loop-p l = (l.p-end ≡ (table_meaning l.net).places) × ListedTo (weights_in (table_meaning l.net) l.role l.t) l.p-end l.p (listed l.list)
