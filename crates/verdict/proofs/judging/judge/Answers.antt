use Rattle.nets.specs.Tables.{table_meaning, table_limits}
use Rattle.places.specs.Meanings.{relation_of}
use Rattle.verdict.proofs.Whole.{judges}
use Rattle.verdict.proofs.judging.judge.Goals as goal

pub returns : goal.returns
returns c = judges (table_meaning c.args.nets.now.left.now) (table_meaning c.args.nets.now.right.now) (relation_of c.args.nets.now.relation.now) c.both_sides.result c.accepted_exactly.ensures c.refused_breaks.ensures (table_limits c.args.nets.now.left.now) (table_limits c.args.nets.now.right.now) c.both_sides.ensures
