use Rattle.places.specs.Meanings.{bag_of, relation_of}
use Rattle.nets.specs.Tables.{table_meaning}
use Rattle.bisimulation.specs.Lists.{list_of}
use Rattle.verdict.proofs.Whole.{answer_from}
use Rattle.verdict.proofs.answering.answer_value.Goals as goal

pub returns : goal.returns
returns c = answer_from c.args.side (table_meaning c.args.nets.now.left.now) (table_meaning c.args.nets.now.right.now) (relation_of c.args.nets.now.relation.now) c.half.result c.args.t (list_of 16 (bag_of c.args.bag.now)) c.answer_half.result c.half.ensures c.answer_half.ensures
