use Rattle.places.specs.Meanings.{bag_of, relation_of}
use Rattle.places.specs.Laws.{bag_placed}
use Rattle.nets.specs.Tables.{table_meaning, table_limits}
use Rattle.verdict.proofs.Answered.{answer_says}
use Rattle.verdict.proofs.answering.give_answer.Goals as goal

pub returns : goal.returns
returns c = answer_says (table_meaning c.args.nets.now.left.now) (table_meaning c.args.nets.now.right.now) (relation_of c.args.nets.now.relation.now) c.args.side c.args.t (bag_of c.args.bag.now) c.answer_value.result c.answer_given.ensures (table_limits c.args.nets.now.left.now) (table_limits c.args.nets.now.right.now) (bag_placed c.args.bag.now) c.answer_value.ensures
