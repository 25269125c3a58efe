use Rattle.std.proofs.Common.{subst}
use Rattle.places.specs.Laws.{bag_placed}
use Rattle.places.specs.Meanings.{bag_of}
use Rattle.pairing.specs.Answers.{LargerOn}
use Rattle.pairing.proofs.Decides.{fails_left, fails_right}
use Rattle.pairing.proofs.search.larger.Goals as goal

pub returns-in-Left : goal.returns-in-Left
returns-in-Left c = fails_left c.marked.result (bag_placed c.args.left.now) (bag_placed c.args.right.now)
    (subst (λ side. LargerOn side (bag_of c.args.left.now) (bag_of c.args.right.now)) c.in-Left.is c.requires) c.marked.ensures

pub returns-in-Right : goal.returns-in-Right
returns-in-Right c = fails_right c.marked-in-Right.result (bag_placed c.args.left.now) (bag_placed c.args.right.now)
    (subst (λ side. LargerOn side (bag_of c.args.left.now) (bag_of c.args.right.now)) c.in-Right.is c.requires) c.marked-in-Right.ensures
