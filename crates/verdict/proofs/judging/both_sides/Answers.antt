use Rattle.std.proofs.Common.{Ok, Err, refl, ◌∙◌, arith}
use Rattle.places.specs.Sets.{turned}
use Rattle.places.specs.Meanings.{relation_of}
use Rattle.places.specs.declared.Side.TheVariants.{Left, Right}
use Rattle.nets.specs.Tables.{table_meaning}
use Rattle.bisimulation.specs.Bisimulation.{between}
use Rattle.bisimulation.specs.Verdicts.{obligations_below}
use Rattle.verdict.specs.Results.{JudgedBelow}
use Rattle.verdict.proofs.Whole.{faced, refused_as, left_refused, right_refused, both_accepted, counted_of}
use Rattle.verdict.proofs.judging.both_sides.Goals as goal

pub returns-in_err-count : goal.returns-in_err-count
returns-in_err-count c =
    let n = table_meaning c.args.nets.now.left.now in
    let k = table_meaning c.args.nets.now.right.now in
    let R = relation_of c.args.nets.now.relation.now in
    let o = c.in_err-count.field-0.0 in
    let left = faced Left n k R c.half.result c.half.ensures (λ s m p S. JudgedBelow s m p S 0 (obligations_below s m p S m.transitions) (Err o)) c.in_err-count.ensures.judged in
    refused_as c.from_residual.result o c.from_residual.ensures.1 ∙ left_refused n k R (between n k R) (turned (between n k R)) refl refl o left

pub side_open-requires-2 : goal.side_open-requires-2
side_open-requires-2 c = record { room = omega (arith, c.in_ok-count.ensures.few, counted_of c.half.result (table_meaning c.half.result.mover.now).transitions c.in_ok-count.count c.in_ok-count.ensures.judged) }

pub returns-in_err-total : goal.returns-in_err-total
returns-in_err-total c =
    let n = table_meaning c.args.nets.now.left.now in
    let k = table_meaning c.args.nets.now.right.now in
    let R = relation_of c.args.nets.now.relation.now in
    let o = c.in_err-total.field-0.0 in
    let count = c.in_ok-count.count in
    let left = faced Left n k R c.half.result c.half.ensures (λ s m p S. JudgedBelow s m p S 0 (obligations_below s m p S m.transitions) (Ok count)) c.in_ok-count.ensures.judged in
    let right = faced Right n k R c.half-2.result c.half-2.ensures (λ s m p S. JudgedBelow s m p S count (obligations_below s m p S m.transitions) (Err o)) c.in_err-total.ensures.judged in
    refused_as c.from_residual-in_err-total.result o c.from_residual-in_err-total.ensures.1 ∙ right_refused n k R (between n k R) (turned (between n k R)) refl refl count o left right

pub returns : goal.returns
returns c =
    let n = table_meaning c.args.nets.now.left.now in
    let k = table_meaning c.args.nets.now.right.now in
    let R = relation_of c.args.nets.now.relation.now in
    let count = c.in_ok-count.count in
    let total = c.in_ok-total.total in
    let left = faced Left n k R c.half.result c.half.ensures (λ s m p S. JudgedBelow s m p S 0 (obligations_below s m p S m.transitions) (Ok count)) c.in_ok-count.ensures.judged in
    let right = faced Right n k R c.half-2.result c.half-2.ensures (λ s m p S. JudgedBelow s m p S count (obligations_below s m p S m.transitions) (Ok total)) c.in_ok-total.ensures.judged in
    both_accepted n k R (between n k R) (turned (between n k R)) refl refl count total left right
