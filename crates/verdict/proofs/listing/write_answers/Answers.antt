use Rattle.std.proofs.Common.{◌≡◌, ◌+◌, length, refl, arith}
use Rattle.places.specs.Sets.{turned}
use Rattle.places.specs.Meanings.{relation_of}
use Rattle.places.specs.declared.Side.TheVariants.{Left, Right}
use Rattle.nets.specs.Tables.{table_meaning}
use Rattle.bisimulation.specs.Bisimulation.{between}
use Rattle.bisimulation.specs.Verdicts.{obligations_below}
use Rattle.verdict.specs.Results.{WroteBelow}
use Rattle.verdict.proofs.Whole.{faced}
use Rattle.verdict.proofs.Lists.{both_listed, too_few}
use Rattle.verdict.proofs.listing.write_answers.Goals as goal

pub returns-then-out-total : goal.returns-then-out-total
returns-then-out-total c =
    let n = table_meaning c.args.nets.now.left.now in
    let k = table_meaning c.args.nets.now.right.now in
    let R = relation_of c.args.nets.now.relation.now in
    let lefts = faced Left n k R c.half-lefts.result c.half-lefts.ensures (λ s m o S. c.count_side.result ≡ length (obligations_below s m o S m.transitions)) c.count_side.ensures.value in
    let rights = faced Right n k R c.half-rights.result c.half-rights.ensures (λ s m o S. c.count_side-2.result ≡ length (obligations_below s m o S m.transitions)) c.count_side-2.ensures.value in
    too_few n k R (between n k R) (turned (between n k R)) refl refl _ c.args.out.now (omega (arith, lefts, rights)) c.if-out-total.true

pub returns : goal.returns
returns c =
    let n = table_meaning c.args.nets.now.left.now in
    let k = table_meaning c.args.nets.now.right.now in
    let R = relation_of c.args.nets.now.relation.now in
    let lefts = faced Left n k R c.half-lefts.result c.half-lefts.ensures (λ s m o S. c.count_side.result ≡ length (obligations_below s m o S m.transitions)) c.count_side.ensures.value in
    let rights = faced Right n k R c.half-rights.result c.half-rights.ensures (λ s m o S. c.count_side-2.result ≡ length (obligations_below s m o S m.transitions)) c.count_side-2.ensures.value in
    let next = faced Left n k R c.half-lefts.result c.half-lefts.ensures (λ s m o S. c.write_side-middle.result ≡ 0 + length (obligations_below s m o S m.transitions)) c.write_side-middle.ensures.next in
    let one = faced Left n k R c.half-lefts.result c.half-lefts.ensures (λ s m o S. WroteBelow s m o S 0 c.args.out.now (obligations_below s m o S m.transitions) c.write_side-middle.new.out) c.write_side-middle.ensures.written in
    let two = faced Right n k R c.half-rights.result c.half-rights.ensures (λ s m o S. WroteBelow s m o S c.write_side-middle.result c.write_side-middle.new.out (obligations_below s m o S m.transitions) c.write_side.new.out) c.write_side.ensures.written in
    both_listed n k R (between n k R) (turned (between n k R)) refl refl _ c.write_side-middle.result c.write_side.result c.args.out.now c.write_side-middle.new.out c.write_side.new.out (omega (arith, lefts, rights)) c.if-out-total.false next one two
