use Rattle.std.proofs.Common.{◌≡◌, ◌+◌, ◌<◌, ◌≤◌, length}
use Rattle.std.specs.Iterator.Adapters.{zip_first, zip_second}
use Rattle.lines.specs.Cursors.{lines_left, line_room}
use Rattle.lines.specs.Lines.{lines}
use Rattle.relation_texts.specs.Readings.{so_far}
use Rattle.relation_texts.specs.Walk.{nothing_yet, walk}
use Rattle.relation_texts.proofs.text.read_lines.Given as goal

abbrev pub invariant-loop-number : goal.invariant-loop-number
invariant-loop-number l =
    let next = (zip_first l.number-iterator).start in
    let to_come = zip_second l.number-iterator in
    (goal.iterator-loop-number).can_next l.number-iterator × (goal.iterator-loop-number).is_finite l.number-iterator × record {
      on : walk l.text l.left l.right 1 nothing_yet (lines l.text) ≡ walk l.text l.left l.right next (so_far l.reading) (lines_left to_come);
      left : l.reading.left ≡ l.left;
      right : l.reading.right ≡ l.right;
      many : next + length (lines_left to_come) ≡ length (lines l.text) + 1;
      room : next + line_room to_come ≤ length l.text + 1;
      edges : l.reading.edges < next;
      taken : l.reading.lines + 1 ≡ next;
    }
