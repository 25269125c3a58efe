use Rattle.std.proofs.Common.{arith}
use Rattle.charts.proofs.Found.{valid_more, distinct_more}
use Rattle.charts.proofs.entries.Entries.push.Goals as goal

pub invariant_of-self : goal.invariant_of-self
invariant_of-self g c =
    let self = c.args.self.now in
    record {
      small = self.small;
      room = omega (arith, c.push.ensures.len, c.requires.room);
      named = valid_more g.T.Named.named self.entries.items c.args.entry c.push.new.self.items c.push.ensures.items self.named c.requires.named;
      apart = distinct_more g.T.Named.named self.entries.items c.args.entry c.push.new.self.items c.push.ensures.items self.apart c.requires.new;
    }
