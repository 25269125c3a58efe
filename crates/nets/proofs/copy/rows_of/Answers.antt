use Rattle.std.proofs.Common.{sym, subst}
use Rattle.nets.specs.Meaning.{Limits}
use Rattle.nets.specs.Rows.{tabled}
use Rattle.nets.proofs.Copies.{copied}
use Rattle.nets.proofs.copy.rows_of.Goals as goal

pub returns : goal.returns
returns g c =
    let lim = g.N.Net.limits c.args.net.now in
    let same = copied (g.N.Net.meaning c.args.net.now) c.args.places c.args.transitions c.all_rows.result lim c.requires.places c.requires.transitions c.all_rows.ensures in
    let kept : Limits (tabled c.args.places c.args.transitions c.all_rows.result) = subst Limits (sym same) lim in
    record {
      same = same;
      few = (kept.few_places, kept.few_transitions);
      inputs = λ t l. (kept.some_input t l, kept.few_inputs t l);
      outputs = λ t l. (kept.some_output t l, kept.few_outputs t l);
      labels = kept.short_label;
    }
