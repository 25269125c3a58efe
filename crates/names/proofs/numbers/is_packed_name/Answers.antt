use Rattle.std.proofs.Common.{sym, ◌∙◌}
use Rattle.std.proofs.lemmas.Bool.{both_ways}
use Rattle.names.specs.Laws.{packed_name}
use Rattle.names.proofs.Back.{name_packed}
use Rattle.names.proofs.numbers.is_packed_name.Goals as goal

pub returns : goal.returns
returns c = record {
  value = c.holds_name.ensures;
  yes = λ e. packed_name c.args.number (sym c.holds_name.ensures ∙ e);
  no = λ e i. both_ways c.holds_name.result e (c.holds_name.ensures ∙ name_packed c.args.number i);
}
