use Rattle.std.proofs.Common.{ap, ◌∙◌}
use Rattle.names.specs.Numbers.{text_in, is_packed}
use Rattle.names.proofs.Back.{text_back, packed_is}
use Rattle.names.proofs.numbers.pack.Goals as goal

pub returns-clause-named : goal.returns-clause-named
returns-clause-named c = ap is_packed c.pack_bytes.ensures ∙ packed_is c.args.bytes.now c.requires

pub returns-clause-text : goal.returns-clause-text
returns-clause-text c = ap text_in c.pack_bytes.ensures ∙ text_back c.args.bytes.now c.requires
