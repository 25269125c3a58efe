use Rattle.std.proofs.Common.{◌∙◌, arith}
use Rattle.names.proofs.Back.{big_endian}
use Rattle.names.proofs.numbers.bytes_of.Goals as goal

pub returns : goal.returns
returns c = c.to_be_bytes.ensures ∙ big_endian c.args.number (omega arith)
