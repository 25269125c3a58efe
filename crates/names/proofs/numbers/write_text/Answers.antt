use Rattle.names.proofs.Back.{written}
use Rattle.names.proofs.numbers.write_text.Goals as goal

pub returns : goal.returns
returns c = written c.args.number c.text_len.result c.bytes_of.result c.requires c.text_len.ensures c.bytes_of.ensures
