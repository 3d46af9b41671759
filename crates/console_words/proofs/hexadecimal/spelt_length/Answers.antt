use Rattle.console_words.proofs.FilledLaws.{not_empty}
use Rattle.console_words.proofs.HexLaws.{spelt-long}
use Rattle.console_words.proofs.hexadecimal.spelt_length.Goals as goal

pub returns-else-is_empty : goal.returns-else-is_empty
returns-else-is_empty c = spelt-long c.args.bytes.now (not_empty c.args.bytes.now c.if-is_empty.ensures)
