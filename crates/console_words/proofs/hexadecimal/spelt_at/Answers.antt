use Rattle.console_words.proofs.Names.{◌∙◌, arith}
use Rattle.console_words.proofs.FilledLaws.{not_empty}
use Rattle.console_words.proofs.HexLaws.{spelt-long, spelt-high, spelt-low}
use Rattle.console_words.proofs.hexadecimal.spelt_at.Goals as goal

pub bounds-bytes-index : goal.bounds-bytes-index
bounds-bytes-index c = omega (arith, spelt-long c.args.bytes.now (not_empty c.args.bytes.now c.if-is_empty.ensures))

pub returns-then-index-eq0 : goal.returns-then-index-eq0
returns-then-index-eq0 c = c.glyph.ensures ∙ spelt-high c.args.bytes.now (not_empty c.args.bytes.now c.if-is_empty.ensures) c.args.index c.requires c.if-index-eq0.true

pub returns-else-index-eq0 : goal.returns-else-index-eq0
returns-else-index-eq0 c = c.glyph-else-index-eq0.ensures ∙ spelt-low c.args.bytes.now (not_empty c.args.bytes.now c.if-is_empty.ensures) c.args.index c.requires c.if-index-eq0.false
