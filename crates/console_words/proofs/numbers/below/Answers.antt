use mir.Syntax.{w64}
use Rattle.console_words.proofs.Names.{◌∙◌, arith, to_z-of_z}
use Rattle.console_words.proofs.FigureLaws.{below-is, below-not}
use Rattle.console_words.proofs.numbers.below.Goals as goal

pub returns-then-n-gt9223372036854775808 : goal.returns-then-n-gt9223372036854775808
returns-then-n-gt9223372036854775808 c = below-not c.args.n c.if-n-gt9223372036854775808.true

pub returns : goal.returns
returns c = below-is c.args.n _ (omega arith) (to_z-of_z {w = w64} (record { sfits = c.difference.type_inv }) ∙ c.difference.ensures)
