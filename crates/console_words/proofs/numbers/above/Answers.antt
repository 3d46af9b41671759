use mir.Syntax.{w64}
use Rattle.console_words.proofs.Names.{◌∙◌, arith, to_z-of_z}
use Rattle.console_words.proofs.FigureLaws.{above-is, above-not}
use Rattle.console_words.proofs.numbers.above.Goals as goal

pub returns-then-n-gt9223372036854775807 : goal.returns-then-n-gt9223372036854775807
returns-then-n-gt9223372036854775807 c = above-not c.args.n c.if-n-gt9223372036854775807.true

pub returns : goal.returns
returns c = above-is c.args.n _ (omega arith) (to_z-of_z {w = w64} (record { sfits = c.difference.type_inv }) ∙ c.difference.ensures)
