use Rattle.codes.proofs.CodeLaws.{shifted, two-codes}
use Rattle.codes.proofs.limits.top_code.Goals as goal

pub overflow_sub-result : goal.overflow_sub-result
overflow_sub-result c = rw (shifted c.args.width c.requires.1) (two-codes c.args.width c.requires.0)

pub returns : goal.returns
returns c = rw (shifted c.args.width c.requires.1)
