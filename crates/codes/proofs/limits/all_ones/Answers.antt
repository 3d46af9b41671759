use Rattle.codes.proofs.CodeLaws.{shifted, one_code}
use Rattle.codes.proofs.limits.all_ones.Goals as goal

pub overflow_sub-result : goal.overflow_sub-result
overflow_sub-result c = rw (shifted c.args.width c.requires) (one_code c.args.width)

pub returns : goal.returns
returns c = rw (shifted c.args.width c.requires)
