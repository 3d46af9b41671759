use Rattle.codes.proofs.Names.{◌+◌, arith, parts-of-word}
use Rattle.codes.proofs.StepLaws.{not-below, code_is}
use Rattle.codes.proofs.steps.step_code.Goals as goal

pub overflow_sub-up : goal.overflow_sub-up
overflow_sub-up c = let y = parts-of-word c.ranges.start in let z = parts-of-word c.ranges.figure in not-below c.args.start c.args.figure (c.plus.result + c.minus.result) (c.plus-2.result + c.minus-2.result) (omega arith) (omega arith) c.requires.1

pub returns : goal.returns
returns c = let y = parts-of-word c.ranges.start in let z = parts-of-word c.ranges.figure in code_is c.args.start c.args.figure (c.plus.result + c.minus.result) (c.plus-2.result + c.minus-2.result) (omega arith) (omega arith) c.requires.1 c.args.step c.nearest_whole.result c.nearest_whole.ensures
