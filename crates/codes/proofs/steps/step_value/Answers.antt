use mir.Syntax.{w64}
use Rattle.codes.proofs.Names.{◌∙◌, ◌*◌, arith, to_z-of_z, parts-of-word}
use Rattle.codes.proofs.StepLaws.{reach, made}
use Rattle.codes.proofs.steps.step_value.Goals as goal

pub difference-requires : goal.difference-requires
difference-requires c = let z = parts-of-word c.ranges.start in reach c.args.start (c.args.step * c.args.code) c.plus.result c.minus.result (omega arith) (omega arith) c.requires.0 c.requires.1

pub returns : goal.returns
returns c = let z = parts-of-word c.ranges.start in to_z-of_z {w = w64} (record { sfits = c.difference.type_inv }) ∙ (c.difference.ensures ∙ made c.args.start (c.args.step * c.args.code) c.plus.result c.minus.result (omega arith) (omega arith))
