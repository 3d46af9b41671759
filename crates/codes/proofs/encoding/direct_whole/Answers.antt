use Rattle.codes.proofs.Names.{arith, rules, w64, to_z-of_z, encode, Whole}
use Rattle.codes.proofs.SoundLaws.{sound-rule, plain-small}
use Rattle.codes.proofs.DirectCodes.{tells}
use Rattle.codes.proofs.encoding.direct_whole.Goals as goal

pub plain-requires : goal.plain-requires
unfolding encode
plain-requires c = plain-small c.requires c.in-Plain.is

pub nearest_step-requires : goal.nearest_step-requires
unfolding encode
nearest_step-requires c = let row = c.requires in let sound = sound-rule row c.in-Stepped.is in let start = to_z-of_z {w = w64} {z = c.in-Stepped.start} (search rules) in rw start (record { le_width = (row.some, row.most); step_nonzero = (sound.0, (sound.2, sound.3)) })

pub returns-in-Plain : goal.returns-in-Plain
unfolding encode
returns-in-Plain c = tells c.args.row 0 (Whole c.args.figure) _ _ c.requires tt (rw c.in-Plain.is (rw (to_z-of_z c.ranges.figure) at c.plain.ensures)) c.code_or_none.ensures

pub returns-in-Stepped : goal.returns-in-Stepped
unfolding encode
returns-in-Stepped c = let start = to_z-of_z {w = w64} {z = c.in-Stepped.start} (search rules) in tells c.args.row 0 (Whole c.args.figure) _ _ c.requires tt (rw c.in-Stepped.is (rw (start, to_z-of_z c.ranges.figure) at c.nearest_step.ensures)) c.code_or_none-in-Stepped.ensures

pub returns-in-Geometric : goal.returns-in-Geometric
unfolding encode
returns-in-Geometric c = λ h. absurd (omega (arith, h))

pub returns-in-Single : goal.returns-in-Single
unfolding encode
returns-in-Single c = λ h. absurd (omega (arith, h))
