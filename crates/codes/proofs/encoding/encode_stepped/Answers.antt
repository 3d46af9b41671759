use Rattle.codes.proofs.Names.{refl, rules, w64, to_z-of_z, encode}
use Rattle.codes.proofs.SoundLaws.{sound-rule}
use Rattle.codes.proofs.encoding.encode_stepped.Goals as goal

pub nearest_step-requires : goal.nearest_step-requires
unfolding encode
nearest_step-requires c = let row = c.requires.0 in let sound = sound-rule row c.requires.1 in rw (to_z-of_z c.ranges.start) (record { le_width = (row.some, row.most); step_nonzero = (sound.0, (sound.2, sound.3)) })

pub returns-in-Whole : goal.returns-in-Whole
unfolding encode
returns-in-Whole c = let figure = to_z-of_z {w = w64} {z = c.in-Whole.figure} (search rules) in rw (c.in-Whole.is, c.requires.1) (rw (figure, to_z-of_z c.ranges.start) at c.nearest_step.ensures)

pub returns-in-Single : goal.returns-in-Single
unfolding encode
returns-in-Single c = rw (c.in-Single.is, c.requires.1) refl

pub returns-in-Missing : goal.returns-in-Missing
unfolding encode
returns-in-Missing c = rw c.in-Missing.is c.missing_code.ensures
