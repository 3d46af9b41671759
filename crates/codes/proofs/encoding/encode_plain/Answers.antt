use Rattle.codes.proofs.Names.{refl, rules, w64, to_z-of_z, encode}
use Rattle.codes.proofs.SoundLaws.{plain-small}
use Rattle.codes.proofs.encoding.encode_plain.Goals as goal

pub plain-requires : goal.plain-requires
unfolding encode
plain-requires c = let p = c.requires in plain-small p.0 p.1

pub returns-in-Whole : goal.returns-in-Whole
unfolding encode
returns-in-Whole c = let figure = to_z-of_z {w = w64} {z = c.in-Whole.figure} (search rules) in rw (c.in-Whole.is, c.requires.1) (rw figure at c.plain.ensures)

pub returns-in-Single : goal.returns-in-Single
unfolding encode
returns-in-Single c = rw (c.in-Single.is, c.requires.1) refl

pub returns-in-Missing : goal.returns-in-Missing
unfolding encode
returns-in-Missing c = rw c.in-Missing.is c.missing_code.ensures
