use Rattle.codes.proofs.Names.{refl, rules, w64, to_z-of_z, encode}
use Rattle.codes.proofs.SoundLaws.{sound-rule}
use Rattle.codes.proofs.encoding.encode_geometric.Goals as goal

pub geometric-requires : goal.geometric-requires
unfolding encode
geometric-requires c = let p = c.requires in record { le_width = (p.0.some, p.0.most); width_value = sound-rule p.0 p.1 }

pub returns-in-Whole : goal.returns-in-Whole
unfolding encode
returns-in-Whole c = let figure = to_z-of_z {w = w64} {z = c.in-Whole.figure} (search rules) in rw (c.in-Whole.is, c.requires.1) (rw figure at c.geometric.ensures)

pub returns-in-Single : goal.returns-in-Single
unfolding encode
returns-in-Single c = rw (c.in-Single.is, c.requires.1) refl

pub returns-in-Missing : goal.returns-in-Missing
unfolding encode
returns-in-Missing c = rw c.in-Missing.is c.missing_code.ensures
