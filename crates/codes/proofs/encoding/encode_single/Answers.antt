use Rattle.codes.proofs.Names.{refl, encode}
use Rattle.codes.proofs.encoding.encode_single.Goals as goal

pub returns-in-Whole : goal.returns-in-Whole
unfolding encode
returns-in-Whole c = rw (c.in-Whole.is, c.requires.1) refl

pub returns-in-Single : goal.returns-in-Single
unfolding encode
returns-in-Single c = rw (c.in-Single.is, c.requires.1) c.single_bits.ensures

pub returns-in-Missing : goal.returns-in-Missing
unfolding encode
returns-in-Missing c = rw c.in-Missing.is c.missing_code.ensures
