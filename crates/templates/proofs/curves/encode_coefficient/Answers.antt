use Rattle.templates.proofs.Names.{encode}
use Rattle.templates.proofs.curves.encode_coefficient.Goals as goal

pub returns : goal.returns
unfolding encode
returns c = c.single_bits.ensures
