use Rattle.stream.proofs.Words.{left_out}
use Rattle.stream.proofs.bitfields.over_check.Goals as goal

pub returns : goal.returns
returns c = left_out c.args.word c.args.bits c.ranges.word.fits c.requires
