-- `to_bits` is called only if the number is not NaN.
use Rattle.commands.proofs.Names.{not-nan}
use Rattle.commands.proofs.printing.double.Goals as goal

pub float_to_bits-bits : goal.float_to_bits-bits
float_to_bits-bits g c = not-nan c.args.x c.if-x.false
