-- `to_bits` is called only if the Single is not NaN.
use Rattle.listing.proofs.Names.{not-nan}
use Rattle.listing.proofs.singles.print_single.Goals as goal

pub float_to_bits-x : goal.float_to_bits-x
float_to_bits-x g c = not-nan c.args.x c.if-x.false
