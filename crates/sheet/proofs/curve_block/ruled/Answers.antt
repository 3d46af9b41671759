use Rattle.sheet.proofs.Names.{refl}
use Rattle.sheet.proofs.curve_block.ruled.Goals as goal

pub returns-then-takes : goal.returns-then-takes
returns-then-takes c = rw c.if-takes.true

pub returns : goal.returns
returns c = rw c.if-takes.false (refl)
