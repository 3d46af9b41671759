use Rattle.codes.proofs.Names.{to_z-of_z}
use Rattle.codes.proofs.encoding.is_outside.Goals as goal

pub returns-then-figure-lowest : goal.returns-then-figure-lowest
returns-then-figure-lowest c = rw ((rw (to_z-of_z c.ranges.figure, to_z-of_z c.ranges.lowest) at c.if-figure-lowest.true))

pub returns : goal.returns
returns c = rw (to_z-of_z c.ranges.highest, to_z-of_z c.ranges.figure, rw (to_z-of_z c.ranges.figure, to_z-of_z c.ranges.lowest) at c.if-figure-lowest.false)
