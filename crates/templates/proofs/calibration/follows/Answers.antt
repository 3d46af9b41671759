use Rattle.templates.proofs.Names.{rules, le-leb, lt-leb, follows}
use Rattle.templates.proofs.calibration.follows.Goals as goal

pub returns-then-next-codes : goal.returns-then-next-codes
unfolding follows
returns-then-next-codes c = rw (c.in-Some.is, le-leb _ _ c.if-next-codes.true)

pub returns-in-None : goal.returns-in-None
unfolding follows
returns-in-None c = search rules

pub returns-else-next-codes : goal.returns-else-next-codes
unfolding follows
returns-else-next-codes c = rw (c.in-Some.is, lt-leb _ _ c.if-next-codes.false) c.climbs.ensures
