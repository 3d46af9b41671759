use Rattle.codes.proofs.Names.{nearest, geometric_value}
use Rattle.codes.proofs.tables.least_value.Goals as goal

pub returns-in-ResponseTime : goal.returns-in-ResponseTime
unfolding geometric_value nearest
returns-in-ResponseTime c = rw c.in-ResponseTime.is

pub returns-in-Current : goal.returns-in-Current
unfolding geometric_value nearest
returns-in-Current c = rw c.in-Current.is
