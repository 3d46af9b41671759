use Rattle.layout.proofs.Names.{sym, ap, table_bits}
use Rattle.layout.proofs.PlaceSteps.{table-some}
use Rattle.layout.proofs.locating.table_bits.Goals as goal

pub returns-then-points-eq0 : goal.returns-then-points-eq0
returns-then-points-eq0 c = sym (ap table_bits c.if-points-eq0.true)

pub returns : goal.returns
returns c = table-some c.args.points c.if-points-eq0.false
