use Rattle.integers.proofs.Names.{arith}
use Rattle.integers.proofs.Bridge.{dn-fits, passed, failed}
use Rattle.integers.proofs.parts.minus.Goals as goal

pub overflow_cast-result : goal.overflow_cast-result
overflow_cast-result c = rw (failed c.ranges.z c.if-z-ge0.false).0 (tt, record { fits = omega (arith, dn-fits c.ranges.z) })

pub overflow_add-result : goal.overflow_add-result
overflow_add-result c = rw (failed c.ranges.z c.if-z-ge0.false).0 (omega (arith, dn-fits c.ranges.z))

pub returns-then-z-ge0 : goal.returns-then-z-ge0
returns-then-z-ge0 c = omega (arith, passed c.ranges.z c.if-z-ge0.true)

pub returns-else-z-ge0 : goal.returns-else-z-ge0
returns-else-z-ge0 c = rw (failed c.ranges.z c.if-z-ge0.false).0 (omega (arith, failed c.ranges.z c.if-z-ge0.false, dn-fits c.ranges.z))
