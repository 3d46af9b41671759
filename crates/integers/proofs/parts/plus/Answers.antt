use Rattle.integers.proofs.Names.{arith}
use Rattle.integers.proofs.Bridge.{up_fits, passed, failed}
use Rattle.integers.proofs.parts.plus.Goals as goal

pub overflow_cast-result : goal.overflow_cast-result
overflow_cast-result c = rw (passed c.ranges.z c.if-z-ge0.true).0 (tt, record { fits = omega (arith, up_fits c.ranges.z) })

pub returns-then-z-ge0 : goal.returns-then-z-ge0
returns-then-z-ge0 c = rw (passed c.ranges.z c.if-z-ge0.true).0 (omega (arith, up_fits c.ranges.z))

pub returns-else-z-ge0 : goal.returns-else-z-ge0
returns-else-z-ge0 c = omega (arith, failed c.ranges.z c.if-z-ge0.false)
