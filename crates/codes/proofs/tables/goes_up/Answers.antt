use Rattle.codes.proofs.Names.{ℕ, ◌*◌, ◌≤◌, mul-le-mul, arith, w64, Fits, goes_up}
use Rattle.codes.proofs.tables.goes_up.Goals as goal

-- The product of two numbers of 32 bits fits 64.
product : (x y : ℕ) → x ≤ 4_294_967_295 → y ≤ 4_294_967_295 → Fits w64 (x * y)
product x y h k = record { fits = omega (arith, mul-le-mul h k) }

pub overflow_mul-result : goal.overflow_mul-result
unfolding goes_up
overflow_mul-result c = product _ _ (omega arith) (omega arith)

pub overflow_mul-result-2 : goal.overflow_mul-result-2
unfolding goes_up
overflow_mul-result-2 c = product _ _ (omega arith) (omega arith)

pub returns : goal.returns
unfolding goes_up
returns c = rw (c.wide.ensures, c.wide-2.ensures, c.wide-3.ensures, c.wide-4.ensures)
