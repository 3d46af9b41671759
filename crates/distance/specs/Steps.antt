-- Only inner contracts need this: bounds of the distances of neighbours, so that nothing overflows.
use Rattle.std.specs.Prelude.{◌^◌, ◌≤◌, ◌<◌, nat_abs, ◌-ℤ◌}
use Rattle.templates.specs.declared.Pair.{Pair}

pub record Step (p r : Pair) : Type 0 where
  pub rise : nat_abs (r.deviation -ℤ p.deviation) ≤ 2 ^ 32
  pub some : 0 < nat_abs (r.point -ℤ p.point)
  pub run : nat_abs (r.point -ℤ p.point) ≤ 2 ^ 32
