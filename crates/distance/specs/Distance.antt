-- Document 01, demand 3: the certificate distance, known from the points
-- alone. Order: 16, then each pair as a build in domain 0 refuses it.
use Rattle.std.specs.Prelude.{List, [], ◌∷◌, ℕ, max, ◌+◌, ◌*◌, ℤ, nat_abs, ◌-ℤ◌}
use Rattle.integers.specs.Ceiling.{ceiling}
use Rattle.refusal.specs.Outcome.{Outcome, Ok, ◌>>◌}
use Rattle.templates.specs.declared.Pair.{Pair}
use Rattle.templates.specs.declared.Domain.TheVariants.{Electrical}
use Rattle.templates.specs.Calibration.{D, R}
use Rattle.build.specs.Build.{listed, pairs_lent, list_tested, table_pieces}
use Rattle.distance.specs.declared.CertificateBound.{CertificateBound}

-- For two lent neighbours: the least K with 1000 × their rise or fall at most K × their run.
abbrev pub least_slope : Pair → Pair → ℕ
least_slope p r = ceiling (1000 * nat_abs (r.deviation -ℤ p.deviation)) (nat_abs (r.point -ℤ p.point))

-- K, the greatest of these slopes: "fewer than two points have none, so K may be 0".
abbrev pub steepest : List Pair → ℕ
steepest [] = 0
steepest (p ∷ []) = 0
steepest (p ∷ r ∷ pairs) = max (least_slope p r) (steepest (r ∷ pairs))

-- The bound B = 2000 + 1000 × R + K × (D + 1), in 2000ths of a billionth of the span.
abbrev pub by_slope : ℕ → CertificateBound
by_slope K = record { slope = K; bound = 2000 + 1000 * R + K * (D + 1) }

unfoldable pub distance : List ℤ → Outcome CertificateBound
distance points = do
  list_tested (listed Electrical points)
  table_pieces Electrical (pairs_lent points)
  Ok (by_slope (steepest (pairs_lent points)))

-- ---- the answer
