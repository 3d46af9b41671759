-- Demand 3's distance is nearly attained: the last case of `met` is within
-- a hundredth of a per cent of it. A conformity is nearly attained too.
use Rattle.std.specs.Prelude.{◌≡◌, List, [], ◌∷◌, ℕ, ◌+◌, ◌*◌, ◌≤◌, ℤ, pos, neg_ℤ, nat_abs, ◌-ℤ◌, ◌*ℤ◌, replicate}
use Rattle.std.specs.Prelude.{Some}
use Rattle.integers.specs.Nearest.{Fraction}
use Rattle.refusal.specs.Outcome.{Outcome, Ok, ◌>>=◌}
use Rattle.templates.specs.declared.Domain.TheVariants.{Electrical}
use Rattle.templates.specs.Calibration.{D, R}
use Rattle.build.specs.Build.{pairs_lent, build}
use Rattle.correction.specs.Certificate.{Slopes}
use Rattle.conformity.specs.Conformity.{conformity}
use Rattle.reading.specs.declared.Dash.TheVariants.{Large}
use Rattle.reading.specs.Reading.{take_reading}
use Rattle.promises.specs.Certificate.{line_for}
use Rattle.promises.specs.Edges.{sheet_at, steep}

abbrev pub line_there : Fraction
line_there = line_for steep (pos 61) (pos 0) (pos 3_000_000)

-- The fall is 10 for each run of 1, so K is 10,000; q is −28,997; the
-- distance is 154,006 halves of the 154,012 that the bound allows.
abbrev pub NearlyAttained : Type 0
NearlyAttained =
    Slopes 10_000 (pairs_lent steep) ×
    ((2000 + 1000 * R + 10_000 * (D + 1)) * line_there.den ≤ 2000 * nat_abs (neg_ℤ (pos 28_997) *ℤ pos line_there.den -ℤ line_there.num) + 6_000 * line_there.den)

-- ---- a conformity

-- Stored points, and a certificate with other deviations;
-- the span is 1,000,000,000 nV/V, so that p is the input.
abbrev pub stored_there : List ℤ
stored_there = pos 0 ∷ pos 0 ∷ pos 153_000_000 ∷ pos 2_000_000 ∷ []

abbrev pub certified_there : List ℤ
certified_there = pos 0 ∷ pos 0 ∷ pos 306_000_000 ∷ pos 1_000 ∷ []

abbrev pub built_there : Outcome (List ℕ)
built_there = build 1 (replicate 128 0) (sheet_at 0 (pos 0) (pos 1_000_000_000)) [] Electrical stored_there

-- At 153,000,000 the corrections are 1,999,500 apart, so B is 2001 + 3,999,000,000; q
-- there is 155,000,000, and 2000 × its distance from the line is within 2001 + K of B.
abbrev pub ConformityAttained : Type 0
ConformityAttained =
    ((built_there >>= λ image. conformity 1 image certified_there) ≡ Ok (Some (record { slope = 1; bound = 3_999_002_001 }))) ×
    ((built_there >>= λ image. take_reading 1 image (pos 153_000_000) Large >>= λ r. Ok r.fraction) ≡ Ok (pos 155_000_000)) ×
    (let line = line_for certified_there (pos 153_000_000) (pos 0) (pos 1_000_000_000) in
    3_999_002_001 * line.den ≤ 2000 * nat_abs (pos 155_000_000 *ℤ pos line.den -ℤ line.num) + (2001 + 1) * line.den)
