-- Only inner contracts need this: a correction in
-- unsigned parts, small enough that nothing overflows.
use Rattle.std.specs.Prelude.{Some, None, Option, ◌≡◌, Bool, true, false, ◌⊎◌, ℕ, ◌+◌, ◌*◌, ◌^◌, ◌≤◌, ◌<◌, eqb, ℤ, pos, nat_abs, ◌-ℤ◌, ◌*ℤ◌}
use Rattle.integers.specs.Ceiling.{ceiling}
use Rattle.integers.specs.Parts.{up, dn}
use Rattle.templates.specs.declared.Domain.{Domain}
use Rattle.templates.specs.declared.Domain.TheVariants.{Electrical, Physical}
use Rattle.correction.specs.Line.{Correction}
use Rattle.conformity.specs.declared.corrections.Corrected.{Corrected}

-- From −2^32 to 2^32, over a run of at most 2^30.
pub record Sized (r : Corrected) : Type 0 where
  pub some : 0 < r.run
  pub run : r.run ≤ 2 ^ 30
  pub above : r.above ≤ 2 ^ 32 * r.run
  pub below : r.below ≤ 2 ^ 32 * r.run

-- (above − below) / run is the correction.
pub record Exact (r : Corrected) (c : Correction) : Type 0 where
  pub sized : Sized r
  pub run : r.run ≡ c.run
  pub num : up c.num + r.below ≡ dn c.num + r.above

-- The distance of a and b is r.
abbrev pub Apart : ℕ → ℕ → ℕ → Type 0
Apart a b r = (a ≡ b + r) ⊎ (b ≡ a + r)

-- 2000 × the difference of a deviation and a correction, rounded up.
abbrev pub upward_difference : ℤ → Correction → ℕ
upward_difference s c = ceiling (2000 * nat_abs (s *ℤ pos c.run -ℤ c.num)) c.run

-- Whether a table is straight, by the domain and the number of segments that a check returns.
abbrev pub is_straight : Option Domain → ℕ → Bool
is_straight None segments = eqb segments 0
is_straight (Some Electrical) segments = true
is_straight (Some Physical) segments = false
