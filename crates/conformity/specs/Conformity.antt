-- Conformity: how far any reading of an image can be from the line through a certificate's points.
-- Order: the image's check, 4 for template 32, then the list as a build in domain 0 refuses it.
use Rattle.std.specs.Prelude.{List, [], ◌∷◌, map, ℕ, max, ◌+◌, ◌*◌, ℤ, pos, nat_abs, ◌-ℤ◌, ◌*ℤ◌}
use Rattle.integers.specs.Ceiling.{ceiling}
use Rattle.std.specs.Prelude.{Option, None, Some}
use Rattle.refusal.specs.Outcome.{Outcome, Ok, ◌>>◌, ◌>>=◌, refuse◌if◌}
use Rattle.refusal.specs.declared.Refusal.TheVariants.{WrongBlock}
use Rattle.templates.specs.declared.Pair.{Pair}
use Rattle.templates.specs.declared.Domain.TheVariants.{Electrical, Physical}
use Rattle.layout.specs.Contents.{Calibration, bare, table, curve}
use Rattle.layout.specs.Image.{contents, pair_in}
use Rattle.layout.specs.Places.{first_selector}
use Rattle.build.specs.Build.{pairs_lent}
use Rattle.correction.specs.Line.{Correction, correction}
use Rattle.distance.specs.declared.CertificateBound.{CertificateBound}
use Rattle.distance.specs.Distance.{distance}
use Rattle.reading.specs.Reading.{is_resistance}

-- 2000 × the difference of two corrections at a whole position, above or below, rounded up.
abbrev pub difference : Correction → Correction → ℕ
difference c e = ceiling (2000 * nat_abs (c.num *ℤ pos e.run -ℤ e.num *ℤ pos c.run)) (c.run * e.run)

-- The difference of the corrections of two lists of points at x.
abbrev pub difference_at : List Pair → List Pair → ℤ → ℕ
difference_at stored lent x = difference (correction x 1 stored) (correction x 1 lent)

-- The greatest over the points of a list; 0 without points.
abbrev pub greatest_over : (ℤ → ℕ) → List Pair → ℕ
greatest_over of [] = 0
greatest_over of (p ∷ pairs) = max (of p.point) (greatest_over of pairs)

-- The greatest at any stored or lent point.
abbrev pub greatest_difference : List Pair → List Pair → ℕ
greatest_difference stored lent = max (greatest_over (difference_at stored lent) stored) (greatest_over (difference_at stored lent) lent)

-- K of the lent points, and B = 2000 + K + the greatest difference.
abbrev pub compared_with : ℕ → List Pair → List Pair → CertificateBound
compared_with K stored lent = record { slope = K; bound = 2000 + K + greatest_difference stored lent }

-- The stored points of a straight table: those of domain 0, and none
-- without a block. A curve and a table of domain 1 are not straight.
abbrev pub straight_table : Calibration → Option (List Pair)
straight_table bare = Some []
straight_table (table Electrical pairs) = Some (map pair_in pairs)
straight_table (table Physical pairs) = None
straight_table (curve segments) = None

abbrev pub compared : ℕ → List Pair → Option (List Pair) → Option CertificateBound
compared K lent (Some stored) = Some (compared_with K stored lent)
compared K lent None = None

-- K and B; none if there is no straight table to compare.
unfoldable pub conformity : ℕ → List ℕ → List ℤ → Outcome (Option CertificateBound)
conformity kind image points = do
  c ← contents kind image
  refuse WrongBlock first_selector if is_resistance c.template
  d ← distance points
  Ok (compared d.slope (pairs_lent points) (straight_table c.calibration))
