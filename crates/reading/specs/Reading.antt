-- Document 01, "Reading", and document 02, Notes 7 to 11: take a reading. Order: check,
-- 4, 23, 13 for a missing one, 21, 13 for e ≥ f, 14. A reading is defined in steps: the
-- span from its fields, the position of the input in it, the fraction, and the physical
-- figure. Dash is document 01's term: the display that a reading is taken for.
use Rattle.std.specs.Prelude.{Bool, true, false, ◌||◌, cond, List, [], ◌∷◌, map, ℕ, ltb, length, ℤ, pos, neg_ℤ, nat_abs, ◌+ℤ◌, ◌-ℤ◌, ◌*ℤ◌, Float}
use Rattle.std.specs.Int.Signed.{le_z, lt_z}
use Rattle.integers.specs.Nearest.{◌over◌, nearest}
use Rattle.refusal.specs.declared.Refusal.{Refusal}
use Rattle.refusal.specs.Outcome.{Outcome, Ok, ◌>>◌, ◌>>=◌, refuse◌if◌}
use Rattle.refusal.specs.declared.Refusal.TheVariants.{WrongBlock, NoSpan, OutsideSpan, EndOutside, TooManyPoints}
use Rattle.codes.specs.declared.Value.{Value}
use Rattle.codes.specs.declared.Value.TheVariants.{Whole, Single, Missing}
use Rattle.templates.specs.declared.Template.{Template}
use Rattle.templates.specs.declared.Template.TheVariants.{Bridge, Resistance}
use Rattle.templates.specs.declared.Pair.{Pair}
use Rattle.templates.specs.declared.Domain.{Domain}
use Rattle.templates.specs.declared.Domain.TheVariants.{Electrical, Physical}
use Rattle.codes.specs.Units.{billion}
use Rattle.figures.specs.Figure.{float_fraction, physical_figure}
use Rattle.codes.specs.Singles.{outside_two, nanovolts}
use Rattle.templates.specs.declared.Term.{Term}
use Rattle.layout.specs.Contents.{FoundSegment, Calibration, bare, table, curve, Contents}
use Rattle.layout.specs.Image.{contents, field, pair_in, segment_in, term_in, points, float}
use Rattle.layout.specs.Places.{first_selector}
use Rattle.correction.specs.Line.{deviation}
use Rattle.correction.specs.Crossing.{crossing}
use Rattle.correction.specs.Curve.{fraction_of}
use Rattle.reading.specs.declared.Dash.{Dash}
use Rattle.reading.specs.declared.Dash.TheVariants.{Large, Small}
use Rattle.reading.specs.declared.Reading.{Reading}
use Rattle.reading.specs.declared.span.Span.{Span}

-- ---- the template

abbrev pub is_resistance : Template → Bool
is_resistance Bridge = false
is_resistance Resistance = true

-- ---- the dash

-- The small dash takes 32 points at most, the large one every table.
abbrev pub too_many : Dash → ℕ → Bool
too_many Large points = false
too_many Small points = ltb 32 points

-- ---- the span

-- An electrical value in nV/V: as stored at precisions 0 and 1, a Single as the nearest.
abbrev pub electrical_figure : Value → ℤ
electrical_figure (Whole z) = z
electrical_figure (Single x) = nanovolts x
electrical_figure Missing = pos 0

-- e and f, the least and greatest electrical value.
abbrev pub least : Contents → ℤ
least c = electrical_figure (field c 10).value

abbrev pub greatest : Contents → ℤ
greatest c = electrical_figure (field c 11).value

abbrev pub is_missing : Value → Bool
is_missing Missing = true
is_missing (Whole z) = false
is_missing (Single x) = false

-- A Single outside −2 to 2 V/V.
abbrev pub is_outside : Value → Bool
is_outside (Single x) = outside_two x
is_outside (Whole z) = false
is_outside Missing = false

-- A row whose place is the first of some fields that has such a value.
abbrev pub refuse_first : (ℕ → Refusal) → (Value → Bool) → Contents → List ℕ → Outcome (Unit {0})
refuse_first row test c [] = Ok tt
refuse_first row test c (f ∷ fs) = do
  refuse row f if test (field c f).value
  refuse_first row test c fs

-- Rows 13 and 21, and the ends of the span: fields 7 and 8, and e below f.
unfoldable pub span_of : Contents → Outcome Span
span_of c = do
  refuse_first NoSpan is_missing c (7 ∷ 8 ∷ 10 ∷ 11 ∷ [])
  refuse_first EndOutside is_outside c (10 ∷ 11 ∷ [])
  refuse NoSpan 11 if le_z (greatest c) (least c)
  Ok (record { low = float (field c 7).value; high = float (field c 8).value; least = least c; greatest = greatest c })

-- ---- the figures

-- Row 14: "v below −2,000,000,000 or above 2,000,000,000,
-- 10 × (v − e) < −(f − e), or 10 × (v − e) > 11 × (f − e)".
abbrev pub too_far : ℤ → ℤ → ℤ → Bool
too_far v e f =
    lt_z v (neg_ℤ (pos 2_000_000_000)) || lt_z (pos 2_000_000_000) v ||
    lt_z (pos 10 *ℤ (v -ℤ e)) (neg_ℤ (f -ℤ e)) || lt_z (pos 11 *ℤ (f -ℤ e)) (pos 10 *ℤ (v -ℤ e))

-- "p is (v − e) × 1,000,000,000 / (f − e) to the nearest whole, halves upward."
unfoldable pub position : ℤ → ℤ → ℤ → ℤ
position v e f = nearest ((v -ℤ e) *ℤ pos billion over nat_abs (f -ℤ e))

-- "Fraction q = p + deviation" in domain 0; in domain 1 the crossing.
abbrev pub fraction_by : Domain → List Pair → ℤ → ℤ
fraction_by Electrical pairs p = p +ℤ deviation pairs p
fraction_by Physical pairs p = crossing pairs p

-- Without points the deviation is 0, so that q is p; with a curve "q is p" too.
abbrev pub fraction : Calibration → ℤ → ℤ
fraction bare p = p
fraction (table domain pairs) p = fraction_by domain (map pair_in pairs) p
fraction (curve segments) p = p

-- "The segment is the last one whose start in billionths
-- is at or below p." "Before 0 the first segment serves."
unfoldable pub serving : ℤ → FoundSegment → List FoundSegment → FoundSegment
serving p s [] = s
serving p s (next ∷ segments) = cond (le_z (segment_in next).start p) (serving p next segments) s

abbrev pub serving_terms : ℤ → List FoundSegment → List Term
serving_terms p [] = []
serving_terms p (s ∷ segments) = map term_in (serving p s segments).terms

-- The fraction of the span that the physical figure is computed
-- from: q / 1,000,000,000; with a curve its float fraction.
abbrev pub physical_fraction : Calibration → ℤ → Float
physical_fraction bare p = float_fraction (fraction bare p)
physical_fraction (table domain pairs) p = float_fraction (fraction (table domain pairs) p)
physical_fraction (curve segments) p = fraction_of (serving_terms p segments) p

-- "A reading holds q and that float together."
unfoldable pub reading_at : Calibration → Span → ℤ → Reading
reading_at k s v =
    let p = position v s.least s.greatest in
    record { fraction = fraction k p; figure = physical_figure s.low s.high (physical_fraction k p) }

-- ---- the reading

unfoldable pub take_reading : ℕ → List ℕ → ℤ → Dash → Outcome Reading
take_reading kind image v dash = do
  c ← contents kind image
  refuse WrongBlock first_selector if is_resistance c.template
  refuse TooManyPoints (length (points c)) if too_many dash (length (points c))
  s ← span_of c
  refuse OutsideSpan if too_far v s.least s.greatest
  Ok (reading_at c.calibration s v)
