-- Only inner contracts need this: what the steps of a reading
-- require, so that nothing overflows, and their answers.
use Rattle.std.specs.Prelude.{◌≡◌, not, List, [], ◌∷◌, ℕ, zero, suc, ◌+◌, ◌^◌, ◌≤◌, T, ℤ, pos, nat_abs, ◌+ℤ◌, ◌-ℤ◌, ◌<ℤ◌}
use Rattle.std.specs.Float.Ieee.{is_nan}
use Rattle.std.specs.Int.Signed.{le_z}
use Rattle.integers.specs.Parts.{up, dn}
use Rattle.integers.specs.Nearest.{◌over◌, nearest}
use Rattle.refusal.specs.Outcome.{Outcome, Ok, ◌>>◌, refuse◌if◌}
use Rattle.refusal.specs.declared.Refusal.TheVariants.{NoSpan, EndOutside}
use Rattle.codes.specs.declared.Value.{Value}
use Rattle.reading.specs.declared.ends.Ends.{Ends}
use Rattle.templates.specs.declared.Pair.{Pair}
use Rattle.templates.specs.declared.Domain.{Domain}
use Rattle.templates.specs.declared.Domain.TheVariants.{Electrical, Physical}
use Rattle.templates.specs.declared.Term.{Term}
use Rattle.layout.specs.Format.{Stream}
use Rattle.layout.specs.Places.{segment_head, term_bits}
use Rattle.sheet.specs.Walk.{term_at}
use Rattle.correction.specs.Before.{point_of}
use Rattle.correction.specs.Line.{between}
use Rattle.correction.specs.Crossing.{sum, crossing_held, crossing_between}
use Rattle.reading.specs.declared.position.Offset.{Offset}
use Rattle.reading.specs.declared.span.Span.{Span}
use Rattle.reading.specs.Reading.{electrical_figure, is_missing, is_outside}

-- Rows 13 and 21 of the values of fields 10 and 11.
unfoldable pub ends_of : Value → Value → Outcome Ends
ends_of v w = do
  refuse NoSpan 10 if is_missing v
  refuse NoSpan 11 if is_missing w
  refuse EndOutside 10 if is_outside v
  refuse EndOutside 11 if is_outside w
  refuse NoSpan 11 if le_z (electrical_figure w) (electrical_figure v)
  Ok (record { least = electrical_figure v; greatest = electrical_figure w })

-- A span that a reading is taken from.
pub record Ready (s : Span) : Type 0 where
  pub rises : s.least <ℤ s.greatest
  pub least : nat_abs s.least ≤ 2 ^ 32
  pub greatest : nat_abs s.greatest ≤ 2 ^ 32
  pub low : T (not (is_nan s.low))
  pub high : T (not (is_nan s.high))

-- The position of an input in the span: v − e in natural numbers, above e less below e, and f − e.
pub record Lies (v : ℤ) (s : Span) (o : Offset) : Type 0 where
  pub above : o.above ≡ up v + dn s.least
  pub below : o.below ≡ dn v + up s.least
  pub span : pos o.span ≡ s.greatest -ℤ s.least

-- For each domain: the figure of a pair that a position is compared with, the
-- fraction where a pair's deviation holds, and the fraction between neighbours.
abbrev pub figure_in : Domain → Pair → ℤ
figure_in Electrical = point_of
figure_in Physical = sum

abbrev pub held_in : Domain → ℤ → Pair → ℤ
held_in Electrical p a = p +ℤ a.deviation
held_in Physical p a = crossing_held p a

abbrev pub between_in : Domain → ℤ → Pair → Pair → ℤ
between_in Electrical p a b = p +ℤ nearest ((between p 1 a b).num over (between p 1 a b).run)
between_in Physical p a b = crossing_between p a b

-- The n terms from a place on, and those of the segment at a place.
abbrev pub terms_from : Stream → ℕ → ℕ → List Term
terms_from s at zero = []
terms_from s at (suc n) = term_at s at ∷ terms_from s (at + term_bits) n

abbrev pub own_terms : Stream → ℕ → ℕ → List Term
own_terms s at n = terms_from s (at + segment_head) n
