-- Laws of a reading in the order of its rows: check, 4, 23, 13 and 21, 14, and its result.
use Rattle.reading.proofs.Names.{◌≡◌, sym, ap, ◌∙◌, List, ℕ, ℤ, length, ◌<ℤ◌, Refusal, Ok, Err, WrongBlock, OutsideSpan, TooManyPoints, good-same, good-bind, passed, Contents, contents, points}
use Rattle.reading.proofs.Names.{first_selector, Dash, Reading, Span, is_resistance, too_many, least, greatest, span_of, too_far, position, fraction, reading_at, take_reading}
use Rattle.reading.proofs.Spans.{spanned}

module _ (kind : ℕ) (image : List ℕ) (v : ℤ) (dash : Dash) where
  pub takes-refused : {r : Refusal} → contents kind image ≡ Err r → Err r ≡ take_reading kind image v dash
  unfolding take_reading
  takes-refused e = rw e

-- An accepted reading: the fraction at the input's position in a span that rises.
pub record Shown (kind : ℕ) (image : List ℕ) (v : ℤ) (r : Reading) : Type 0 where
  pub holds : Contents
  pub accepted : contents kind image ≡ Ok holds
  pub rises : least holds <ℤ greatest holds
  pub shows : r.fraction ≡ fraction holds.calibration (position v (least holds) (greatest holds))

pub shown : (kind : ℕ) (image : List ℕ) (v : ℤ) (dash : Dash) (r : Reading) → take_reading kind image v dash ≡ Ok r → Shown kind image v r
unfolding take_reading reading_at
shown kind image v dash r e =
    let (c, accepted, f) = good-bind (contents kind image) _ r e in
    let (b, h) = passed (WrongBlock first_selector) (is_resistance c.template) _ r f in
    let (m, j) = passed (TooManyPoints (length (points c))) (too_many dash (length (points c))) _ r h in
    let (s, found, g) = good-bind (span_of c) _ r j in
    let t = passed OutsideSpan (too_far v s.least s.greatest) _ r g in
    let k = spanned c s found in
    record {
      holds = c;
      accepted = accepted;
      rises = k.rises;
      shows = sym (ap (λ (y : Reading). y.fraction) (good-same t.1)) ∙ ap (λ (y : Span). fraction c.calibration (position v y.least y.greatest)) (sym k.is);
    }
