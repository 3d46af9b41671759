-- Laws of the stream of a sheet at the places of its curve's segments and terms.
use Rattle.layout.proofs.Names.{◌≡◌, sym, ap, ◌∙◌, subst, List, [], ◌∷◌, ◌++◌, append_assoc, Option, none_before, ℕ, zero, suc, ◌+◌, ◌*◌, ◌≤◌, ◌<◌, arith, length, get_or, field_at, Piece, piece, needed, Fit, Holds}
use Rattle.layout.proofs.Names.{needed-append, fit-split, holds-front, holds-back, holds-uncons, Row, segment_start, term_count, exponent, coefficient, Stream, Found, FoundTerm, FoundSegment, Calibration, bare}
use Rattle.layout.proofs.Names.{table, curve, Contents, Passed, behind_term, behind_segment, nothing_passed, layout_of, segments_in, behind_fields, block_pieces}
use Rattle.layout.proofs.Fields.{piece_of, FieldAt, width_is, at-is}
use Rattle.layout.proofs.Curves.{term_pieces, TermAt, TermsAt, terms_pieces, term-needed, segment_pieces, SegmentAt, SegmentsAt, segments_pieces, segment-needed}
use Rattle.layout.proofs.Calibrations.{calibration_pieces, CalibrationAt}
use Rattle.layout.proofs.Endings.{end_pieces}
use Rattle.layout.proofs.Places.{behind-is}
use Rattle.layout.proofs.Accepted.{Holding}
use Rattle.layout.proofs.Standing.{Valid, rest-holds}

-- The first of the pieces that a stream holds, as a field.
first-stands : (s : Stream) (row : Row) (at : ℕ) (x : Found) (ps : List Piece) → FieldAt row at x → Fit (piece_of x ∷ ps) → Holds s.number at (piece_of x ∷ ps) →
    at + row.width ≤ s.bits → Valid s row at x × Holds s.number (at + row.width) ps
first-stands s row at x ps h f k inside =
    let u = holds-uncons s.number at (piece_of x) ps f.0 k in (
      record { field = h; code = ap (λ (n : ℕ). field_at s.number at n) (sym (width_is h)) ∙ u.1; inside = inside },
      subst (λ (n : ℕ). Holds s.number (at + n) ps) (width_is h) u.0,
    )

-- ---- terms

pub record TermStands (s : Stream) (at : ℕ) (t : FoundTerm) : Type 0 where
  pub exponent : Valid s exponent at t.exponent
  pub coefficient : Valid s coefficient (at + 7) t.coefficient

term-stands : (s : Stream) (before : Option ℕ) (at : ℕ) (t : FoundTerm) (ps : List Piece) → TermAt before at t → Fit (term_pieces t ++ ps) → Holds s.number at (term_pieces t ++ ps) →
    at + 39 ≤ s.bits → TermStands s at t × Holds s.number (at + 39) ps
term-stands s before at t ps h f k inside =
    let a = first-stands s exponent at t.exponent (piece_of t.coefficient ∷ ps) h.exponent.field f k (omega arith) in
    let b = first-stands s coefficient (at + 7) t.coefficient ps h.coefficient f.1 a.1 (omega arith) in
    let e : at + 7 + 32 ≡ at + 39 = omega arith in
    (record { exponent = a.0; coefficient = b.0 }, subst (λ (n : ℕ). Holds s.number n ps) e b.1)

terms-stand : (s : Stream) (before : Option ℕ) (at : ℕ) (terms : List FoundTerm) → TermsAt before at terms → Fit (terms_pieces terms) →
    Holds s.number at (terms_pieces terms) → at + 39 * length terms ≤ s.bits → (i : ℕ) (none : FoundTerm) → i < length terms →
    TermStands s (at + 39 * i) (get_or terms i none)
terms-stand s before at [] h f k inside i none l = absurd (omega arith)
terms-stand s before at (t ∷ terms) h f k inside zero none l =
    let e : at ≡ at + 39 * 0 = omega arith in
    subst (λ (n : ℕ). TermStands s n t) e (term-stands s before at t (terms_pieces terms) h.0 f k (omega arith)).0
terms-stand s before at (t ∷ terms) h f k inside (suc i) none l =
    let n : at + needed (term_pieces t) ≡ at + 39 = omega (arith, term-needed t h.0) in
    let e : at + 39 + 39 * i ≡ at + 39 * suc i = omega arith in
    let rest = subst (λ (n : ℕ). TermsAt (behind_term before t) n terms) n h.1 in
    subst (λ (n : ℕ). TermStands s n (get_or terms i none)) e
    (terms-stand s (behind_term before t) (at + 39) terms rest f.1.1 (term-stands s before at t (terms_pieces terms) h.0 f k (omega arith)).1 (omega arith) i none (omega arith))

-- ---- segments

-- A segment at its own place, with its terms after it.
pub record SegmentStands (s : Stream) (x : FoundSegment) : Type 0 where
  pub start : Valid s segment_start x.start.at x.start
  pub count : Valid s term_count (x.start.at + 13) x.count
  pub counted : length x.terms ≡ x.count.code
  pub terms : (i : ℕ) (none : FoundTerm) → i < length x.terms → TermStands s (x.start.at + 20 + 39 * i) (get_or x.terms i none)

segment-stands : (s : Stream) (before : Passed) (at : ℕ) (x : FoundSegment) → SegmentAt before at x → Fit (segment_pieces x) → Holds s.number at (segment_pieces x) →
    at + needed (segment_pieces x) ≤ s.bits → SegmentStands s x
segment-stands s before at x h f k inside =
    let own : x.start.at ≡ at = at-is h.start.field in
    let long = segment-needed x h in
    let a = first-stands s segment_start at x.start (piece_of x.count ∷ terms_pieces x.terms) h.start.field f k (omega (arith, long)) in
    let b = first-stands s term_count (at + 13) x.count (terms_pieces x.terms) h.count.field f.1 a.1 (omega (arith, long)) in
    let e : at + 13 + 7 ≡ at + 20 = omega arith in
    let held : Holds s.number (at + 20) (terms_pieces x.terms) = subst (λ (n : ℕ). Holds s.number n (terms_pieces x.terms)) e b.1 in
    record {
      start = subst (λ (n : ℕ). Valid s segment_start n x.start) (sym own) a.0;
      count = subst (λ (n : ℕ). Valid s term_count (n + 13) x.count) (sym own) b.0;
      counted = h.counted;
      terms = λ i none l.
          subst (λ (n : ℕ). TermStands s (n + 20 + 39 * i) (get_or x.terms i none)) (sym own)
          (terms-stand s none_before (at + 20) x.terms h.terms f.1.1 held (omega (arith, long)) i none l);
    }

-- Each segment begins where the one before it ends.
pub record CurveStands (s : Stream) (at : ℕ) (segments : List FoundSegment) : Type 0 where
  pub stand : (i : ℕ) (none : FoundSegment) → i < length segments → SegmentStands s (get_or segments i none)
  pub first : (none : FoundSegment) → 0 < length segments → (get_or segments 0 none).start.at ≡ at
  pub next : (i : ℕ) (none : FoundSegment) → suc i < length segments →
      (get_or segments (suc i) none).start.at ≡ (get_or segments i none).start.at + 20 + 39 * length (get_or segments i none).terms

segments-stand : (s : Stream) (before : Passed) (at : ℕ) (segments : List FoundSegment) → SegmentsAt before at segments → Fit (segments_pieces segments) →
    Holds s.number at (segments_pieces segments) → at + needed (segments_pieces segments) ≤ s.bits → CurveStands s at segments
segments-stand s before at [] h f k inside = record {
  stand = λ i none l. absurd (omega arith);
  first = λ none l. absurd (omega arith);
  next = λ i none l. absurd (omega arith);
}
segments-stand s before at (x ∷ segments) h f k inside =
    let ps : List Piece = segment_pieces x in
    let rest : List Piece = segments_pieces segments in
    let g = fit-split ps rest f in
    let own = segment-stands s before at x h.0 g.0 (holds-front s.number at ps rest g.0 k) (omega (arith, needed-append ps rest)) in
    let behind = segments-stand s (behind_segment before x) (at + needed ps) segments h.1 g.1 (holds-back s.number at ps rest g.0 k) (omega (arith, needed-append ps rest)) in
    record { stand = stand own behind; first = λ none l. at-is h.0.start.field; next = next behind }
  where
    stand : SegmentStands s x → CurveStands s (at + needed (segment_pieces x)) segments → (i : ℕ) (none : FoundSegment) → i < length (x ∷ segments) → SegmentStands s (get_or (x ∷ segments) i none)
    stand own behind zero none l = own
    stand own behind (suc i) none l = behind.stand i none (omega arith)

    next : CurveStands s (at + needed (segment_pieces x)) segments → (i : ℕ) (none : FoundSegment) → suc i < length (x ∷ segments) →
        (get_or (x ∷ segments) (suc i) none).start.at ≡ (get_or (x ∷ segments) i none).start.at + 20 + 39 * length (get_or (x ∷ segments) i none).terms
    next behind zero none l = omega (arith, behind.first none (omega arith), at-is h.0.start.field, segment-needed x h.0)
    next behind (suc i) none l = behind.next i none (omega arith)

-- ---- a sheet

module _ {s : Stream} {c : Contents} (h : Holding s c) where
  abbrev text : List Piece
  text = end_pieces s.bits h.formed.end_at c.end_bit c.text

  abbrev end : List Piece
  end = (piece 2 3 ∷ []) ++ text

  -- The first segment is after the block, the domain and the number of segments.
  pub curve-here : CurveStands s (behind_fields (layout_of c) + 19) (segments_in c.calibration)
  curve-here =
      subst (λ (n : ℕ). CurveStands s (n + 19) (segments_in c.calibration)) (behind-is h.formed)
      (go c.calibration h.formed.calibrated (rest-holds h).0 (rest-holds h).1 (omega (arith, h.formed.end-at, h.formed.bits_are, h.inside)))
    where
      none-stands : (at : ℕ) → CurveStands s at []
      none-stands at = record { stand = λ i none l. absurd (omega arith); first = λ none l. absurd (omega arith); next = λ i none l. absurd (omega arith) }

      go : (k : Calibration) → CalibrationAt h.formed.behind k → Holds s.number h.formed.behind (calibration_pieces k ++ (piece 2 3 ∷ []) ++ text) →
          Fit (calibration_pieces k ++ (piece 2 3 ∷ []) ++ text) → h.formed.behind + needed (calibration_pieces k) ≤ s.bits → CurveStands s (h.formed.behind + 19) (segments_in k)
      go bare t holds fit inside = none-stands _
      go (table domain pairs) t holds fit inside = none-stands _
      go (curve segments) t holds fit inside =
          let start : List Piece = block_pieces 41 ++ (piece 1 0 ∷ piece 8 (length segments) ∷ []) in
          let ps : List Piece = segments_pieces segments in
          let e : calibration_pieces (curve segments) ++ (piece 2 3 ∷ []) ++ text ≡ start ++ (ps ++ end) = simp append_assoc in
          let f = fit-split start (ps ++ end) (subst Fit e fit) in
          let g = fit-split ps end f.1 in
          let held = holds-front s.number (h.formed.behind + 19) ps end g.0
          (holds-back s.number h.formed.behind start (ps ++ end) f.0 (subst (Holds s.number h.formed.behind) e holds)) in
          segments-stand s nothing_passed (h.formed.behind + 19) segments t.stand g.0 held (omega (arith, inside))
