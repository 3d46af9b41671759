-- Laws of curves: what the format allows as terms, segments and a curve, and their pieces.
use Rattle.layout.proofs.Names.{◌≡◌, refl, sym, ap, ap₂, ◌∙◌, subst, Bool, true, false, not, List, [], ◌∷◌, ◌++◌, Option, None, ℕ, ◌+◌, ◌*◌, ◌≤◌, arith, ltb, leb, pos, length, length-append, not-false}
use Rattle.layout.proofs.Names.{le-leb, leb-true, WrongCurve, TooManyTerms, both, Piece, piece, needed, needed-append, Whole, Row, curve_domain, segment_count, segment_start, term_count, exponent, coefficient}
use Rattle.layout.proofs.Names.{is_segment_count, is_term_count, most_terms, start_follows, tenths_of, tenths_before, exponent_follows, plain-bounds, Format, ends, ◌>>=◌, ◌>>◌, reject◌if◌, Found, FoundTerm, FoundSegment}
use Rattle.layout.proofs.Names.{Calibration, curve, Passed, field_of, ruled_of, term_of, behind_term, terms_of, segment_of, behind_segment, nothing_passed, segments_of, curve_of, all_terms}
use Rattle.layout.proofs.Formats.{Parses, parses-bind, parses-halves, ends-pieces, refuse-pieces, parses-made, made-pieces}
use Rattle.layout.proofs.Fields.{piece_of, found, FieldAt, width_is, plain-field, field-parses, field-pieces}
use Rattle.layout.proofs.Repeats.{each_pieces, EachAt, each-parses, each-pieces}

-- ---- a field that obeys a rule

pub record RuledAt (row : Row) (rule : ℕ → Bool) (at : ℕ) (x : Found) : Type 0 where
  pub field : FieldAt row at x
  pub taken : rule x.code ≡ true

-- The field's piece first, and the pieces after it.
pub record RuledPieces {B : Type 0} (S : ℕ) (row : Row) (rule : ℕ → Bool) (k : Found → Format B) (at : ℕ) (ps : List Piece) (b : B) : Type 0 where
  pub first : Found
  pub behind : List Piece
  pub split : ps ≡ piece_of first ∷ behind
  pub stands : RuledAt row rule at first
  pub parses : Parses S (k first) (at + row.width) behind b

-- The field, if the rule accepts its code.
abbrev pub taken_by : (ℕ → Bool) → Found → Format Found
taken_by rule x = reject WrongCurve x.at if not (rule x.code) >> ends x

module _ (S : ℕ) (row : Row) (rule : ℕ → Bool) (at : ℕ) where
  alone : (x : Found) → RuledAt row rule at x → Parses S (ruled_of row rule) at (piece_of x ∷ []) x
  unfolding ruled_of
  alone x h = field-parses S row (taken_by rule) at x [] x h.field (rw h.taken refl)

  first-is : (ps : List Piece) (x : Found) → Parses S (ruled_of row rule) at ps x → (ps ≡ piece_of x ∷ []) × RuledAt row rule at x
  unfolding ruled_of
  first-is ps x l =
      let w = field-pieces S row (taken_by rule) at ps x l in
      let y : Found = w.first in
      let (t, m) = refuse-pieces S (WrongCurve y.at) (not (rule y.code)) (ends y) _ w.behind x w.parses in
      let (z, e) = ends-pieces S y 0 w.behind x m in
      subst (λ (y : Found). (ps ≡ piece_of y ∷ []) × RuledAt row rule at y) e
      (w.split ∙ ap (λ q. piece_of y ∷ q) z, record { field = w.field; taken = not-false (rule y.code) t })

  module _ {B : Type 0} (k : Found → Format B) where
    pub ruled-parses : (x : Found) (ps : List Piece) (b : B) → RuledAt row rule at x → Parses S (k x) (at + row.width) ps b →
        Parses S (ruled_of row rule >>= k) at (piece_of x ∷ ps) b
    ruled-parses x ps b h l =
        let e : at + row.width ≡ at + needed (piece_of x ∷ []) = omega (arith, width_is h.field) in
        parses-bind S (ruled_of row rule) k at (piece_of x ∷ []) ps x b (alone x h) (subst (λ (n : ℕ). Parses S (k x) n ps b) e l)

    pub ruled-pieces : (ps : List Piece) (b : B) → Parses S (ruled_of row rule >>= k) at ps b → RuledPieces S row rule k at ps b
    ruled-pieces ps b l =
        let h = parses-halves S (ruled_of row rule) k at ps b l in
        let (e, r) = first-is h.first h.middle h.front in
        let n : at + needed h.first ≡ at + row.width = omega (arith, ap needed e, width_is r.field) in
        record {
          first = h.middle;
          behind = h.second;
          split = sym h.joined ∙ ap (λ q. q ++ h.second) e;
          stands = r;
          parses = subst (λ (n : ℕ). Parses S (k h.middle) n h.second b) n h.back;
        }

-- ---- terms

abbrev pub term_pieces : FoundTerm → List Piece
term_pieces t = piece_of t.exponent ∷ piece_of t.coefficient ∷ []

abbrev pub rises : Option ℕ → ℕ → Bool
rises before code = exponent_follows (tenths_before before) (tenths_of code)

-- A term at a place, after the one before it.
pub record TermAt (before : Option ℕ) (at : ℕ) (t : FoundTerm) : Type 0 where
  pub exponent : RuledAt exponent (rises before) at t.exponent
  pub coefficient : FieldAt coefficient (at + 7) t.coefficient

abbrev pub term : Found → Found → FoundTerm
term x c = record { exponent = x; coefficient = c }

abbrev pub with_coefficient : Found → Format FoundTerm
with_coefficient x = field_of coefficient >>= λ c. ends (term x c)

module _ (S : ℕ) (before : Option ℕ) (at : ℕ) where
  pub term-parses : (t : FoundTerm) → TermAt before at t → Parses S (term_of before) at (term_pieces t) t
  unfolding term_of
  term-parses t h =
      ruled-parses S exponent (rises before) at with_coefficient t.exponent _ t h.exponent
      (field-parses S coefficient (λ c. ends (term t.exponent c)) (at + 7) t.coefficient [] t h.coefficient refl)

  pub term-pieces : (ps : List Piece) (t : FoundTerm) → Parses S (term_of before) at ps t → (ps ≡ term_pieces t) × TermAt before at t
  unfolding term_of
  term-pieces ps t l =
      let a = ruled-pieces S exponent (rises before) at with_coefficient ps t l in
      let b = field-pieces S coefficient (λ c. ends (term a.first c)) (at + 7) a.behind t a.parses in
      let (z, e) = ends-pieces S (term a.first b.first) 0 b.behind t b.parses in
      subst (λ (u : FoundTerm). (ps ≡ term_pieces u) × TermAt before at u) e (
        a.split ∙ ap (λ q. piece_of a.first ∷ q) (b.split ∙ ap (λ q. piece_of b.first ∷ q) z),
        record { exponent = a.stands; coefficient = b.field },
      )

pub term-needed : {before : Option ℕ} {at : ℕ} (t : FoundTerm) → TermAt before at t → needed (term_pieces t) ≡ 39
term-needed t h = omega (arith, width_is h.exponent.field, width_is h.coefficient)

-- Terms in order, 39 bits each.
abbrev pub TermsAt : Option ℕ → ℕ → List FoundTerm → Type 0
TermsAt before at terms = EachAt behind_term TermAt term_pieces before at terms

abbrev pub terms_pieces : List FoundTerm → List Piece
terms_pieces terms = each_pieces term_pieces terms

pub terms-needed : (before : Option ℕ) (at : ℕ) (terms : List FoundTerm) → TermsAt before at terms → needed (terms_pieces terms) ≡ 39 * length terms
terms-needed before at [] h = refl
terms-needed before at (t ∷ terms) h =
    omega (arith, term-needed t h.0, needed-append (term_pieces t) (terms_pieces terms), terms-needed (behind_term before t) (at + needed (term_pieces t)) terms h.1)

-- ---- segments

abbrev pub segment_pieces : FoundSegment → List Piece
segment_pieces s = piece_of s.start ∷ piece_of s.count ∷ terms_pieces s.terms

-- A segment at a place, after what comes before it.
pub record SegmentAt (before : Passed) (at : ℕ) (s : FoundSegment) : Type 0 where
  pub start : RuledAt segment_start (start_follows before.start) at s.start
  pub count : RuledAt term_count is_term_count (at + 13) s.count
  pub few : ltb most_terms (before.terms + s.count.code) ≡ false
  pub counted : length s.terms ≡ s.count.code
  pub terms : TermsAt None (at + 20) s.terms

abbrev pub segment : Found → Found → List FoundTerm → FoundSegment
segment start count terms = record { start = start; count = count; terms = terms }

-- The format after a segment's start and its number of terms.
abbrev pub with_terms : Passed → Found → Found → Format FoundSegment
with_terms before start count =
    reject TooManyTerms (before.terms + count.code) if ltb most_terms (before.terms + count.code) >> (terms_of count.code >>= λ terms. ends (segment start count terms))

abbrev pub with_count : Passed → Found → Format FoundSegment
with_count before start = ruled_of term_count is_term_count >>= with_terms before start

module _ (S : ℕ) (before : Passed) (at : ℕ) where
  pub segment-parses : (s : FoundSegment) → SegmentAt before at s → Parses S (segment_of before) at (segment_pieces s) s
  unfolding segment_of terms_of
  segment-parses s h =
      let e : at + 20 ≡ at + 13 + 7 = omega arith in
      let terms = each-parses S term_of behind_term TermAt term_pieces (term-parses S) None (at + 20) s.terms h.terms in
      ruled-parses S segment_start (start_follows before.start) at (with_count before) s.start _ s h.start
      (ruled-parses S term_count is_term_count (at + 13) (with_terms before s.start) s.count _ s h.count
      (rw h.few
      (parses-made S (terms_of s.count.code) (segment s.start s.count) _ (terms_pieces s.terms) s.terms
      (subst (λ (n : ℕ). Parses S (terms_of s.count.code) n (terms_pieces s.terms) s.terms) e
      (subst (λ (n : ℕ). Parses S (terms_of n) (at + 20) (terms_pieces s.terms) s.terms) h.counted terms)))))

  pub segment-pieces : (ps : List Piece) (s : FoundSegment) → Parses S (segment_of before) at ps s → (ps ≡ segment_pieces s) × SegmentAt before at s
  unfolding segment_of terms_of
  segment-pieces ps s l =
      let a = ruled-pieces S segment_start (start_follows before.start) at (with_count before) ps s l in
      let b = ruled-pieces S term_count is_term_count (at + 13) (with_terms before a.first) a.behind s a.parses in
      let total : ℕ = before.terms + b.first.code in
      let (t, m) = refuse-pieces S (TooManyTerms total) (ltb most_terms total) _ _ b.behind s b.parses in
      let (terms, e, k) = made-pieces S (terms_of b.first.code) (segment a.first b.first) _ b.behind s m in
      let n : at + 13 + 7 ≡ at + 20 = omega arith in
      let r = each-pieces S term_of behind_term TermAt term_pieces (term-pieces S) b.first.code None (at + 20) b.behind terms
      (subst (λ (n : ℕ). Parses S (terms_of b.first.code) n b.behind terms) n k) in
      subst (λ (u : FoundSegment). (ps ≡ segment_pieces u) × SegmentAt before at u) e (
        a.split ∙ ap (λ q. piece_of a.first ∷ q) (b.split ∙ ap (λ q. piece_of b.first ∷ q) r.split),
        record { start = a.stands; count = b.stands; few = t; counted = r.count; terms = r.stand },
      )

pub segment-needed : {before : Passed} {at : ℕ} (s : FoundSegment) → SegmentAt before at s → needed (segment_pieces s) ≡ 20 + 39 * length s.terms
segment-needed {before} {at} s h =
    omega (arith, width_is h.start.field, width_is h.count.field, terms-needed None (at + 20) s.terms h.terms)

abbrev pub SegmentsAt : Passed → ℕ → List FoundSegment → Type 0
SegmentsAt before at segments = EachAt behind_segment SegmentAt segment_pieces before at segments

abbrev pub segments_pieces : List FoundSegment → List Piece
segments_pieces segments = each_pieces segment_pieces segments

pub segments-needed : (before : Passed) (at : ℕ) (segments : List FoundSegment) → SegmentsAt before at segments →
    needed (segments_pieces segments) ≡ 20 * length segments + 39 * length (all_terms segments)
segments-needed before at [] h = refl
segments-needed before at (s ∷ segments) h =
    omega (
      arith,
      segment-needed s h.0,
      needed-append (segment_pieces s) (segments_pieces segments),
      length-append s.terms (all_terms segments),
      segments-needed (behind_segment before s) (at + needed (segment_pieces s)) segments h.1,
    )

-- ---- the curve

-- After the block's template number: the domain, the number of segments and the segments.
abbrev pub curve_pieces : List FoundSegment → List Piece
curve_pieces segments = piece 1 0 ∷ piece 8 (length segments) ∷ segments_pieces segments

pub record CurveAt (at : ℕ) (segments : List FoundSegment) : Type 0 where
  pub some : 1 ≤ length segments
  pub most : length segments ≤ 20
  pub stand : SegmentsAt nothing_passed (at + 19) segments

-- The format after the number of segments, and after the domain.
abbrev pub drawn : Found → Format Calibration
drawn count = segments_of count.code >>= λ segments. ends (curve segments)

abbrev pub counted : Found → Format Calibration
counted domain = ruled_of segment_count is_segment_count >>= drawn

module _ (S at : ℕ) where
  -- From the place after the block's template number on.
  pub curve-parses : (segments : List FoundSegment) → 1 ≤ length segments → length segments ≤ 20 → SegmentsAt nothing_passed (at + 1 + 8) segments →
      Parses S curve_of at (curve_pieces segments) (curve segments)
  unfolding curve_of segments_of
  curve-parses segments l g h =
      let n : ℕ = length segments in
      let few : RuledAt segment_count is_segment_count (at + 1) (found segment_count (at + 1) n (Whole (pos n))) = record { field = plain-field 8 0 255 (at + 1) n (omega arith) (omega arith) (omega arith); taken = rw (le-leb 1 n l, le-leb n 20 g) refl } in
      field-parses S curve_domain counted at _ _ (curve segments) (plain-field 1 0 0 at 0 (omega arith) (omega arith) (omega arith))
      (ruled-parses S segment_count is_segment_count (at + 1) drawn _ _ (curve segments) few
      (parses-made S (segments_of n) curve _ (segments_pieces segments) segments
      (each-parses S segment_of behind_segment SegmentAt segment_pieces (segment-parses S) nothing_passed (at + 1 + 8) segments h)))

  pub record CurvePieces (ps : List Piece) (c : Calibration) : Type 0 where
    pub segments : List FoundSegment
    pub is : curve segments ≡ c
    pub split : ps ≡ curve_pieces segments
    pub some : 1 ≤ length segments
    pub most : length segments ≤ 20
    pub stand : SegmentsAt nothing_passed (at + 1 + 8) segments

  pub curve-pieces : (ps : List Piece) (c : Calibration) → Parses S curve_of at ps c → CurvePieces ps c
  unfolding curve_of segments_of
  curve-pieces ps c l =
      let a = field-pieces S curve_domain counted at ps c l in
      let b = ruled-pieces S segment_count is_segment_count (at + 1) drawn a.behind c a.parses in
      let n : ℕ = b.first.code in
      let da = plain-bounds 1 0 0 at a.first.code _ a.field.means in
      let z : a.first.code ≡ 0 = omega (arith, da.1) in
      let limits = both (leb 1 n) (leb n 20) b.stands.taken in
      let (segments, e, m) = made-pieces S (segments_of n) curve _ b.behind c b.parses in
      let r = each-pieces S segment_of behind_segment SegmentAt segment_pieces (segment-pieces S) n nothing_passed (at + 1 + 8) b.behind segments m in
      record {
        segments = segments;
        is = e;
        split =
            a.split ∙ ap₂ (λ (w k : ℕ). piece w k ∷ a.behind) (width_is a.field) z
            ∙ ap (λ q. piece 1 0 ∷ q) (b.split ∙ ap₂ (λ (w k : ℕ). piece w k ∷ b.behind) (width_is b.stands.field) (sym r.count) ∙ ap (λ q. piece 8 (length segments) ∷ q) r.split);
        some = omega (arith, r.count, leb-true 1 n limits.0);
        most = omega (arith, r.count, leb-true n 20 limits.1);
        stand = r.stand;
      }
