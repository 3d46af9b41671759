-- Laws of the places of a curve's segments and terms, from its own counts.
use Rattle.sheet.proofs.Names.{◌≡◌, refl, sym, ap, ap₂, ◌∙◌, Bool, cond, List, [], ◌∷◌, ◌++◌, ℕ, zero, suc, ◌+◌, ◌-◌, ◌*◌, ◌/◌, ◌^◌, ◌≤◌, ◌<◌, arith, dec_lt, ltb, ℤ, pos, nat_abs, length, get_or, length-append}
use Rattle.sheet.proofs.Names.{le-ltb, lt-ltb, ltb-false, Outcome, Ok, Err, PastEnd, Value, Term, most_terms, bits, Stream, Parsed, parse, FoundTerm, FoundSegment, Calibration, bare, table, curve, Passed}
use Rattle.sheet.proofs.Names.{behind_segment, nothing_passed, segments_in, segment_in, all_terms, term_in, figure, float, parsed, SegmentsAt, CalibrationAt, get-front, get-back, stands-parse, TermStands, SegmentStands}
use Rattle.sheet.proofs.Names.{CurveStands, value_in, number_in, segment_at, term_at, segment_end, behind_segments, term_place}
use Rattle.sheet.proofs.Steps.{bits-lt}

-- ---- the counts

-- With this many terms before some segments, all terms are at most 30.
terms-few : (before : Passed) (at : ℕ) (segments : List FoundSegment) → before.terms ≤ 30 → SegmentsAt before at segments → before.terms + length (all_terms segments) ≤ 30
terms-few before at [] l h = omega arith
terms-few before at (x ∷ segments) l h =
    let few = ltb-false most_terms (before.terms + x.count.code) h.0.few in
    omega (arith, terms-few (behind_segment before x) _ segments few h.1, length-append x.terms (all_terms segments), h.0.counted)

pub curve-few : (at : ℕ) (k : Calibration) → CalibrationAt at k → (length (segments_in k) ≤ 20) × (length (all_terms (segments_in k)) ≤ 30)
curve-few at bare h = (omega arith, omega arith)
curve-few at (table domain pairs) h = (omega arith, omega arith)
curve-few at (curve segments) h = (h.most, omega (arith, terms-few nothing_passed (at + 19) segments (omega arith) h.stand))

-- ---- a segment and a term at their places

module _ {s : Stream} {x : FoundSegment} (h : SegmentStands s x) where
  terms-read : parse s (bits 7) (x.start.at + 13) ≡ Ok (parsed x.count.code (x.start.at + 13 + 7))
  terms-read =
      let at : ℕ = x.start.at + 13 in
      ap₂ (λ (b : Bool) (v : ℕ). cond b (Err (PastEnd at)) (Ok (parsed v (at + 7)))) (le-ltb s.bits (at + 7) h.count.inside) h.count.code

  pub segment-is : segment_at s x.start.at ≡ segment_in x
  segment-is =
      ap₂ (λ (z : ℤ) (n : ℕ). record { start = z; terms = n }) (ap (λ o. figure (value_in o)) (stands-parse h.start)) (ap number_in terms-read ∙ sym h.counted)

pub term_is : {s : Stream} {at : ℕ} {t : FoundTerm} → TermStands s at t → term_at s at ≡ term_in t
term_is {s} {at} {t} h = ap₂ made (ap value_in (stands-parse h.exponent)) (ap value_in (stands-parse h.coefficient))
  where
    made : Value → Value → Term
    made x c = record { exponent = pos (nat_abs (figure x) / 10); coefficient = float c }

-- The number of terms fits 7 bits.
pub terms-lt : (s : Stream) (at : ℕ) → (segment_at s at).terms < 2 ^ 7
terms-lt s at = go (parse s (bits 7) (at + 13)) refl
  where
    go : (o : Outcome (Parsed ℕ)) → o ≡ parse s (bits 7) (at + 13) → number_in o < 2 ^ 7
    go (Ok x) e = bits-lt s (at + 13) 7 e
    go (Err r) e = omega arith

-- ---- segments in order

-- After the first segment come the others.
pub curve-behind : {s : Stream} {at : ℕ} (x : FoundSegment) (segments : List FoundSegment) → CurveStands s at (x ∷ segments) → CurveStands s (segment_end at (length x.terms)) segments
curve-behind {s} {at} x segments h = record {
  stand = λ i none l. h.stand (suc i) none (omega arith);
  first = λ none l. omega (arith, h.next 0 none (omega arith), h.first none (omega arith));
  next = λ i none l. h.next (suc i) none (omega arith);
}

-- The first segment, which gives the place of the next.
pub first-is : {s : Stream} {at : ℕ} (x : FoundSegment) (segments : List FoundSegment) → CurveStands s at (x ∷ segments) → segment_at s at ≡ segment_in x
first-is {s} x segments h = ap (segment_at s) (sym (h.first x (omega arith))) ∙ segment-is (h.stand 0 x (omega arith))

first-terms : {s : Stream} {at : ℕ} (x : FoundSegment) (segments : List FoundSegment) → CurveStands s at (x ∷ segments) → (segment_at s at).terms ≡ length x.terms
first-terms x segments h = ap (λ y. y.terms) (first-is x segments h)

-- Segment i is at its computed place.
pub segment-place : {s : Stream} (at : ℕ) (segments : List FoundSegment) → CurveStands s at segments → (i : ℕ) (none : FoundSegment) → i < length segments →
    behind_segments s at i ≡ (get_or segments i none).start.at
segment-place at [] h i none l = absurd (omega arith)
segment-place at (x ∷ segments) h zero none l = sym (h.first none (omega arith))
segment-place {s} at (x ∷ segments) h (suc i) none l =
    ap (λ (n : ℕ). behind_segments s (segment_end at n) i) (first-terms x segments h)
    ∙ segment-place (segment_end at (length x.terms)) segments (curve-behind x segments h) i none (omega arith)

-- Term i, counted over all segments, is at its computed place.
pub term-place : {s : Stream} (at : ℕ) (segments : List FoundSegment) → CurveStands s at segments → (i : ℕ) (none : FoundTerm) → i < length (all_terms segments) →
    term_at s (term_place s at (length segments) i) ≡ term_in (get_or (all_terms segments) i none)
term-place at [] h i none l = absurd (omega arith)
term-place {s} at (x ∷ segments) h i none l =
    ap (λ (n : ℕ). term_at s (cond (ltb i n) (segment_end at i) (term_place s (segment_end at n) (length segments) (i - n)))) (first-terms x segments h)
    ∙ go (dec_lt i (length x.terms)) (λ k. term-place (segment_end at (length x.terms)) segments (curve-behind x segments h) (i - length x.terms) none k)
  where
    rest : ℕ
    rest = term_place s (segment_end at (length x.terms)) (length segments) (i - length x.terms)

    go : Dec (i < length x.terms) → (i - length x.terms < length (all_terms segments) → term_at s rest ≡ term_in (get_or (all_terms segments) (i - length x.terms) none)) →
        term_at s (cond (ltb i (length x.terms)) (segment_end at i) rest) ≡ term_in (get_or (x.terms ++ all_terms segments) i none)
    go (yes k) others =
        let own = (h.stand 0 x (omega arith)).terms i none k in
        ap (λ (b : Bool). term_at s (cond b (segment_end at i) rest)) (lt-ltb i (length x.terms) k)
        ∙ ap (λ (n : ℕ). term_at s (n + 20 + 39 * i)) (sym (h.first x (omega arith))) ∙ term_is own
        ∙ ap term_in (sym (get-front none x.terms (all_terms segments) i k))
    go (no k) others =
        let far : length x.terms ≤ i = omega arith in
        ap (λ (b : Bool). term_at s (cond b (segment_end at i) rest)) (le-ltb i (length x.terms) far)
        ∙ others (omega (arith, length-append x.terms (all_terms segments)))
        ∙ ap term_in (sym (get-back none x.terms (all_terms segments) i far))

-- ---- the loop over segments

-- Each segment takes at most 4,973 bits.
module _ (s : Stream) (at : ℕ) where
  pub passed-one : (n own : ℕ) → own ≡ (segment_at s at).terms → 0 < n → behind_segments s at n ≡ behind_segments s (segment_end at own) (n - 1)
  passed-one n own e h =
      let m : n ≡ suc (n - 1) = omega arith in
      ap (behind_segments s at) m ∙ ap (λ (k : ℕ). behind_segments s (segment_end at k) (n - 1)) (sym e)

  module _ (n own i : ℕ) (e : own ≡ (segment_at s at).terms) (h : 0 < n) where
    at_one : term_place s at n i ≡ cond (ltb i own) (segment_end at i) (term_place s (segment_end at own) (n - 1) (i - own))
    at_one =
        let m : n ≡ suc (n - 1) = omega arith in
        ap (λ (k : ℕ). term_place s at k i) m
        ∙ ap (λ (k : ℕ). cond (ltb i k) (segment_end at i) (term_place s (segment_end at k) (n - 1) (i - k))) (sym e)

    pub term-in-it : i < own → term_place s at n i ≡ segment_end at i
    term-in-it l = at_one ∙ ap (λ (b : Bool). cond b (segment_end at i) (term_place s (segment_end at own) (n - 1) (i - own))) (lt-ltb i own l)

    pub term-behind-it : own ≤ i → term_place s at n i ≡ term_place s (segment_end at own) (n - 1) (i - own)
    term-behind-it l = at_one ∙ ap (λ (b : Bool). cond b (segment_end at i) (term_place s (segment_end at own) (n - 1) (i - own))) (le-ltb i own l)
