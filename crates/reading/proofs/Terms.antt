-- Laws of the terms of an accepted curve: their exponents rise from
-- 0 to 5, so that the fraction is computed from them in order.
use Rattle.reading.proofs.Names.{◌≡◌, refl, sym, ap, ◌∙◌, Bool, true, false, cond, List, [], ◌∷◌, map, ℕ, suc, ◌+◌, ◌-◌, ◌*◌, ◌≤◌, ◌<◌, arith, ℤ, nat_abs, length, le_z, Term, float_fraction, Stream}
use Rattle.reading.proofs.Names.{FoundSegment, Calibration, bare, table, curve, Passed, behind_segment, nothing_passed, segments_in, segment_in, term_in, SegmentsAt, Rises, terms-rise, CalibrationAt, term_at}
use Rattle.reading.proofs.Names.{segment_end, Powers, fraction_by, no_powers, with_term, taken, up_to_highest, Rising, fraction-taken, fraction, serving, serving_terms, physical_fraction, terms_from, own_terms}

-- ---- exponents

-- From the form of `layout` to the form that the float fraction requires.
rising : (least : ℕ) (terms : List Term) → Rises least terms → Rising least terms
rising least [] h = tt
rising least (t ∷ terms) h = (h.0, (h.1, rising (suc (nat_abs t.exponent)) terms h.2))

-- ---- the terms of a segment, in order

module _ (s : Stream) (at n i : ℕ) (powers : Powers) where
  -- The term after i of them, and the others.
  pub one-taken : i < n → (t : Term) {k : ℕ} → t ≡ term_at s k → k ≡ segment_end at i →
      taken (with_term powers t) (own_terms s (at + 39 * (i + 1)) (n - (i + 1))) ≡ taken powers (own_terms s (at + 39 * i) (n - i))
  one-taken l t {k} e f =
      let place : k ≡ at + 39 * i + 20 = omega (arith, f) in
      let next : at + 39 * (i + 1) + 20 ≡ at + 39 * i + 20 + 39 = omega arith in
      let left : n - i ≡ suc (n - (i + 1)) = omega arith in
      ap (λ (x : Term). taken (with_term powers x) (own_terms s (at + 39 * (i + 1)) (n - (i + 1)))) (e ∙ ap (term_at s) place)
      ∙ ap (λ (m : ℕ). taken (with_term powers (term_at s (at + 39 * i + 20))) (terms_from s m (n - (i + 1)))) next
      ∙ ap (λ (m : ℕ). taken powers (own_terms s (at + 39 * i) m)) (sym left)

  -- After the last term.
  pub none_left : n ≤ i → powers ≡ taken powers (own_terms s (at + 39 * i) (n - i))
  none_left l = let none : n - i ≡ 0 = omega arith in ap (λ (m : ℕ). taken powers (own_terms s (at + 39 * i) m)) (sym none)

-- ---- the segment that serves

abbrev EachRises : List FoundSegment → Type 0
EachRises [] = Unit {0}
EachRises (s ∷ segments) = Rising 0 (map term_in s.terms) × EachRises segments

segments-rise : (before : Passed) (at : ℕ) (segments : List FoundSegment) → SegmentsAt before at segments → EachRises segments
segments-rise before at [] h = tt
segments-rise before at (s ∷ segments) h = (rising 0 (map term_in s.terms) (terms-rise _ s.terms h.0.terms), segments-rise (behind_segment before s) _ segments h.1)

serving-rises : (p : ℤ) (s : FoundSegment) (segments : List FoundSegment) → EachRises (s ∷ segments) → Rising 0 (map term_in (serving p s segments).terms)
unfolding serving
serving-rises p s [] h = h.0
serving-rises p s (next ∷ segments) h = go (le_z (segment_in next).start p) (serving-rises p next segments h.1)
  where
    go : (t : Bool) → Rising 0 (map term_in (serving p next segments).terms) → Rising 0 (map term_in (cond t (serving p next segments) s).terms)
    go true later = later
    go false later = h.0

-- ---- the fraction that the physical figure is computed from

pub by-curve : (p : ℤ) (at : ℕ) (k : Calibration) → CalibrationAt at k → 0 < length (segments_in k) → fraction_by (up_to_highest (taken no_powers (serving_terms p (segments_in k)))) p ≡ physical_fraction k p
by-curve p at bare h any = absurd (omega arith)
by-curve p at (table domain pairs) h any = absurd (omega arith)
by-curve p at (curve []) h any = absurd (omega arith)
by-curve p at (curve (s ∷ segments)) h any = fraction-taken (serving_terms p (s ∷ segments)) p (serving-rises p s segments (segments-rise nothing_passed _ (s ∷ segments) h.stand))

pub by_fraction : (p : ℤ) (at : ℕ) (k : Calibration) → CalibrationAt at k → length (segments_in k) ≡ 0 → float_fraction (fraction k p) ≡ physical_fraction k p
by_fraction p at bare h e = refl
by_fraction p at (table domain pairs) h e = refl
by_fraction p at (curve segments) h e = absurd (omega (arith, h.some))
