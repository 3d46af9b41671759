-- Laws of curves: the format allows what a build plans, and a parsed curve is planned again.
use Rattle.promises.proofs.Names.{◌≡◌, refl, sym, ap, ap₂, ◌∙◌, subst, Bool, true, false, not, true≢false, List, [], ◌∷◌, ◌++◌, map, map-append, Option, None, Some, ℕ, zero, suc, ◌+◌, ◌*◌, ◌≤◌, arith, not-false}
use Rattle.promises.proofs.Names.{le-ltb, le-leb, leb-true, ltb, leb, ℤ, pos, negsuc, ◌*ℤ◌, length, take, drop, length-map, length-append, length-take, length-drop, take-add, take-append_seam, drop-append_seam}
use Rattle.promises.proofs.Names.{length-take-le, lt_z, up, dn, same, nlt_z-parts, is_false, Ok, WrongCurve, good-same, passed, both, Piece, piece, needed, Whole, Single, Segment, Term, Curve, encode, kept}
use Rattle.promises.proofs.Names.{segment_start, term_count, exponent, coefficient, is_term_count, most_terms, tenths_of, tenths_before, exponent_follows, exponent_code, start-sound, exponent-sound, coefficient-sound}
use Rattle.promises.proofs.Names.{stepped-whole, reads-back, stored-again, power, follows-some, below-zero, above-five, exponent-taken, power-is, terms-most, FoundTerm, FoundSegment, curve_found, Passed}
use Rattle.promises.proofs.Names.{behind_segment, nothing_passed, figure, float, all_terms, segment_in, term_in, block_pieces, found, width_is, plain-field, TermAt, TermsAt, terms_pieces, SegmentAt, SegmentsAt}
use Rattle.promises.proofs.Names.{segments_pieces, coefficient-is, exponent-is, exponent-power, exponent-back, calibration_pieces, CalibrationAt, terms-planned, no-term, segments-planned, no-segment, block-planned}
use Rattle.promises.proofs.Names.{start-planned, AllRealTerms, LendableCurve, kept_segment, segments_lent, terms_in, terms_lent}
use Rattle.templates.proofs.CurveLaws.{between}
use Rattle.layout.proofs.Curves.{segment_pieces}
use Rattle.build.specs.Build as plan

-- ---- a planned exponent

record Power (before : Option ℤ) (e : ℤ) (code : ℕ) : Type 0 where
  exact : tenths_of code ≡ pos 10 *ℤ e
  follows : exponent_follows before (tenths_of code) ≡ true
  whole : e ≡ pos (power code)

power-planned : (before : Option ℤ) (i : ℕ) (e : ℤ) (code : ℕ) → exponent_code before i (pos 10 *ℤ e) ≡ Ok code → Power before e code
power-planned before i e code h =
    let z : ℤ = pos 10 *ℤ e in
    let (t, f) = passed (WrongCurve i) (not (exponent_follows before z)) (encode exponent i (Whole z)) code h in
    let follows = not-false (exponent_follows before z) t in
    let own = follows-some before z follows in
    let low = case (lt_z e (pos 0)) refl (λ l. true≢false (sym own ∙ below-zero e l)) in
    let high = case (lt_z (pos 5) e) refl (λ l. true≢false (sym own ∙ above-five e l)) in
    let (most, exact) = between e low high in
    let after : exponent_follows before (tenths_of (64 + 2 * up e)) ≡ true = ap (exponent_follows before) exact ∙ follows in
    let is : 64 + 2 * up e ≡ code = good-same (exponent-taken before i e low high (sym after) ∙ h) in
    let stood = subst (λ (n : ℕ). exponent_follows before (tenths_of n) ≡ true) is after in
    let None : dn e ≡ 0 = omega (arith, nlt_z-parts e (pos 0) (is_false low), part_none e low) in
    record {
      exact = subst (λ (n : ℕ). tenths_of n ≡ z) is exact;
      follows = stood;
      whole = same e (pos (power code)) (omega (arith, None, is, (power-is code (follows-some before (tenths_of code) stood)).1));
    }
  where
    case : (b : Bool) {c : Bool} → c ≡ b → (c ≡ true → ⊥) → c ≡ false
    case true e n = absurd (n e)
    case false e n = e

    part_none : (z : ℤ) → lt_z z (pos 0) ≡ false → dn z ≡ 0
    part_none (pos n) l = refl
    part_none (negsuc n) l = absurd (true≢false l)

-- ---- terms

record TermsStand (before : Option ℕ) (at : ℕ) (terms : List Term) (ps : List Piece) : Type 0 where
  founds : List FoundTerm
  pieces : ps ≡ terms_pieces founds
  stand : TermsAt before at founds
  keeps : map term_in founds ≡ terms

terms-stand : (before : Option ℕ) (i at : ℕ) (terms : List Term) (ps : List Piece) → AllRealTerms terms → plan.term_pieces (tenths_before before) i terms ≡ Ok ps → TermsStand before at terms ps
unfolding kept
terms-stand before i at [] ps real e = record { founds = []; pieces = sym (no-term (tenths_before before) i ps e); stand = tt; keeps = refl }
terms-stand before i at (t ∷ terms) ps real e =
    let d = terms-planned (tenths_before before) i t terms ps e in
    let p = power-planned (tenths_before before) i t.exponent d.power d.exponent_coded in
    let (test, coded) = passed (WrongCurve i) (not (exponent_follows (tenths_before before) (pos 10 *ℤ t.exponent))) (encode exponent i (Whole (pos 10 *ℤ t.exponent))) d.power d.exponent_coded in
    let a = reads-back exponent i at d.power (Whole (pos 10 *ℤ t.exponent)) exponent-sound tt coded in
    let b = reads-back coefficient i (at + 7) d.factor (Single t.coefficient) coefficient-sound real.0 d.coefficient_coded in
    let x : FoundTerm = record { exponent = found exponent at d.power (kept exponent (Whole (pos 10 *ℤ t.exponent))); coefficient = found coefficient (at + 7) d.factor (Single t.coefficient) } in
    let h : TermAt before at x = record {
      exponent = record { field = record { is = refl; fits = a.0; means = a.1 }; taken = p.follows };
      coefficient = record { is = refl; fits = b.0; means = b.1 };
    } in
    let own : term_in x ≡ t = ap (λ (z : ℤ). record { exponent = z; coefficient = t.coefficient }) (ap pos (exponent-power h) ∙ sym p.whole) in
    let r = terms-stand (Some d.power) (suc i) (at + 39) terms d.rest real.1 (subst (λ (z : ℤ). plan.term_pieces (Some z) (suc i) terms ≡ Ok d.rest) (sym p.exact) d.others) in
    record {
      founds = x ∷ r.founds;
      pieces = sym d.joined ∙ ap (λ q. piece 7 d.power ∷ piece 32 d.factor ∷ q) r.pieces;
      stand = (h, r.stand);
      keeps = ap₂ (λ (u : Term) (us : List Term). u ∷ us) own r.keeps;
    }

terms-again : (before : Option ℕ) (i at : ℕ) (xs : List FoundTerm) → TermsAt before at xs → plan.term_pieces (tenths_before before) i (map term_in xs) ≡ Ok (terms_pieces xs)
unfolding plan.term_pieces
terms-again before i at [] h = refl
terms-again before i at (x ∷ xs) h =
    let t = h.0 in
    let f = t.exponent.field in
    let v = stepped-whole 7 _ 5 at x.exponent.code x.exponent.value f.means in
    let back : pos 10 *ℤ (term_in x).exponent ≡ tenths_of x.exponent.code = exponent-back t ∙ exponent-is t in
    let a : encode exponent i (Whole (tenths_of x.exponent.code)) ≡ Ok x.exponent.code =
    ap (encode exponent i) (sym v) ∙ stored-again exponent i at x.exponent.code x.exponent.value exponent-sound f.fits f.means in
    let c = coefficient-is t.coefficient in
    let single : Single (float x.coefficient.value) ≡ x.coefficient.value = ap (λ v. Single (float v)) c.0 ∙ sym c.0 in
    let b : encode coefficient i (Single (float x.coefficient.value)) ≡ Ok x.coefficient.code =
    ap (encode coefficient i) single ∙ stored-again coefficient i (at + 7) x.coefficient.code x.coefficient.value coefficient-sound t.coefficient.fits t.coefficient.means in
    rw (back, t.exponent.taken, a, b, terms-again (Some x.exponent.code) (suc i) _ xs h.1)
    (ap₂ (λ (v w : ℕ). Ok (piece v x.exponent.code ∷ piece w x.coefficient.code ∷ terms_pieces xs)) (sym (width_is f)) (sym (width_is t.coefficient)))

-- ---- segments

record SegmentsStand (before : Passed) (at : ℕ) (segments : List Segment) (terms : List Term) (ps : List Piece) : Type 0 where
  founds : List FoundSegment
  pieces : ps ≡ segments_pieces founds
  stand : SegmentsAt before at founds
  keeps : map segment_in founds ≡ map kept_segment segments
  keeps_terms : map term_in (all_terms founds) ≡ take (terms_in segments) terms

real-take : (n : ℕ) (terms : List Term) → AllRealTerms terms → AllRealTerms (take n terms)
real-take zero terms h = tt
real-take (suc n) [] h = tt
real-take (suc n) (t ∷ terms) h = (h.0, real-take n terms h.1)

real-drop : (n : ℕ) (terms : List Term) → AllRealTerms terms → AllRealTerms (drop n terms)
real-drop zero terms h = h
real-drop (suc n) [] h = tt
real-drop (suc n) (t ∷ terms) h = real-drop n terms h.1

segments-stand : (before : Passed) (i at : ℕ) (segments : List Segment) (terms : List Term) (ps : List Piece) → AllRealTerms terms → length terms + before.terms ≡ 30 →
    plan.segment_pieces before.start i before.terms segments terms ≡ Ok ps → SegmentsStand before at segments terms ps
segments-stand before i at [] terms ps real room e = record { founds = []; pieces = sym (no-segment before.start i before.terms terms ps e); stand = tt; keeps = refl; keeps_terms = refl }
segments-stand before i at (s ∷ segments) terms ps real room e =
    let d = segments-planned before.start i before.terms s segments terms ps e in
    let p = start-planned before.start i before.terms s d.start d.start_coded in
    let n : ℕ = s.terms in
    let few : n ≤ length terms = omega (arith, p.few) in
    let a = reads-back segment_start i at d.start (Whole s.start) start-sound tt p.coded in
    let own = terms-stand None before.terms (at + 20) (take n terms) d.own (real-take n terms real) d.own_planned in
    let counted : length own.founds ≡ n = sym (length-map own.founds term_in) ∙ ap length own.keeps ∙ length-take-le n terms few in
    let small : n ≤ 6 = terms-most n p.own in
    let x : FoundSegment = record {
      start = found segment_start at d.start (kept segment_start (Whole s.start));
      count = found term_count (at + 13) n (Whole (pos n));
      terms = own.founds;
    } in
    let h : SegmentAt before at x = record {
      start = record { field = record { is = refl; fits = a.0; means = a.1 }; taken = p.follows };
      count = record { field = plain-field 7 0 127 (at + 13) n (omega arith) (omega arith) (omega arith); taken = p.own };
      few = le-ltb most_terms (before.terms + n) p.few;
      counted = counted;
      terms = own.stand;
    } in
    let r = segments-stand (behind_segment before x) (suc i) (at + needed (segment_pieces x)) segments (drop n terms) d.rest (real-drop n terms real) (omega (arith, length-drop n terms)) d.others in
    record {
      founds = x ∷ r.founds;
      pieces = sym d.joined ∙ ap₂ (λ (q w : List Piece). piece 13 d.start ∷ piece 7 n ∷ (q ++ w)) own.pieces r.pieces;
      stand = (h, r.stand);
      keeps = ap₂ (λ (m : ℕ) (us : List Segment). record { start = figure (kept segment_start (Whole s.start)); terms = m } ∷ us) counted r.keeps;
      keeps_terms =
          map-append term_in own.founds (all_terms r.founds) ∙ ap₂ (λ (q w : List Term). q ++ w) own.keeps r.keeps_terms
          ∙ sym (take-add n (terms_in segments) terms);
    }

-- Terms that begin with those of the parsed segments.
segments-again : (before : Passed) (i at : ℕ) (xs : List FoundSegment) (terms : List Term) → SegmentsAt before at xs → take (length (all_terms xs)) terms ≡ map term_in (all_terms xs) →
    plan.segment_pieces before.start i before.terms (map segment_in xs) terms ≡ Ok (segments_pieces xs)
unfolding plan.segment_pieces plan.start_code plan.count_tested
segments-again before i at [] terms h e = refl
segments-again before i at (x ∷ xs) terms h e =
    let s = h.0 in
    let n : ℕ = length x.terms in
    let m : ℕ = length (all_terms xs) in
    let f = s.start.field in
    let v = stepped-whole 13 _ 123_000 at x.start.code x.start.value f.means in
    let whole : Whole (figure x.start.value) ≡ x.start.value = ap (λ u. Whole (figure u)) v ∙ sym v in
    let a : encode segment_start i (Whole (figure x.start.value)) ≡ Ok x.start.code =
    ap (encode segment_start i) whole ∙ stored-again segment_start i at x.start.code x.start.value start-sound f.fits f.means in
    let all : take n terms ++ take m (drop n terms) ≡ map term_in x.terms ++ map term_in (all_terms xs) =
    sym (take-add n m terms) ∙ ap (λ (k : ℕ). take k terms) (sym (length-append x.terms (all_terms xs))) ∙ e ∙ map-append term_in x.terms (all_terms xs) in
    let long : length (take n terms) ≡ length (map term_in x.terms) = front_long n m terms (map term_in x.terms) (map term_in (all_terms xs)) (length-map x.terms term_in) (length-map (all_terms xs) term_in) all in
    let first : take n terms ≡ map term_in x.terms =
    sym (take-append_seam (take n terms) (take m (drop n terms))) ∙ ap₂ (λ (k : ℕ) (l : List Term). take k l) long all ∙ take-append_seam (map term_in x.terms) (map term_in (all_terms xs)) in
    let rest : take m (drop n terms) ≡ map term_in (all_terms xs) =
    sym (drop-append_seam (take n terms) (take m (drop n terms))) ∙ ap₂ (λ (k : ℕ) (l : List Term). drop k l) long all ∙ drop-append_seam (map term_in x.terms) (map term_in (all_terms xs)) in
    let total : ltb most_terms (before.terms + n) ≡ false = ap (λ (k : ℕ). ltb most_terms (before.terms + k)) s.counted ∙ s.few in
    let own : is_term_count n ≡ true = ap is_term_count s.counted ∙ s.count.taken in
    let others = segments-again (behind_segment before x) (suc i) _ xs (drop n terms) h.1 rest in
    let others' = subst (λ (k : ℕ). plan.segment_pieces (Some x.start.code) (suc i) (before.terms + k) (map segment_in xs) (drop n terms) ≡ Ok (segments_pieces xs)) (sym s.counted) others in
    rw (a, s.start.taken, own, total, first, terms-again None before.terms (at + 20) x.terms s.terms, others')
    (ap₂ (λ (v w : ℕ). Ok (piece v x.start.code ∷ piece w n ∷ (terms_pieces x.terms ++ segments_pieces xs))) (sym (width_is f)) (sym (width_is s.count.field))
    ∙ ap (λ (k : ℕ). Ok (piece x.start.row.width x.start.code ∷ piece x.count.row.width k ∷ (terms_pieces x.terms ++ segments_pieces xs))) s.counted)
  where
    front_long : (n m : ℕ) (terms own rest : List Term) → length own ≡ n → length rest ≡ m → take n terms ++ take m (drop n terms) ≡ own ++ rest → length (take n terms) ≡ length own
    front_long n m terms own rest a b e =
        omega (
          arith,
          a,
          b,
          ap length e,
          length-append (take n terms) (take m (drop n terms)),
          length-append own rest,
          length-take n terms,
          length-take m (drop n terms),
          length-drop n terms,
        )

-- ---- the curve

pub record CurveStands (at : ℕ) (given : Curve) (ps : List Piece) : Type 0 where
  pub founds : List FoundSegment
  pub pieces : ps ≡ calibration_pieces (curve_found founds)
  pub stands : CalibrationAt at (curve_found founds)
  pub keeps : map segment_in founds ≡ map kept_segment (segments_lent given)
  pub keeps_terms : map term_in (all_terms founds) ≡ terms_lent given

pub curve-stands : (at : ℕ) (given : Curve) (ps : List Piece) → LendableCurve given → plan.curve_pieces given ≡ Ok ps → CurveStands at given ps
curve-stands at given ps lendable e =
    let d = block-planned given ps e in
    let limits = both (leb 1 given.count) (leb given.count 20) d.counted in
    let Some = leb-true 1 given.count limits.0 in
    let most = leb-true given.count 20 limits.1 in
    let r = segments-stand nothing_passed 0 (at + 19) (segments_lent given) given.terms d.pieces lendable.coefficients (omega (arith, lendable.terms)) d.plans in
    let long : length r.founds ≡ given.count =
    sym (length-map r.founds segment_in) ∙ ap length r.keeps ∙ length-map (segments_lent given) kept_segment ∙ length-take-le given.count given.segments (omega (arith, lendable.segments)) in
    record {
      founds = r.founds;
      pieces = sym d.joined ∙ ap₂ (λ (n : ℕ) (q : List Piece). block_pieces 41 ++ (piece 1 0 ∷ piece 8 n ∷ q)) (sym long) r.pieces;
      stands = record { some = omega arith; most = omega arith; stand = r.stand };
      keeps = r.keeps;
      keeps_terms = r.keeps_terms;
    }

pub curve-again : (at : ℕ) (xs : List FoundSegment) (given : Curve) → CalibrationAt at (curve_found xs) → given.count ≡ length xs → segments_lent given ≡ map segment_in xs →
    take (length (all_terms xs)) given.terms ≡ map term_in (all_terms xs) → plan.curve_pieces given ≡ Ok (calibration_pieces (curve_found xs))
unfolding plan.curve_pieces
curve-again at xs given h count segments terms =
    rw (count, le-leb 1 (length xs) h.some, le-leb (length xs) 20 h.most)
    (rw (subst (λ (n : ℕ). take n given.segments ≡ map segment_in xs) count segments, segments-again nothing_passed 0 (at + 19) xs given.terms h.stand terms) refl)
