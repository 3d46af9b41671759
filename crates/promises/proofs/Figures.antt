-- Laws of the figure of a reading: its ends are finite Singles and
-- its fraction is small, so that the laws of `figures` hold for it.
use Rattle.promises.proofs.Names.{◌≡◌, refl, sym, ap, ◌∙◌, subst, Bool, true, false, not, ◌&&◌, cond, List, ℕ, ◌^◌, ◌≤◌, arith, not-false, T, eqb, ℤ, nat_abs, length, ◌<ℤ◌, binary32, of_bits, of_bits-fits, Ok}
use Rattle.promises.proofs.Names.{WrongBlock, OutsideSpan, TooManyPoints, OutsideTable, NotFinite, good-same, good-bind, passed, Value, Whole, Single, Missing, Ieee, Row, Template, Bridge, float_fraction}
use Rattle.promises.proofs.Names.{physical_figure, Line, line_of, all_ones, finite, meaning, decode, span-listed, span_lines, Found, Calibration, bare, table, curve, Contents, contents, field, layout_of, points}
use Rattle.promises.proofs.Names.{first_selector, field_place, Accepted, contents-accepted, CalibrationAt, FieldAt, field-at, Some, domain_in, Opens, opened_as, Physical, Dash, Reading, Span, is_resistance, too_many}
use Rattle.promises.proofs.Names.{is_missing, least, greatest, span_of, too_far, position, fraction, serving_terms, physical_fraction, reading_at, take_reading, bridge, shown, spanned, span-ready, position-small}
use Rattle.promises.proofs.Names.{fraction-small, NeverFalls, End, near-fraction, fraction_of, figure-finite, figure-close, figure-follows, fraction-finite, fraction-rises, NoCurve, low, high, CurveShownNear}
use Rattle.promises.proofs.Names.{ShownNear, ShownFinite, ShownFollows, ShownRises, ShownRisesByPhysicalPoint, float}
use Rattle.promises.proofs.Needles.{needle, needle-by-physical-point}
use Rattle.figures.specs.Figures.{figure}
use Rattle.promises.proofs.CurveFigures.{curve-held, curve-number}

-- ---- the ends

abbrev Ended : Value → Type 0
Ended (Whole z) = ⊥
Ended (Single x) = End x
Ended Missing = Unit {0}

ended : {row : Row} {at : ℕ} {x : Found} → FieldAt row at x → row.rule ≡ Ieee → Ended x.value
unfolding decode
ended {row} {at} {x} h r = go (row.missing && eqb x.code (all_ones row.width)) h.means
  where
    go : (t : Bool) → cond t (Ok Missing) (meaning row.rule row.width at x.code) ≡ Ok x.value → Ended x.value
    go true e = subst Ended (good-same e) tt
    go false e =
        let q = passed (OutsideTable at) (eqb x.code (all_ones row.width)) _ x.value (rw r at e) in
        let p = passed (NotFinite at) (not (finite (of_bits binary32 x.code))) _ x.value q.1 in
        subst Ended (good-same p.1) (record { single = of_bits-fits binary32 x.code; finite = not-false (finite (of_bits binary32 x.code)) p.0 })

end_of : (v : Value) → Ended v → is_missing v ≡ false → End (float v)
end_of (Whole z) h m = absurd h
end_of (Single x) h m = h
end_of Missing h m = absurd (subst T m tt)

-- ---- an accepted reading

pub record Taken (c : Contents) (v : ℤ) (r : Reading) : Type 0 where
  pub foot : End (low c)
  pub top : End (high c)
  pub rises : least c <ℤ greatest c
  pub inside : too_far v (least c) (greatest c) ≡ false
  pub near : nat_abs (position v (least c) (greatest c)) ≤ 2 ^ 31
  pub small : nat_abs r.fraction ≤ 2 ^ 50
  pub counts : r.fraction ≡ fraction c.calibration (position v (least c) (greatest c))
  pub shows : r.figure ≡ physical_figure (low c) (high c) (physical_fraction c.calibration (position v (least c) (greatest c)))

-- Fields 7 and 8 of template 33.
module _ (kind : ℕ) (image : List ℕ) (c : Contents) (accepted : contents kind image ≡ Ok c) (b : is_resistance c.template ≡ false) where
  a : Accepted kind image c
  a = contents-accepted kind image c accepted

  opens : Opens kind image (opened_as a.sizes c) c
  opens = record { sized = a.sized; accepted = accepted; is = refl }

  stands : (f : ℕ) → 1 ≤ f → f ≤ 11 → {l : Line} → line_of Bridge f ≡ l → FieldAt (l.row_at (layout_of c).precision) (field_place (layout_of c) f) (field c f)
  stands f lo hi e =
      subst (λ (l : Line). FieldAt (l.row_at (layout_of c).precision) (field_place (layout_of c) f) (field c f)) (ap (λ (t : Template). line_of t f) (bridge c.template b) ∙ e)
      (field-at a.holding.formed f lo (span-listed c.template hi))

  module _ (s : Span) (found : span_of c ≡ Ok s) where
    low_end : End (low c)
    low_end = end_of (field c 7).value (ended (stands 7 (omega arith) (omega arith) span_lines.0) refl) (spanned c s found).low

    high_end : End (high c)
    high_end = end_of (field c 8).value (ended (stands 8 (omega arith) (omega arith) span_lines.1) refl) (spanned c s found).high

    within : (v : ℤ) → too_far v s.least s.greatest ≡ false → nat_abs (position v s.least s.greatest) ≤ 2 ^ 31
    within v t = position-small v (span-ready opens b found) t

    few : (v : ℤ) → too_far v s.least s.greatest ≡ false → nat_abs (fraction c.calibration (position v s.least s.greatest)) ≤ 2 ^ 33
    few v t = fraction-small opens (position v s.least s.greatest) (within v t)

pub taken : (kind : ℕ) (image : List ℕ) (c : Contents) (v : ℤ) (dash : Dash) (r : Reading) → contents kind image ≡ Ok c → take_reading kind image v dash ≡ Ok r → Taken c v r
unfolding take_reading reading_at
taken kind image c v dash r accepted e =
    let (d, holds, f) = good-bind (contents kind image) _ r e in
    let (b, h) = passed (WrongBlock first_selector) (is_resistance d.template) _ r f in
    let (m, j) = passed (TooManyPoints (length (points d))) (too_many dash (length (points d))) _ r h in
    let (s, found, g) = good-bind (span_of d) _ r j in
    let t = passed OutsideSpan (too_far v s.least s.greatest) _ r g in
    let k = spanned d s found in
    let q : r.fraction ≡ fraction d.calibration (position v s.least s.greatest) = sym (ap (λ (y : Reading). y.fraction) (good-same t.1)) in
    let x : r.figure ≡ physical_figure s.low s.high (physical_fraction d.calibration (position v s.least s.greatest)) = sym (ap (λ (y : Reading). y.figure) (good-same t.1)) in
    subst (λ (y : Contents). Taken y v r) (good-same (sym holds ∙ accepted))
    (record {
      foot = low_end kind image d holds b s found;
      top = high_end kind image d holds b s found;
      rises = k.rises;
      inside = subst (λ (y : Span). too_far v y.least y.greatest ≡ false) (sym k.is) t.0;
      near = subst (λ (y : Span). nat_abs (position v y.least y.greatest) ≤ 2 ^ 31) (sym k.is) (within kind image d holds b s found v t.0);
      small = rw q (omega (arith, few kind image d holds b s found v t.0));
      counts = q ∙ ap (λ (y : Span). fraction d.calibration (position v y.least y.greatest)) (sym k.is);
      shows = x ∙ ap (λ (y : Span). physical_figure y.low y.high (physical_fraction d.calibration (position v y.least y.greatest))) (sym k.is);
    })

-- Without a curve the figure is computed from q.
by_fraction : (k : Calibration) (p : ℤ) → NoCurve k → physical_fraction k p ≡ float_fraction (fraction k p)
by_fraction bare p h = refl
by_fraction (table domain pairs) p h = refl
by_fraction (curve segments) p h = absurd h

pub figure-is : (c : Contents) (v : ℤ) (r : Reading) → Taken c v r → NoCurve c.calibration → r.figure ≡ figure (low c) (high c) r.fraction
figure-is c v r t h = t.shows ∙ ap (physical_figure (low c) (high c)) (by_fraction c.calibration (position v (least c) (greatest c)) h ∙ ap float_fraction (sym t.counts))

-- ---- the statements

pub shown-near : ShownNear
shown-near kind image c v dash r accepted plain e =
    let t = taken kind image c v dash r accepted e in
    let x = figure-is c v r t plain in
    record {
      finite = rw x (figure-finite (low c) (high c) r.fraction t.foot t.top t.small);
      near = rw x (figure-close (low c) (high c) r.fraction t.foot t.top t.small);
    }

pub shown-finite : ShownFinite
shown-finite kind image v dash r e =
    let x = shown kind image v dash r e in
    let c = x.holds in
    let t = taken kind image c v dash r x.accepted e in
    ap finite t.shows ∙ go c t _ c.calibration (contents-accepted kind image c x.accepted).holding.formed.calibrated (rw t.counts at t.small)
  where
    go : (c : Contents) → Taken c v r → (at : ℕ) (k : Calibration) → CalibrationAt at k → nat_abs (fraction k (position v (least c) (greatest c))) ≤ 2 ^ 50
        → finite (physical_figure (low c) (high c) (physical_fraction k (position v (least c) (greatest c)))) ≡ true
    go c t at bare h l = figure-finite (low c) (high c) (fraction bare (position v (least c) (greatest c))) t.foot t.top l
    go c t at (table domain pairs) h l = figure-finite (low c) (high c) (fraction (table domain pairs) (position v (least c) (greatest c))) t.foot t.top l
    go c t at (curve segments) h l = curve-number (low c) (high c) (position v (least c) (greatest c)) _ segments t.foot t.top t.near h.stand

pub curve-shown-near : CurveShownNear
curve-shown-near kind image c segments v dash r accepted e reads =
    let t = taken kind image c v dash r accepted reads in
    let p = position v (least c) (greatest c) in
    let q : r.fraction ≡ p = t.counts ∙ ap (λ (k : Calibration). fraction k p) e in
    let x : r.figure ≡ physical_figure (low c) (high c) (fraction_of (serving_terms p segments) p) = t.shows ∙ ap (λ (k : Calibration). physical_figure (low c) (high c) (physical_fraction k p)) e in
    let h : CalibrationAt _ (curve segments) = subst (CalibrationAt _) e (contents-accepted kind image c accepted).holding.formed.calibrated in
    let w = curve-held p _ segments t.near h.stand in
    rw (x, q) (near-fraction (low c) (high c) (fraction_of (serving_terms p segments) p) t.foot t.top w.negative w.count w.value w.most)

pub shown-follows : ShownFollows
shown-follows kind image c v w one other r s accepted plain e k more =
    let t = taken kind image c v one r accepted e in
    let u = taken kind image c w other s accepted k in
    let x = figure-is c v r t plain in
    let y = figure-is c w s u plain in
    let h = figure-follows (low c) (high c) (float_fraction r.fraction) (float_fraction s.fraction) t.foot t.top (fraction-finite r.fraction t.small) (fraction-finite s.fraction u.small) in
    let l = fraction-rises r.fraction s.fraction t.small u.small more in
    record { rises = λ up. rw (x, y) (h.rises up l); falls = λ down. rw (x, y) (h.falls down l) }

not-curve : (k : Calibration) → NeverFalls k → NoCurve k
not-curve bare h = tt
not-curve (table domain pairs) h = tt
not-curve (curve segments) h = absurd h

table-only : (k : Calibration) → domain_in k ≡ Some Physical → NoCurve k
table-only bare h = tt
table-only (table domain pairs) h = tt
table-only (curve segments) h = absurd (let z : ◌≡◌ {A = ℕ} 0 1 = cc in omega arith)

pub shown-rises : ShownRises
shown-rises kind image c accepted falls v w one other r s e k more =
    shown-follows kind image c v w one other r s accepted (not-curve c.calibration falls) e k (needle kind image c accepted falls v w one other r s e k more)

pub shown-rises-by-physical-point : ShownRisesByPhysicalPoint
shown-rises-by-physical-point kind image c accepted domain v w one other r s e k more =
    shown-follows kind image c v w one other r s accepted (table-only c.calibration domain) e k (needle-by-physical-point kind image c accepted domain v w one other r s e k more)
