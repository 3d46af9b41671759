-- Laws of an opened sheet: the sorts and sizes of the values that a reading uses.
use Rattle.reading.proofs.Names.{◌≡◌, refl, sym, ap, ap₂, ◌∙◌, subst, Bool, true, false, not, ◌&&◌, cond, true≢false, List, [], ◌∷◌, map, Option, None, Some, ℕ, zero, suc, ◌+◌, ◌*◌, ◌^◌, ◌≤◌, ◌<◌, mul-le-mul_left}
use Rattle.reading.proofs.Names.{arith, not-false, T, eqb, ltb, ℤ, pos, nat_abs, ◌+ℤ◌, binary32, of_bits, is_nan, get_or, ◌<ℤ◌, add_parts, abs-parts, parts-≤ℤ, parts-<ℤ, Ok, OutsideTable, NotFinite, good-same}
use Rattle.reading.proofs.Names.{passed, Value, Whole, Single, Missing, Stepped, Ieee, Row, Template, Bridge, Resistance, Codes, Pair, Domain, Electrical, Physical, all_ones, top_code, stepped_value, finite, meaning}
use Rattle.reading.proofs.Names.{decode, bridge_end, Line, line_of, no_pair, D, R, least_deviation, cal_point, cal_deviation, stored_sum, span-listed, span_lines, no_nan, nanovolts-within, stepped-whole, follows-rises}
use Rattle.reading.proofs.Names.{follows-climbs, Found, FoundPair, Calibration, bare, table, curve, Contents, codes_in, figure, field, layout_of, pairs_in, pair_in, points, field_place, FieldAt, PairAt, PairsAt}
use Rattle.reading.proofs.Names.{CalibrationAt, field-at, Neighbours, sum, SumsRise, Figures, Table, near-abs, figures-at, Some, Opened, domain_in, Opens, points-are, holding, domain-is, is_resistance}
use Rattle.reading.proofs.Names.{electrical_figure, float, is_missing, is_outside, figure_in}

-- ---- the sorts

-- A whole figure is from −B to B.
abbrev pub Figured : ℕ → Value → Type 0
Figured B (Whole z) = nat_abs z ≤ B
Figured B (Single x) = Unit {0}
Figured B Missing = Unit {0}

-- A finite float, or missing.
abbrev pub Floated : Value → Type 0
Floated (Whole z) = ⊥
Floated (Single x) = finite x ≡ true
Floated Missing = Unit {0}

pub figured-small : {B : ℕ} (v : Value) → Figured B v → nat_abs (figure v) ≤ B
figured-small (Whole z) h = h
figured-small (Single x) h = omega arith
figured-small Missing h = omega arith

-- A Single from −2 to 2 V/V is small too.
pub electrical-small : (v : Value) → Figured (2 ^ 32) v → is_outside v ≡ false → nat_abs (electrical_figure v) ≤ 2 ^ 32
electrical-small (Whole z) h i = h
electrical-small (Single x) h i = omega (arith, nanovolts-within x i)
electrical-small Missing h i = omega arith

floated-figured : (v : Value) → Floated v → Figured (2 ^ 32) v
floated-figured (Whole z) h = absurd h
floated-figured (Single x) h = tt
floated-figured Missing h = tt

pub floated-real : (v : Value) → Floated v → is_missing v ≡ false → T (not (is_nan (float v)))
floated-real (Whole z) h m = absurd h
floated-real (Single x) h m = no_nan x h
floated-real Missing h m = absurd (subst T m tt)

-- ---- what a field holds, by its row

module _ {row : Row} {at : ℕ} {x : Found} (h : FieldAt row at x) where
  -- The value is missing, or the rule's.
  either : (P : Value → Type 0) → P Missing → (meaning row.rule row.width at x.code ≡ Ok x.value → P x.value) → P x.value
  unfolding decode
  either P missing means = go (row.missing && eqb x.code (all_ones row.width)) h.means
    where
      go : (t : Bool) → cond t (Ok Missing) (meaning row.rule row.width at x.code) ≡ Ok x.value → P x.value
      go true e = subst P (good-same e) missing
      go false e = means e

  pub figured : {start : ℤ} {step : ℕ} (B : ℕ) → row.rule ≡ Stepped start step → nat_abs start + step * 2 ^ row.width ≤ B → Figured B x.value
  figured {start} {step} B r b =
      either (Figured B) tt
      (λ e. subst (Figured B) (good-same (passed (OutsideTable at) (ltb (top_code row.width) x.code) _ x.value (rw r at e)).1) small)
    where
      small : nat_abs (stepped_value start step x.code) ≤ B
      small =
          let less : x.code ≤ 2 ^ row.width = omega (arith, h.fits) in
          omega (arith, mul-le-mul_left step less, near-abs {b = nat_abs start + step * x.code} 1 (stepped_value start step x.code) (omega (arith, add_parts start (pos (step * x.code)), abs-parts start)))

  pub floated : row.rule ≡ Ieee → Floated x.value
  floated r =
      either Floated tt
      (λ e.
      let q = passed (OutsideTable at) (eqb x.code (all_ones row.width)) _ x.value (rw r at e) in
      let p = passed (NotFinite at) (not (finite (of_bits binary32 x.code))) _ x.value q.1 in
      subst Floated (good-same p.1) (not-false (finite (of_bits binary32 x.code)) p.0))

-- ---- the calibration points: they rise, and they and their deviations are small

point-is : {at : ℕ} {x : Found} → FieldAt cal_point at x → figure x.value ≡ stepped_value (pos 0) D x.code
point-is {at} {x} h = ap figure (stepped-whole 16 (pos 0) D at x.code x.value h.means)

deviation-is : {at : ℕ} {x : Found} → FieldAt cal_deviation at x → figure x.value ≡ stepped_value least_deviation R x.code
deviation-is {at} {x} h = ap figure (stepped-whole 21 least_deviation R at x.code x.value h.means)

pair-figures : {domain : Domain} {before : Option Codes} {at : ℕ} {p : FoundPair} → PairAt domain before at p → Figures (pair_in p)
pair-figures {p = p} h =
    record {
      least = parts-≤ℤ (pos 0) (figure p.point.value) (rw (point-is h.point) (omega (arith, add_parts (pos 0) (pos (D * p.point.code)))));
      point = figured-small p.point.value (figured h.point (2 ^ 30) refl (omega arith));
      deviation = figured-small p.deviation.value (figured h.deviation (2 ^ 32) refl (omega arith));
    }

pub pairs-table : (domain : Domain) (before : Option Codes) (at : ℕ) (pairs : List FoundPair) → PairsAt domain before at pairs → Table (map pair_in pairs)
pairs-table domain before at [] h = record { rises = tt; figures = tt }
pairs-table domain before at (p ∷ []) h = record { rises = tt; figures = (pair-figures h.0, tt) }
pairs-table domain before at (p ∷ r ∷ pairs) h =
    let t = pairs-table domain (Some (codes_in p)) (at + 37) (r ∷ pairs) h.1 in
    record { rises = (rises, t.rises); figures = (pair-figures h.0, t.figures) }
  where
    rises : figure p.point.value <ℤ figure r.point.value
    rises =
        rw (point-is h.0.point, point-is h.1.0.point)
        (parts-<ℤ _ _ (omega (
          arith,
          add_parts (pos 0) (pos (D * p.point.code)),
          add_parts (pos 0) (pos (D * r.point.code)),
          follows-rises domain (codes_in p) _ (codes_in r) h.1.0.follows,
        )))

pub calibration-table : (at : ℕ) (c : Calibration) → CalibrationAt at c → Table (map pair_in (pairs_in c))
calibration-table at bare h = record { rises = tt; figures = tt }
calibration-table at (table domain pairs) h = pairs-table domain None (at + 18) pairs h.stand
calibration-table at (curve segments) h = record { rises = tt; figures = tt }

-- In domain 1 the sums of pairs rise.
sum_is : {domain : Domain} {before : Option Codes} {at : ℕ} {p : FoundPair} → PairAt domain before at p → sum (pair_in p) ≡ stored_sum (codes_in p)
sum_is h = ap₂ ◌+ℤ◌ (point-is h.point) (deviation-is h.deviation)

pairs-sums : (before : Option Codes) (at : ℕ) (pairs : List FoundPair) → PairsAt Physical before at pairs → SumsRise (map pair_in pairs)
pairs-sums before at [] h = tt
pairs-sums before at (p ∷ []) h = tt
pairs-sums before at (p ∷ r ∷ pairs) h =
    (rw (sum_is h.0, sum_is h.1.0) (follows-climbs (codes_in p) _ (codes_in r) h.1.0.follows), pairs-sums (Some (codes_in p)) (at + 37) (r ∷ pairs) h.1)

-- The figures that a position is compared with rise.
abbrev pub RisesIn : Domain → List Pair → Type 0
RisesIn domain = Neighbours (λ a b. figure_in domain a <ℤ figure_in domain b)

pub pairs-rise : (domain : Domain) (before : Option Codes) (at : ℕ) (pairs : List FoundPair) → PairsAt domain before at pairs → RisesIn domain (map pair_in pairs)
pairs-rise Electrical before at pairs h = (pairs-table Electrical before at pairs h).rises
pairs-rise Physical before at pairs h = pairs-sums before at pairs h

pub calibration-rises : (at : ℕ) (c : Calibration) (domain : Domain) → CalibrationAt at c → domain_in c ≡ Some domain → RisesIn domain (map pair_in (pairs_in c))
calibration-rises at bare domain h e = tt
calibration-rises at (table found pairs) domain h e =
    let same : found ≡ domain = cc in
    subst (λ (d : Domain). RisesIn d (map pair_in pairs)) same (pairs-rise found None (at + 18) pairs h.stand)
calibration-rises at (curve segments) domain h e = tt

-- ---- the sheet

-- Fields 10 and 11, at any precision.
end-figured : (p : ℕ) {at : ℕ} {x : Found} → FieldAt (bridge_end p) at x → Figured (2 ^ 32) x.value
end-figured zero h = figured h (2 ^ 32) refl (omega arith)
end-figured (suc zero) h = figured h (2 ^ 32) refl (omega arith)
end-figured (suc (suc p)) {x = x} h = floated-figured x.value (floated h refl)

pub opened-table : {kind : ℕ} {image : List ℕ} {o : Opened} {c : Contents} → Opens kind image o c → Table (points c)
opened-table {c = c} h = calibration-table _ c.calibration (holding h).formed.calibrated

module _ {kind : ℕ} {image : List ℕ} {o : Opened} {c : Contents} (h : Opens kind image o c) where
  -- The figures of pair i are small.
  pub opened-figures : {q : Pair} (i : ℕ) → q ≡ get_or (points c) i no_pair → i < o.summary.points → Figures q
  opened-figures i e l = rw e (figures-at (points c) (opened-table h).figures i (omega (arith, points-are h)))

  pub opened-rises : (domain : Domain) → o.summary.domain ≡ Some domain → RisesIn domain (points c)
  opened-rises domain e = calibration-rises _ c.calibration domain (holding h).formed.calibrated (sym (domain-is h) ∙ e)

-- A template that is not 32 is 33.
pub bridge : (t : Template) → is_resistance t ≡ false → t ≡ Bridge
bridge Bridge e = refl
bridge Resistance e = absurd (true≢false e)

module _ {kind : ℕ} {image : List ℕ} {o : Opened} {c : Contents} (h : Opens kind image o c) (b : is_resistance c.template ≡ false) where
  line-is : (f : ℕ) → line_of c.template f ≡ line_of Bridge f
  line-is f = ap (λ (t : Template). line_of t f) (bridge c.template b)

  stands : (f : ℕ) → 1 ≤ f → f ≤ 11 → {l : Line} → line_of Bridge f ≡ l → FieldAt (l.row_at (layout_of c).precision) (field_place (layout_of c) f) (field c f)
  stands f lo hi e = subst (λ (l : Line). FieldAt (l.row_at (layout_of c).precision) (field_place (layout_of c) f) (field c f)) (line-is f ∙ e) (field-at (holding h).formed f lo (span-listed c.template hi))

  pub opened-low : Floated (field c 7).value
  opened-low = floated (stands 7 (omega arith) (omega arith) span_lines.0) refl

  pub opened-high : Floated (field c 8).value
  opened-high = floated (stands 8 (omega arith) (omega arith) span_lines.1) refl

  pub opened-least : Figured (2 ^ 32) (field c 10).value
  opened-least = end-figured (layout_of c).precision (stands 10 (omega arith) (omega arith) span_lines.3)

  pub opened-greatest : Figured (2 ^ 32) (field c 11).value
  opened-greatest = end-figured (layout_of c).precision (stands 11 (omega arith) (omega arith) span_lines.4)
