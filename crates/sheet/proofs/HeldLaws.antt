-- Laws of the values of an opened sheet: each is in the image where the check found it.
use Rattle.sheet.proofs.Names.{◌≡◌, refl, sym, ap, ap₂, ◌∙◌, subst, Bool, cond, List, [], ◌∷◌, map, ℕ, zero, suc, ◌+◌, ◌*◌, ◌/◌, ◌%◌, ◌^◌, ◌≤◌, ◌<◌, arith, length, get_or, length-map, get_or-map, ℤ, pos, le-ltb}
use Rattle.sheet.proofs.Names.{Ok, Err, PastEnd, field_at, WholeImage, field_lt, field-add, sizes-whole, sizes-chip, Layout, Template, Bridge, Stepped, stepped_value, always, bridge_end, Line, last_field}
use Rattle.sheet.proofs.Names.{line_of, row_of, D, R, least_deviation, no_pair, no_segment, no_term, stepped-whole, span_lines, Unscaled, bits, Stream, parse, Found, Contents, FoundPair, FoundTerm, FoundSegment}
use Rattle.sheet.proofs.Names.{field_of, stream_in, nothing, field, layout_of, pairs_in, pair_in, segments_in, segment_in, all_terms, term_in, figure, points, segments, terms, field_place, behind_fields, table_start}
use Rattle.sheet.proofs.Names.{pair_bits, table_bits, pair_place, curve_bits, behind_block, character_place, parsed, Holding, accepted-at, field-stands, stands-parse, PairStands, pair-here, character-here, pair_from}
use Rattle.sheet.proofs.Names.{CurveStands, curve-here, Opened, domain_in, Opens, value_in, segment_at, term_at, behind_segments, term_place, end-few, table-least, no_found}
use Rattle.layout.proofs.Standing.{Valid}
use Rattle.sheet.proofs.CurvePlaces.{curve-few, segment-is, segment-place, term-place}

-- An element of a mapped list.
get_d-mapped : {A B : Type 0} (f : A → B) (xs : List A) (i : ℕ) (none : A) (other : B) → i < length xs → get_or (map f xs) i other ≡ f (get_or xs i none)
get_d-mapped f [] i none other l = absurd (omega arith)
get_d-mapped f (x ∷ xs) zero none other l = refl
get_d-mapped f (x ∷ xs) (suc i) none other l = get_d-mapped f xs i none other (omega arith)

-- No end of the span of template 33 has a geometric rule.
line-unscaled : (layout : Layout) (f : ℕ) {l : Line} → layout.template ≡ Bridge → line_of Bridge f ≡ l → Unscaled (l.row_at layout.precision).rule → Unscaled (row_of layout f).rule
line-unscaled layout f e is u = subst (λ (l : Line). Unscaled (l.row_at layout.precision).rule) (sym (ap (λ (t : Template). line_of t f) e ∙ is)) u

end-unscaled : (p : ℕ) → Unscaled (bridge_end p).rule
end-unscaled zero = tt
end-unscaled (suc zero) = tt
end-unscaled (suc (suc p)) = tt

pub span-unscaled : (layout : Layout) → layout.template ≡ Bridge →
    Unscaled (row_of layout 7).rule × Unscaled (row_of layout 8).rule × Unscaled (row_of layout 10).rule × Unscaled (row_of layout 11).rule
span-unscaled layout e =
    let ends = end-unscaled layout.precision in
    (line-unscaled layout 7 e span_lines.0 tt, line-unscaled layout 8 e span_lines.1 tt, line-unscaled layout 10 e span_lines.3 ends, line-unscaled layout 11 e span_lines.4 ends)

-- The figure of a valid stepped field.
stepped-figure : {s : Stream} {w : ℕ} {start : ℤ} {step at : ℕ} {x : Found} → Valid s (always w (Stepped start step)) at x →
    stepped_value start step (field_at s.number at w) ≡ figure x.value
stepped-figure {s} {w} {start} {step} {at} {x} h =
    ap (stepped_value start step) h.code ∙ sym (ap figure (stepped-whole w start step at x.code x.value h.field.means))

-- A valid pair, read as one field.
pair-from : {s : Stream} {at : ℕ} {p : FoundPair} → PairStands s at p → pair_in (pair_from at (field_at s.number at pair_bits)) ≡ pair_in p
pair-from {s} {at} {p} h =
    let N : ℕ = s.number in
    let point : field_at N at pair_bits % 2 ^ 16 ≡ field_at N at 16 = omega (arith, field-add N at 21 16, field_lt N at 16) in
    let deviation : field_at N at pair_bits / 2 ^ 16 ≡ field_at N (at + 16) 21 = omega (arith, field-add N at 21 16, field_lt N at 16) in
    ap₂ (λ (y z : ℤ). record { point = y; deviation = z })
    (ap (stepped_value (pos 0) D) point ∙ stepped-figure h.point) (ap (stepped_value least_deviation R) deviation ∙ stepped-figure h.deviation)

module _ {kind : ℕ} {image : List ℕ} {o : Opened} {c : Contents} (h : Opens kind image o c) where
  abbrev s : Stream
  s = stream_in o.sizes image

  pub layout_is : o.layout ≡ layout_of c
  layout_is = ap (λ u. u.layout) h.is

  pub behind-is : o.behind.at ≡ behind_fields o.layout
  behind-is = ap (λ u. u.behind.at) h.is ∙ sym (ap behind_fields layout_is)

  pub behind-few : o.behind.at < 2 ^ 17
  behind-few = omega (arith, behind-is, end-few o.layout)

  pub points-are : o.summary.points ≡ length (points c)
  points-are = ap (λ u. u.summary.points) h.is

  pub segments-are : o.summary.segments ≡ length (segments c)
  segments-are = ap (λ u. u.summary.segments) h.is

  pub terms-are : o.summary.terms ≡ length (terms c)
  terms-are = ap (λ u. u.summary.terms) h.is

  pub domain-is : o.summary.domain ≡ domain_in c.calibration
  domain-is = ap (λ u. u.summary.domain) h.is

  pub characters-are : o.summary.characters ≡ length c.text
  characters-are = ap (λ u. u.summary.characters) h.is

  pub held_whole : WholeImage o.sizes image
  held_whole = sizes-whole kind image o.sizes h.sized

  pub holding : Holding s c
  holding = (accepted-at kind image c o.sizes h.accepted h.sized).1

  bits-few : s.bits < 2 ^ 32
  bits-few = omega (arith, sizes-chip kind (length image) o.sizes h.sized)

  -- ---- a field

  pub held-field : (f : ℕ) → 1 ≤ f → f ≤ last_field o.layout.template →
      value_in (parse s (field_of (row_of o.layout f)) (field_place o.layout f)) ≡ (field c f).value
  held-field f lo hi =
      ap (λ (l : Layout). value_in (parse s (field_of (row_of l f)) (field_place l f))) layout_is
      ∙ ap value_in (stands-parse (field-stands holding f lo (subst (λ (l : Layout). f ≤ last_field l.template) layout_is hi)))

  -- ---- a pair

  pair-stands : (i : ℕ) → i < o.summary.points → PairStands s (pair_place o.layout i) (get_or (pairs_in c.calibration) i no_found)
  pair-stands i l =
      subst (λ (y : Layout). PairStands s (pair_place y i) (get_or (pairs_in c.calibration) i no_found)) (sym layout_is)
      (pair-here holding i no_found (omega (arith, points-are, length-map (pairs_in c.calibration) pair_in)))

  pub index-few : (i : ℕ) → i < o.summary.points → i < 2 ^ 32
  index-few i l = omega (arith, (pair-stands i l).point.inside, bits-few)

  pub held-pair : (i : ℕ) → i < o.summary.points → {at : ℕ} → at ≡ o.behind.at + table_start + pair_bits * i →
      (parse s (bits pair_bits) at ≡ Ok (parsed (field_at s.number at pair_bits) (at + pair_bits))) × (pair_in (pair_from at (field_at s.number at pair_bits)) ≡ get_or (points c) i no_pair)
  held-pair i l {at} e' =
      let p = pair-stands i l in
      let e : at ≡ pair_place o.layout i = omega (arith, e', behind-is) in (
        ap (λ (b : Bool). cond b (Err (PastEnd at)) (Ok (parsed (field_at s.number at pair_bits) (at + pair_bits)))) (le-ltb s.bits (at + pair_bits) (omega (arith, e, p.deviation.inside))),
        pair-from (subst (λ (n : ℕ). PairStands s n (get_or (pairs_in c.calibration) i no_found)) (sym e) p) ∙ sym (get_or-map pair_in (pairs_in c.calibration) i no_found),
      )

  -- ---- a character

  abbrev place : ℕ → ℕ
  place i = character_place o.layout o.summary.points o.summary.segments o.summary.terms i

  end_is : behind_block (layout_of c) (length (pairs_in c.calibration)) (length (segments_in c.calibration)) (length (all_terms (segments_in c.calibration))) ≡
      behind_block o.layout o.summary.points o.summary.segments o.summary.terms
  end_is = λ j.
      behind_block (sym layout_is j) (sym (points-are ∙ length-map (pairs_in c.calibration) pair_in) j)
      (sym (segments-are ∙ length-map (segments_in c.calibration) segment_in) j) (sym (terms-are ∙ length-map (all_terms (segments_in c.calibration)) term_in) j)

  character-stands : (i : ℕ) → i < o.summary.characters → (field_at s.number (place i) 7 ≡ get_or c.text i 0) × (place i + 7 ≤ s.bits)
  character-stands i l =
      subst (λ (n : ℕ). (field_at s.number (n + 3 + 7 * i) 7 ≡ get_or c.text i 0) × (n + 3 + 7 * i + 7 ≤ s.bits)) end_is
      (character-here holding i (omega (arith, characters-are)))

  pub place-few : (i : ℕ) → i < o.summary.characters →
      (o.behind.at < 2 ^ 32) × (o.summary.points < 2 ^ 32) × (o.summary.segments < 2 ^ 32) × (o.summary.terms < 2 ^ 32) × (i < 2 ^ 32)
  place-few i l =
      let h = (character-stands i l).1 in
      let few = curve-few holding.formed.behind c.calibration holding.formed.calibrated in (
        omega (arith, behind-few),
        omega (arith, table-least o.summary.points, bits-few),
        omega (arith, segments-are, length-map (segments_in c.calibration) segment_in, few.0),
        omega (arith, terms-are, length-map (all_terms (segments_in c.calibration)) term_in, few.1),
        omega (arith, bits-few),
      )

  pub held-character : (i : ℕ) → i < o.summary.characters → {at : ℕ} →
      at ≡ o.behind.at + table_bits o.summary.points + curve_bits o.summary.segments o.summary.terms + 3 + 7 * i → parse s (bits 7) at ≡ Ok (parsed (get_or c.text i 0) (at + 7))
  held-character i l {at} e' =
      let (is, inside) = character-stands i l in
      let e : at ≡ place i = omega (arith, e', behind-is) in
      ap₂ (λ (b : Bool) (v : ℕ). cond b (Err (PastEnd at)) (Ok (parsed v (at + 7)))) (le-ltb s.bits (at + 7) (omega (arith, e, inside))) (ap (λ (n : ℕ). field_at s.number n 7) e ∙ is)

  -- ---- a segment and a term

  pub segments-few : o.summary.segments ≤ 20
  segments-few =
      omega (arith, segments-are, length-map (segments_in c.calibration) segment_in, (curve-few holding.formed.behind c.calibration holding.formed.calibrated).0)

  -- The first segment is at the curve's place.
  pub held-curve : CurveStands s (o.behind.at + 19) (segments_in c.calibration)
  held-curve = subst (λ (n : ℕ). CurveStands s (n + 19) (segments_in c.calibration)) (sym (ap (λ u. u.behind.at) h.is)) (curve-here holding)

  abbrev no_found_term : FoundTerm
  no_found_term = record { exponent = nothing; coefficient = nothing }

  abbrev no_found_segment : FoundSegment
  no_found_segment = record { start = nothing; count = nothing; terms = [] }

  pub held-segment : (i : ℕ) → i < o.summary.segments → segment_at s (behind_segments s (o.behind.at + 19) i) ≡ get_or (segments c) i no_segment
  held-segment i l =
      let xs : List FoundSegment = segments_in c.calibration in
      let n : i < length xs = omega (arith, segments-are, length-map xs segment_in) in
      ap (segment_at s) (segment-place (o.behind.at + 19) xs held-curve i no_found_segment n) ∙ segment-is (held-curve.stand i no_found_segment n)
      ∙ sym (get_d-mapped segment_in xs i no_found_segment no_segment n)

  pub held-term : (i : ℕ) → i < o.summary.terms → term_at s (term_place s (o.behind.at + 19) o.summary.segments i) ≡ get_or (terms c) i no_term
  held-term i l =
      let xs : List FoundSegment = segments_in c.calibration in
      let n : i < length (all_terms xs) = omega (arith, terms-are, length-map (all_terms xs) term_in) in
      ap (λ (k : ℕ). term_at s (term_place s (o.behind.at + 19) k i)) (segments-are ∙ length-map xs segment_in)
      ∙ term-place (o.behind.at + 19) xs held-curve i no_found_term n
      ∙ sym (get_d-mapped term_in (all_terms xs) i no_found_term no_term n)
