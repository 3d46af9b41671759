-- Laws of the loop over a curve, segment by segment and term by term.
use Rattle.build.proofs.Names.{◌≡◌, refl, sym, ap, ap₂, subst, ◌∙◌, Bool, true, false, not, List, [], ◌∷◌, ◌++◌, map, append_assoc, append-nil, Option, None, Some, ℕ, suc, ◌+◌, ◌-◌, ◌*◌, ◌≤◌, ◌<◌, add-one, arith}
use Rattle.build.proofs.Names.{leb-true, not-false, leb, ℤ, pos, ◌*ℤ◌, lt_z, length, take, drop, get_or, set, length-set, drop_of_length-le, drop-cons, drop-drop, get_or-take, length-take-le, Refusal, Outcome, Ok}
use Rattle.build.proofs.Names.{Err, ◌>>=◌, WrongCurve, good-bind, good-same, no_value_lem, passed, both, bind-good, bind-refused, Piece, piece, needed, needed-append, Whole, Single, Segment, Term}
use Rattle.build.proofs.Names.{Curve, encode, segment_start, term_count, exponent, coefficient, is_segment_count, is_exponent, exponent_follows, exponent_code, tenths_of, below-zero, above-five, between, exponent-coded}
use Rattle.build.proofs.Names.{CodedField, Ok, Err, start_code, term_pieces, segment_pieces, curve_pieces, Fitting, Fit, field_piece, first_codes, bit_string, block_head, BlockPlanned, coded, segment_fields, term_fields}
use Rattle.build.proofs.Names.{block_pieces, whole_curve}
use Rattle.build.proofs.Coding.{taken, fit-more}
use Rattle.build.proofs.Listing.{head-fit, head-pieces}
use Rattle.build.proofs.SegmentPlans.{start-planned}

-- ---- outcomes

-- Two more pieces, before the rest of a segment and before the rest of a term.
join : (A B : Outcome (List Piece)) (T : List Piece) (p q : Piece) →
    ((A >>= λ own. B >>= λ rest. Ok (p ∷ q ∷ (own ++ rest))) >>= λ rest. Ok (T ++ rest)) ≡ ((A >>= λ own. B >>= λ rest. Ok (own ++ rest)) >>= λ rest. Ok ((T ++ (p ∷ q ∷ [])) ++ rest))
join (Ok own) (Ok rest) T p q = ap Ok (sym (append_assoc T (p ∷ q ∷ []) (own ++ rest)))
join (Ok own) (Err r) T p q = refl
join (Err r) B T p q = refl

join-term : (A B : Outcome (List Piece)) (T : List Piece) (p q : Piece) →
    (((A >>= λ rest. Ok (p ∷ q ∷ rest)) >>= λ own. B >>= λ rest. Ok (own ++ rest)) >>= λ rest. Ok (T ++ rest)) ≡ ((A >>= λ own. B >>= λ rest. Ok (own ++ rest)) >>= λ rest. Ok ((T ++ (p ∷ q ∷ [])) ++ rest))
join-term (Ok own) (Ok rest) T p q = ap Ok (sym (append_assoc T (p ∷ q ∷ []) (own ++ rest)))
join-term (Ok own) (Err r) T p q = refl
join-term (Err r) B T p q = refl

kept : (o : Outcome (List Piece)) (T : List Piece) → ((o >>= λ rest. Ok rest) >>= λ rest. Ok (T ++ rest)) ≡ (o >>= λ rest. Ok (T ++ rest))
kept (Ok rest) T = refl
kept (Err r) T = refl

-- What refuses two pieces refuses all.
made-down : {A B : Type 0} (o : Outcome A) (make : A → B) {r : Refusal} → (o >>= λ a. Ok (make a)) ≡ Err r → o ≡ Err r
made-down (Ok a) make e = no_value_lem (sym e)
made-down (Err s) make {r} e = let same : s ≡ r = cc in ap Err same

both-down : {X Y : Type 0} (P Q : Outcome ℕ) (make : ℕ → ℕ → X) (next : ℕ → ℕ → Outcome Y) {r : Refusal} → (P >>= λ p. Q >>= λ q. Ok (make p q)) ≡ Err r → (P >>= λ p. Q >>= λ q. next p q) ≡ Err r
both-down (Ok p) (Ok q) make next e = no_value_lem (sym e)
both-down (Ok p) (Err s) make next {r} e = let same : s ≡ r = cc in ap Err same
both-down (Err s) Q make next {r} e = let same : s ≡ r = cc in ap Err same

-- ---- codes

-- Two more coded pieces.
two-taken : (codes : List CodedField) (m : ℕ) (x y : CodedField) → m + 1 < length codes →
    take (m + 2) (map field_piece (set (set codes m x) (m + 1) y)) ≡ take m (map field_piece codes) ++ (field_piece x ∷ field_piece y ∷ [])
two-taken codes m x y h =
    let two : m + 2 ≡ suc (suc m) = omega arith in
    rw (two, add-one m)
    (taken (set codes m x) (suc m) y (omega (arith, length-set codes m x)) ∙ ap (λ l. l ++ (field_piece y ∷ [])) (taken codes m x (omega arith)) ∙ append_assoc (take m (map field_piece codes)) (field_piece x ∷ []) (field_piece y ∷ []))

-- The code of an exponent means that exponent.
pub exponent-back : (before : Option ℤ) (i : ℕ) (e : ℤ) (code : ℕ) → exponent_code before i (pos 10 *ℤ e) ≡ Ok code → tenths_of code ≡ pos 10 *ℤ e
exponent-back before i e code h = by (lt_z e (pos 0)) (lt_z (pos 5) e) refl refl
  where
    tests : (not (exponent_follows before (pos 10 *ℤ e)) ≡ false) × (encode exponent i (Whole (pos 10 *ℤ e)) ≡ Ok code)
    tests = passed (WrongCurve i) (not (exponent_follows before (pos 10 *ℤ e))) (encode exponent i (Whole (pos 10 *ℤ e))) code h

    whole : (b : Option ℤ) → exponent_follows b (pos 10 *ℤ e) ≡ true → is_exponent (pos 10 *ℤ e) ≡ true
    whole None f = f
    whole (Some last) f = (both (is_exponent (pos 10 *ℤ e)) (lt_z last (pos 10 *ℤ e)) f).0

    is : is_exponent (pos 10 *ℤ e) ≡ true
    is = whole before (not-false (exponent_follows before (pos 10 *ℤ e)) tests.0)

    go : (m : ℕ) → (m ≤ 5) × (tenths_of (64 + 2 * m) ≡ pos 10 *ℤ e) → tenths_of code ≡ pos 10 *ℤ e
    go m (most, same) =
        let own : encode exponent i (Whole (pos 10 *ℤ e)) ≡ Ok (64 + 2 * m) = subst (λ (z : ℤ). encode exponent i (Whole z) ≡ Ok (64 + 2 * m)) same (exponent-coded i (64 + 2 * m) (omega arith)) in
        let code_is : code ≡ 64 + 2 * m = good-same (sym tests.1 ∙ own) in
        ap tenths_of code_is ∙ same

    by : (l h : Bool) → lt_z e (pos 0) ≡ l → lt_z (pos 5) e ≡ h → tenths_of code ≡ pos 10 *ℤ e
    by true h p q = absurd (let z : true ≡ false = sym is ∙ below-zero e p in let n : ◌≡◌ {A = ℕ} 0 1 = cc in omega arith)
    by false true p q = absurd (let z : true ≡ false = sym is ∙ above-five e q in let n : ◌≡◌ {A = ℕ} 0 1 = cc in omega arith)
    by false false p q = go _ (between e p q)

pub few-segments : (n : ℕ) → is_segment_count n ≡ true → (1 ≤ n) × (n ≤ 20)
few-segments n e = let (a, b) = both (leb 1 n) (leb n 20) e in (leb-true 1 n a, leb-true n 20 b)

-- ---- the loop over a curve

module _ (count : ℕ) (segments : List Segment) (terms : List Term) where
  abbrev curve : Curve
  curve = record { count = count; segments = segments; terms = terms }

  abbrev segs : List Segment
  segs = take count segments

  -- What is left with i segments begun, k terms done,
  -- and this many terms of the last segment to come.
  abbrev left : Option ℕ → Option ℤ → ℕ → ℕ → ℕ → Outcome (List Piece)
  left before last i k own = term_pieces last k (take own (drop k terms)) >>= λ ps. segment_pieces before i (k + own) (drop i segs) (drop (k + own) terms) >>= λ rest. Ok (ps ++ rest)

  -- The pieces that have their codes.
  abbrev done : List CodedField → ℕ → ℕ → List Piece
  done codes i k = first_codes codes (4 + 2 * (i + k))

  pub record CurveDone (n : ℕ) (codes : List CodedField) (before : Option ℕ) (last : Option ℤ) (i k own : ℕ) : Type 0 where
    pub inside : i ≤ count
    pub most : k + own ≤ 30
    pub room : 104 ≤ n
    pub fit : Fit n codes
    pub said : (left before last i k own >>= λ rest. Ok (done codes i k ++ rest)) ≡ curve_pieces curve
    pub bits : needed (done codes i k) ≡ 19 + 20 * i + 39 * k

  pub done_none : is_segment_count count ≡ true → {n : ℕ} {codes : List CodedField} → 104 ≤ n → Fit n codes → CurveDone n (block_head codes 41 0 8 count) None None 0 0 0
  unfolding curve_pieces term_pieces
  done_none e {n} {codes} room fit =
      let head = head-pieces 41 0 8 count codes (omega (arith, fit.long)) in
      record {
        inside = omega arith;
        most = omega arith;
        room = room;
        fit = head-fit 41 0 8 count codes fit (omega arith) (omega arith) (record { some = omega arith; most = omega arith; fits = omega (arith, (few-segments count e).1) });
        said = rw (head, e) (kept (segment_pieces None 0 0 segs terms) (block_pieces 41 ++ (piece 1 0 ∷ piece 8 count ∷ [])));
        bits = ap needed head;
      }

  -- Before a segment's first term there is no exponent.
  pub done-own : {n : ℕ} {codes : List CodedField} {before : Option ℕ} {last : Option ℤ} {i k : ℕ} → CurveDone n codes before last i k 0 → CurveDone n codes before None i k 0
  unfolding term_pieces
  done-own d = record { inside = d.inside; most = d.most; room = d.room; fit = d.fit; said = d.said; bits = d.bits }

  -- The terms of one segment, up to its end.
  module _ {n : ℕ} {codes : List CodedField} {before : Option ℕ} {last : Option ℤ} {i k : ℕ} where
    pub own-begun : {own : ℕ} → CurveDone n codes before last i k own → CurveDone n codes before last i k (k + own - k)
    own-begun {own} d = let e : k + own - k ≡ own = omega arith in rw e d

    pub own_open : {end : ℕ} → k < end → CurveDone n codes before last i k (end - k) → CurveDone n codes before last i k (suc (end - (k + 1)))
    own_open {end} h d = let e : end - k ≡ suc (end - (k + 1)) = omega arith in rw e at d

    pub own-closed : {end : ℕ} → k ≤ end → end ≤ k → CurveDone n codes before last i k (end - k) → CurveDone n codes before last i end 0
    own-closed {end} g h d =
        let none : end - k ≡ 0 = omega arith in
        let e : k ≡ end = omega arith in
        subst (λ (m : ℕ). CurveDone n codes before last i m 0) e (rw none at d)

  module _ {n : ℕ} {codes : List CodedField} {before : Option ℕ} {last : Option ℤ} {i k own : ℕ} (d : CurveDone n codes before last i k own) where
    -- The curve is refused.
    pub done-down : {r : Refusal} → left before last i k own ≡ Err r → BlockPlanned (curve_pieces curve) n codes (Err r)
    done-down e = record {
      said = ap (λ o. o >>= λ ps. Ok (bit_string ps)) (sym (bind-refused _ e) ∙ d.said);
      fit = d.fit;
      count = λ l a. absurd (let z : ◌≡◌ {A = ℕ} 0 1 = cc in omega arith);
    }

    -- Two more codes.
    module _ (x y : CodedField) (few : i + k < 50) (i' k' : ℕ) (next : i' + k' ≡ i + k + 1) where
      abbrev at : ℕ
      at = 4 + 2 * (i + k)

      more : done (set (set codes at x) (at + 1) y) i' k' ≡ done codes i k ++ (field_piece x ∷ field_piece y ∷ [])
      more =
          let e : 4 + 2 * (i' + k') ≡ at + 2 = omega arith in
          rw e (two-taken codes at x y (omega (arith, d.fit.long, d.room)))

      fit-two : Fitting x.width x.code → Fitting y.width y.code → Fit n (set (set codes at x) (at + 1) y)
      fit-two f g = fit-more (set codes at x) (at + 1) y (fit-more codes at x d.fit f) g

      bits-two : needed (done (set (set codes at x) (at + 1) y) i' k') ≡ 19 + 20 * i + 39 * k + x.width + y.width
      bits-two = omega (arith, ap needed more, needed-append (done codes i k) (field_piece x ∷ field_piece y ∷ []), d.bits)

  -- ---- a segment

  module _ (long : length segments ≡ 20) (all : count ≤ 20) {n : ℕ} {codes : List CodedField} {before : Option ℕ} {last : Option ℤ} {i k : ℕ} (d : CurveDone n codes before last i k 0) (h : i < count) (dflt : Segment) where
    abbrev s : Segment
    s = get_or segments i dflt

    cut : drop i segs ≡ s ∷ drop (suc i) segs
    cut =
        drop-cons segs i dflt (omega (arith, length-take-le count segments (omega arith)))
        ∙ ap (λ x. x ∷ drop (suc i) segs) (get_or-take count segments i dflt h)

    -- The segment's own two pieces, then its terms and the segments after it.
    step : left before last i k 0 ≡ ((start_code before i k s >>= λ start. term_pieces None k (take s.terms (drop k terms)) >>= λ own.
        segment_pieces (Some start) (suc i) (k + s.terms) (drop (suc i) segs) (drop (k + s.terms) terms) >>= λ rest.
        Ok (piece segment_start.width start ∷ piece term_count.width s.terms ∷ (own ++ rest))) >>= λ rest. Ok rest)
    unfolding term_pieces segment_pieces
    step =
        let e : k + 0 ≡ k = omega arith in
        rw (e, cut, drop-drop s.terms k terms)

    pub segment-down : {r : Refusal} → segment_fields before i k s ≡ Err r → BlockPlanned (curve_pieces curve) n codes (Err r)
    unfolding segment_fields
    segment-down {r} e =
        let down : start_code before i k s ≡ Err r = made-down (start_code before i k s) _ e in
        done-down d (step ∙ rw down)

    -- The next state, with the codes of a segment's two pieces.
    segment-next : (start : ℕ) → start_code before i k s ≡ Ok start → Fitting segment_start.width start → Fitting term_count.width s.terms →
        CurveDone n (set (set codes (4 + 2 * (i + k)) (coded segment_start start)) (4 + 2 * (i + k) + 1) (coded term_count s.terms)) (Some start) None (suc i) k s.terms
    segment-next start e f g =
        let x : CodedField = coded segment_start start in
        let y : CodedField = coded term_count s.terms in
        let few : i + k < 50 = omega (arith, d.most) in
        let next : suc i + k ≡ i + k + 1 = omega arith in
        let A : Outcome (List Piece) = term_pieces None k (take s.terms (drop k terms)) in
        let B : Outcome (List Piece) = segment_pieces (Some start) (suc i) (k + s.terms) (drop (suc i) segs) (drop (k + s.terms) terms) in
        let X : Outcome (List Piece) = A >>= λ own. B >>= λ rest. Ok (field_piece x ∷ field_piece y ∷ (own ++ rest)) in
        let T : List Piece = done codes i k in
        let here : left before last i k 0 ≡ (X >>= λ rest. Ok rest) = step ∙ ap (λ o. o >>= λ rest. Ok rest) (bind-good _ e) in
        record {
          inside = omega arith;
          most = (start-planned before i k s start e).few;
          room = d.room;
          fit = fit-two d x y few (suc i) k next f g;
          said =
              ap (λ l. left (Some start) None (suc i) k s.terms >>= λ rest. Ok (l ++ rest)) (more d x y few (suc i) k next)
              ∙ sym (join A B T (field_piece x) (field_piece y)) ∙ sym (kept X T) ∙ sym (ap (λ o. o >>= λ rest. Ok (T ++ rest)) here) ∙ d.said;
          bits = omega (arith, bits-two d x y few (suc i) k next);
        }

    pub segment-turn : (first second : CodedField) → segment_fields before i k s ≡ Ok (first ∷ second ∷ []) → Fitting first.width first.code → Fitting second.width second.code →
        CurveDone n (set (set codes (4 + 2 * (i + k)) first) (4 + 2 * (i + k) + 1) second) (Some first.code) None (i + 1) k s.terms
    unfolding segment_fields
    segment-turn first second two f g =
        let (start, e, same) = good-bind (start_code before i k s) _ (first ∷ second ∷ []) two in
        let p : coded segment_start start ≡ first = cc in
        let q : coded term_count s.terms ≡ second = cc in
        let f' = subst (λ (z : CodedField). Fitting z.width z.code) (sym p) f in
        let g' = subst (λ (z : CodedField). Fitting z.width z.code) (sym q) g in
        rw (add-one i)
        (subst (λ (z : CodedField). CurveDone n (set (set codes (4 + 2 * (i + k)) first) (4 + 2 * (i + k) + 1) z) (Some first.code) None (suc i) k s.terms) q
        (subst (λ (z : CodedField). CurveDone n (set (set codes (4 + 2 * (i + k)) z) (4 + 2 * (i + k) + 1) (coded term_count s.terms)) (Some z.code) None (suc i) k s.terms) p
        (segment-next start e f' g')))

  -- ---- a term

  module _ (long : length terms ≡ 30) (all : count ≤ 20) {n : ℕ} {codes : List CodedField} {before : Option ℕ} {last : Option ℤ} {i k own : ℕ} (d : CurveDone n codes before last i k (suc own)) (dflt : Term) where
    abbrev t : Term
    t = get_or terms k dflt

    abbrev others : Outcome (List Piece)
    others = segment_pieces before i (suc k + own) (drop i segs) (drop (suc k + own) terms)

    term-step : left before last i k (suc own) ≡ ((exponent_code last k (pos 10 *ℤ t.exponent) >>= λ power. encode coefficient k (Single t.coefficient) >>= λ factor.
        term_pieces (Some (pos 10 *ℤ t.exponent)) (suc k) (take own (drop (suc k) terms)) >>= λ rest.
        Ok (piece exponent.width power ∷ piece coefficient.width factor ∷ rest)) >>= λ ps. others >>= λ rest. Ok (ps ++ rest))
    unfolding term_pieces
    term-step =
        let e : k + suc own ≡ suc k + own = omega arith in
        rw (e, drop-cons terms k dflt (omega (arith, d.most)))

    pub term-down : {r : Refusal} → term_fields last k t ≡ Err r → BlockPlanned (curve_pieces curve) n codes (Err r)
    unfolding term_fields
    term-down e = done-down d (term-step ∙ bind-refused _ (both-down (exponent_code last k (pos 10 *ℤ t.exponent)) (encode coefficient k (Single t.coefficient)) _ _ e))

    term-next : (power factor : ℕ) → exponent_code last k (pos 10 *ℤ t.exponent) ≡ Ok power → encode coefficient k (Single t.coefficient) ≡ Ok factor →
        Fitting exponent.width power → Fitting coefficient.width factor →
        CurveDone n (set (set codes (4 + 2 * (i + k)) (coded exponent power)) (4 + 2 * (i + k) + 1) (coded coefficient factor)) before (Some (tenths_of power)) i (suc k) own
    term-next power factor e e' f g =
        let x : CodedField = coded exponent power in
        let y : CodedField = coded coefficient factor in
        let few : i + k < 50 = omega (arith, d.most, d.inside) in
        let next : i + suc k ≡ i + k + 1 = omega arith in
        let A : Outcome (List Piece) = term_pieces (Some (pos 10 *ℤ t.exponent)) (suc k) (take own (drop (suc k) terms)) in
        let T : List Piece = done codes i k in
        let here : left before last i k (suc own) ≡ ((A >>= λ rest. Ok (field_piece x ∷ field_piece y ∷ rest)) >>= λ ps. others >>= λ rest. Ok (ps ++ rest)) =
        term-step ∙ ap (λ o. o >>= λ ps. others >>= λ rest. Ok (ps ++ rest)) (bind-good _ e ∙ bind-good _ e') in
        record {
          inside = d.inside;
          most = omega (arith, d.most);
          room = d.room;
          fit = fit-two d x y few i (suc k) next f g;
          said =
              ap₂ (λ l (z : ℤ). left before (Some z) i (suc k) own >>= λ rest. Ok (l ++ rest)) (more d x y few i (suc k) next) (exponent-back last k t.exponent power e)
              ∙ sym (join-term A others T (field_piece x) (field_piece y)) ∙ sym (ap (λ o. o >>= λ rest. Ok (T ++ rest)) here) ∙ d.said;
          bits = omega (arith, bits-two d x y few i (suc k) next);
        }

    pub term-turn : (first second : CodedField) → term_fields last k t ≡ Ok (first ∷ second ∷ []) → Fitting first.width first.code → Fitting second.width second.code →
        CurveDone n (set (set codes (4 + 2 * (i + k)) first) (4 + 2 * (i + k) + 1) second) before (Some (tenths_of first.code)) i (k + 1) own
    unfolding term_fields
    term-turn first second two f g =
        let (power, e, rest) = good-bind (exponent_code last k (pos 10 *ℤ t.exponent)) _ (first ∷ second ∷ []) two in
        let (factor, e', same) = good-bind (encode coefficient k (Single t.coefficient)) _ (first ∷ second ∷ []) rest in
        let p : coded exponent power ≡ first = cc in
        let q : coded coefficient factor ≡ second = cc in
        let f' = subst (λ (z : CodedField). Fitting z.width z.code) (sym p) f in
        let g' = subst (λ (z : CodedField). Fitting z.width z.code) (sym q) g in
        rw (add-one k)
        (subst (λ (z : CodedField). CurveDone n (set (set codes (4 + 2 * (i + k)) first) (4 + 2 * (i + k) + 1) z) before (Some (tenths_of first.code)) i (suc k) own) q
        (subst (λ (z : CodedField). CurveDone n (set (set codes (4 + 2 * (i + k)) z) (4 + 2 * (i + k) + 1) (coded coefficient factor)) before (Some (tenths_of z.code)) i (suc k) own) p
        (term-next power factor e e' f' g')))

  -- ---- all segments

  pub done_all : count ≤ 20 → {n : ℕ} {codes : List CodedField} {before : Option ℕ} {last : Option ℤ} {i k : ℕ} → CurveDone n codes before last i k 0 → length segments ≡ 20 → count ≤ i →
      BlockPlanned (curve_pieces curve) n codes (Ok (whole_curve count k))
  unfolding term_pieces segment_pieces
  done_all few {n} {codes} {before} {last} {i} {k} d long h =
      let same : i ≡ count = omega (arith, d.inside) in
      let none_left : drop i segs ≡ [] = drop_of_length-le segs {i = i} (omega (arith, length-take-le count segments (omega arith))) in
      let all : Ok (done codes count k) ≡ curve_pieces curve = sym (sym d.said ∙ rw none_left (ap Ok (append-nil (done codes i k))) ∙ ap (λ (m : ℕ). Ok (done codes m k)) same) in
      record {
        said = ap (λ o. o >>= λ ps. Ok (bit_string ps)) all;
        fit = d.fit;
        count = λ l a. let is : whole_curve count k ≡ l = cc in rw (← is) (omega (arith, d.most, d.room), sym (rw same at d.bits), omega (arith, d.most));
      }

pub curve-wrong : (curve : Curve) {n : ℕ} {codes : List CodedField} → Fit n codes → is_segment_count curve.count ≡ false → BlockPlanned (curve_pieces curve) n codes (Err (WrongCurve curve.count))
unfolding curve_pieces
curve-wrong curve fit e = record { said = rw e; fit = fit; count = λ l a. absurd (let z : ◌≡◌ {A = ℕ} 0 1 = cc in omega arith) }
