-- Laws of row 11: the bits that a build needs.
use Rattle.promises.proofs.Names.{◌≡◌, refl, sym, ap, ap₂, ◌∙◌, Bool, true, false, cond, List, [], ◌∷◌, ◌++◌, map, Option, none_before, Some, ℕ, zero, suc, ◌+◌, ◌-◌, ◌≤◌, arith, leb, pos, length, drop, length-map}
use Rattle.promises.proofs.Names.{length-append, length-take-le, lt-ltb, leb-true, Ok, OutOfRange, good-same, good-bind, passed, both, Piece, piece, needed, needed-append, Whole, Plain, Template, Bridge}
use Rattle.promises.proofs.Names.{Resistance, outside, encode, always, bridge_precision, resistance_precision, Line, chose, basic, template33, template32, template_lines, lines_of, number_of, bits_before, Segment, Term}
use Rattle.promises.proofs.Names.{pair_in, pairs_in, segments_in, segment_in, all_terms, term_in, block_bits, field_place, behind_fields, table_bits, curve_bits, block_pieces, end_code, Steady, basic-settled, template-steady}
use Rattle.promises.proofs.Names.{bits-append, calibration-needed, text-needed, Sheet, lent, template_in, line_pieces, pairs_lent, segment_pieces, Table, listed, by_curve, behind_pieces, segments-planned, block-planned}
use Rattle.promises.proofs.Names.{start-planned, kept_pair, kept_segment, segments_lent, terms_in, behind_bits, BitsNeeded, BridgeBits, ResistanceBits, LendableTable}
use Rattle.promises.proofs.PlannedSheet.{plan-parts, BehindStands, behind-stands}

-- ---- the bits of lines

module _ (sheet : Sheet) where
  -- If no line sets widths, at the latest choice.
  settled-needed : (lines : List Line) → Steady true lines → (latest f : ℕ) (ps : List Piece) → line_pieces sheet lines latest f ≡ Ok ps →
      needed ps ≡ bits_before lines latest (length lines)
  unfolding line_pieces
  settled-needed [] h latest f ps e = ap needed (sym (good-same e))
  settled-needed (l ∷ lines) h latest f ps e =
      let (code, e1, e2) = good-bind (encode (l.row_at latest) f (lent sheet f)) _ ps e in
      let (rest, e3, e4) = good-bind (line_pieces sheet lines (chose l.sets code latest) (suc f)) _ ps e2 in
      let k : line_pieces sheet lines latest (suc f) ≡ Ok rest = ap (λ (t : Bool). line_pieces sheet lines (chose t code latest) (suc f)) (sym h.0) ∙ e3 in
      omega (arith, ap needed (sym (good-same e4)), settled-needed lines h.1 latest (suc f) rest k)

  -- The choice is the code of the line that sets widths.
  abbrev pick : Bool → Type 0 → Type 0 → Type 0
  pick true A B = A
  pick false A B = B

  abbrev Chose : List Line → ℕ → ℕ → ℕ → Type 0
  Chose [] latest f choice = latest ≡ choice
  Chose (l ∷ lines) latest f choice = pick l.sets (encode (l.row_at latest) f (lent sheet f) ≡ Ok choice) (Chose lines latest (suc f) choice)

  steady-needed : (lines : List Line) → Steady false lines → (latest f : ℕ) (ps : List Piece) → line_pieces sheet lines latest f ≡ Ok ps →
      (choice : ℕ) × (needed ps ≡ bits_before lines choice (length lines)) × Chose lines latest f choice
  unfolding line_pieces
  steady-needed [] h latest f ps e = (latest, ap needed (sym (good-same e)), refl)
  steady-needed (l ∷ lines) h latest f ps e =
      let (code, e1, e2) = good-bind (encode (l.row_at latest) f (lent sheet f)) _ ps e in
      let (rest, e3, e4) = good-bind (line_pieces sheet lines (chose l.sets code latest) (suc f)) _ ps e2 in
      let n : needed ps ≡ needed rest + (l.row_at latest).width = ap needed (sym (good-same e4)) in
      go code rest e1 n (λ s k. steady-needed lines s latest (suc f) rest k) l.sets h.1 e3
    where
      go : (code : ℕ) (rest : List Piece) → encode (l.row_at latest) f (lent sheet f) ≡ Ok code → needed ps ≡ needed rest + (l.row_at latest).width →
          (Steady false lines → line_pieces sheet lines latest (suc f) ≡ Ok rest → (choice : ℕ) × (needed rest ≡ bits_before lines choice (length lines)) × Chose lines latest (suc f) choice) →
          (t : Bool) → Steady t lines → line_pieces sheet lines (chose t code latest) (suc f) ≡ Ok rest →
          (choice : ℕ) × (needed ps ≡ (l.row_at choice).width + bits_before lines choice (length lines)) ×
          pick t (encode (l.row_at latest) f (lent sheet f) ≡ Ok choice) (Chose lines latest (suc f) choice)
      go code rest e1 n others true s k =
          (code, omega (arith, n, settled-needed lines s code (suc f) rest k, ap (λ r. r.width) (h.0 latest code)), e1)
      go code rest e1 n others false s k =
          let (choice, m, c) = others s k in
          (choice, omega (arith, n, m, ap (λ r. r.width) (h.0 latest choice)), c)

-- ---- the bits of a plan

-- Basic's rows depend on no choice.
basic-bits : (latest : ℕ) → bits_before basic latest (length basic) ≡ 64
unfolding basic
basic-bits latest = refl

-- The choice of a sheet is the precision that is lent.
plain-choice : (least greatest precision choice : ℕ) → encode (always 2 (Plain least greatest)) 9 (Whole (pos precision)) ≡ Ok choice → precision ≡ choice
unfolding encode
plain-choice least greatest precision choice e =
    good-same (passed (OutOfRange 9) (outside (pos least) (pos greatest) (pos precision)) (Ok precision) choice e).1

lent-choice : (sheet : Sheet) (t : Template) (precision choice : ℕ) → lent sheet 9 ≡ Whole (pos precision) → Chose sheet (template_lines t) 0 (suc (length basic)) choice → precision ≡ choice
unfolding basic template33 template32
lent-choice sheet Bridge precision choice v c = plain-choice 0 2 precision choice (ap (encode bridge_precision 9) (sym v) ∙ c)
lent-choice sheet Resistance precision choice v c = plain-choice 0 3 precision choice (ap (encode resistance_precision 9) (sym v) ∙ c)

fields-needed : (t : Template) (choice : ℕ) → behind_fields (record { template = t; precision = choice }) ≡ bits_before basic choice (length basic) + 10 + bits_before (template_lines t) choice (length (template_lines t))
unfolding field_place lines_of
fields-needed t choice =
    let all : length basic + length (template_lines t) ≡ suc (length (basic ++ template_lines t)) - 1 = omega (arith, length-append basic (template_lines t)) in
    omega (
      arith,
      bits-append basic (template_lines t) choice (length (template_lines t)),
      ap (bits_before (basic ++ template_lines t) choice) all,
      ap (λ (b : Bool). cond b block_bits 0) (lt-ltb (length basic) (suc (length (basic ++ template_lines t))) (omega (arith, length-append basic (template_lines t)))),
    )

-- The bits of what follows the fields.
behind-bits : (table : Table) → LendableTable table → (ps : List Piece) → behind_pieces table ≡ Ok ps → (k : BehindStands 0 table ps) →
    table_bits (length (pairs_in k.calibration)) + curve_bits (length (segments_in k.calibration)) (length (all_terms (segments_in k.calibration))) ≡ behind_bits table
behind-bits (listed domain points) lendable ps e k =
    let count : length (pairs_in k.calibration) ≡ length (pairs_lent points) =
    sym (length-map (pairs_in k.calibration) pair_in) ∙ ap length k.keeps_points ∙ length-map (pairs_lent points) kept_pair in
    let none : length (segments_in k.calibration) ≡ 0 = sym (length-map (segments_in k.calibration) segment_in) ∙ ap length k.keeps_segments in
    omega (arith, ap table_bits count, ap (λ (n : ℕ). curve_bits n (length (all_terms (segments_in k.calibration)))) none)
behind-bits (by_curve given) lendable ps e k =
    let b = block-planned given ps e in
    let most = leb-true given.count 20 (both (leb 1 given.count) (leb given.count 20) b.counted).1 in
    let none : length (pairs_in k.calibration) ≡ 0 = sym (length-map (pairs_in k.calibration) pair_in) ∙ ap length k.keeps_points in
    let count : length (segments_in k.calibration) ≡ given.count =
    sym (length-map (segments_in k.calibration) segment_in) ∙ ap length k.keeps_segments ∙ length-map (segments_lent given) kept_segment
    ∙ length-take-le given.count given.segments (omega (arith, lendable.segments)) in
    let all : length (all_terms (segments_in k.calibration)) ≡ terms_in (segments_lent given) =
    sym (length-map (all_terms (segments_in k.calibration)) term_in) ∙ ap length k.keeps_terms
    ∙ length-take-le (terms_in (segments_lent given)) given.terms (omega (arith, lendable.terms, terms-few none_before 0 0 (segments_lent given) given.terms b.pieces b.plans (omega arith))) in
    omega (arith, ap table_bits none, ap₂ curve_bits count all)
  where
    terms-few : (before : Option ℕ) (i total : ℕ) (segments : List Segment) (terms : List Term) (ps : List Piece) → segment_pieces before i total segments terms ≡ Ok ps → total ≤ 30 → total + terms_in segments ≤ 30
    terms-few before i total [] terms ps e few = omega arith
    terms-few before i total (s ∷ segments) terms ps e few =
        let d = segments-planned before i total s segments terms ps e in
        let p = start-planned before i total s d.start d.start_coded in
        omega (arith, terms-few (Some d.start) (suc i) (total + s.terms) segments (drop s.terms terms) d.rest d.others p.few)

pub bits-needed : BitsNeeded
bits-needed sheet text table precision pieces lendable v e =
    let d = plan-parts sheet text table pieces e in
    let t : Template = template_in sheet in
    let ts : List Piece = d.behind in
    let es : List Piece = piece 2 3 ∷ piece 1 (end_code sheet.end_bit) ∷ map (piece 7) text in
    let (choice, own, chosen) = steady-needed sheet (template_lines t) (template-steady t) 0 (suc (length basic)) d.own d.own_planned in
    let k = behind-stands 0 table ts lendable d.tested d.behind_planned in
    let same : precision ≡ choice = lent-choice sheet t precision choice v chosen in
    let fs : List Piece = d.basics ++ (block_pieces (number_of t) ++ d.own) in
    omega (
      arith,
      ap needed d.joined,
      needed-append fs (ts ++ es),
      needed-append d.basics (block_pieces (number_of t) ++ d.own),
      needed-append ts es,
      text-needed text,
      settled-needed sheet basic basic-settled 0 1 d.basics d.basics_planned,
      basic-bits 0,
      basic-bits choice,
      own,
      ap needed k.pieces,
      calibration-needed 0 k.calibration k.stands,
      behind-bits table lendable ts d.behind_planned k,
      fields-needed t choice,
      ap (λ (n : ℕ). behind_fields (record { template = t; precision = n })) same,
    )

pub bridge-bits : BridgeBits
unfolding field_place lines_of basic template33
bridge-bits zero = refl
bridge-bits (suc zero) = refl
bridge-bits (suc (suc precision)) = refl

pub resistance-bits : ResistanceBits
unfolding field_place lines_of basic template32
resistance-bits zero = refl
resistance-bits (suc zero) = refl
resistance-bits (suc (suc zero)) = refl
resistance-bits (suc (suc (suc precision))) = refl
