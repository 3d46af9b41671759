-- Laws of the stream of a sheet at the places of its fields, its pairs and its characters.
use Rattle.layout.proofs.Names.{◌≡◌, refl, sym, ap, ap₂, ◌∙◌, subst, Bool, cond, List, [], ◌∷◌, ◌++◌, map, append_assoc, Option, none_before, Some, ℕ, zero, suc, ◌+◌, ◌-◌, ◌*◌, ◌^◌, ◌≤◌, ◌<◌, zero-add, arith, ltb}
use Rattle.layout.proofs.Names.{length, get_or, le-ltb, Ok, Err, PastEnd, field_at, Piece, piece, needed, Fit, Holds, needed-append, fit-split, holds-front, holds-back, holds-piece, holds-uncons, Row, Codes}
use Rattle.layout.proofs.Names.{Domain, decode, domain_code, cal_point, cal_deviation, number_of, last_field, row_of, ends, ◌>>=◌, given, Stream, parse, Found, FoundPair, Calibration, bare, table, curve, Contents}
use Rattle.layout.proofs.Names.{codes_in, field_of, field, layout_of, pairs_in, segments_in, all_terms, field_place, pair_place, behind_block, block_pieces, end_code}
use Rattle.layout.proofs.Formats.{parsed}
use Rattle.layout.proofs.Fields.{piece_of, found, FieldAt, row_is, at-is, width_is}
use Rattle.layout.proofs.Calibrations.{found_pair_pieces, PairAt, found_pairs_pieces, PairsAt, pairs-needed, calibration_pieces, CalibrationAt, calibration-needed}
use Rattle.layout.proofs.Endings.{zero_if, text-needed, characters_from, end_pieces}
use Rattle.layout.proofs.Sheets.{rest_pieces, sheet_pieces, sheet-needed}
use Rattle.layout.proofs.Places.{field-at, behind-is, fields-count}
use Rattle.layout.proofs.Accepted.{Holding, holding-fit}
use Rattle.layout.proofs.Puts.{formed-put}

-- ---- a field

-- The field of a row is at a place of a stream.
pub record Valid (s : Stream) (row : Row) (at : ℕ) (x : Found) : Type 0 where
  pub field : FieldAt row at x
  pub code : field_at s.number at row.width ≡ x.code
  pub inside : at + row.width ≤ s.bits

pub stands-parse : {s : Stream} {row : Row} {at : ℕ} {x : Found} → Valid s row at x → parse s (field_of row) at ≡ Ok (parsed x (at + row.width))
unfolding field_of
stands-parse {s} {row} {at} {x} h =
    ap₂ (λ (t : Bool) (k : ℕ). cond t (Err (PastEnd at)) (parse s (given (decode row at k) >>= λ v. ends (found row at k v)) (at + row.width)))
    (le-ltb s.bits (at + row.width) h.inside) h.code
    ∙ ap (λ o. parse s (given o >>= λ v. ends (found row at x.code v)) (at + row.width)) h.field.means
    ∙ ap (λ u. Ok (parsed u (at + row.width))) (sym h.field.is)

-- ---- pairs and characters in order

pub record PairStands (s : Stream) (at : ℕ) (p : FoundPair) : Type 0 where
  pub point : Valid s cal_point at p.point
  pub deviation : Valid s cal_deviation (at + 16) p.deviation

pair-stands : (s : Stream) (domain : Domain) (before : Option Codes) (at : ℕ) (p : FoundPair) (ps : List Piece) → PairAt domain before at p → Fit (found_pair_pieces p ++ ps) →
    Holds s.number at (found_pair_pieces p ++ ps) → at + 37 ≤ s.bits → PairStands s at p × Holds s.number (at + 37) ps
pair-stands s domain before at p ps h f k inside =
    let N : ℕ = s.number in
    let w : p.point.row.width ≡ 16 = width_is h.point in
    let v : p.deviation.row.width ≡ 21 = width_is h.deviation in
    let a = holds-uncons N at (piece_of p.point) (piece_of p.deviation ∷ ps) f.0 k in
    let b = holds-uncons N (at + p.point.row.width) (piece_of p.deviation) ps f.1.0 a.0 in
    let e : at + p.point.row.width ≡ at + 16 = omega arith in
    let g : at + p.point.row.width + p.deviation.row.width ≡ at + 37 = omega arith in (
      record {
        point = record { field = h.point; code = ap (λ (n : ℕ). field_at N at n) (sym w) ∙ a.1; inside = omega arith };
        deviation = record { field = h.deviation; code = ap₂ (λ (m n : ℕ). field_at N m n) (sym e) (sym v) ∙ b.1; inside = omega arith };
      },
      subst (λ (n : ℕ). Holds N n ps) g b.0,
    )

pairs-stand : (s : Stream) (domain : Domain) (before : Option Codes) (at : ℕ) (pairs : List FoundPair) → PairsAt domain before at pairs → Fit (found_pairs_pieces pairs) →
    Holds s.number at (found_pairs_pieces pairs) → at + 37 * length pairs ≤ s.bits → (i : ℕ) (none : FoundPair) → i < length pairs →
    PairStands s (at + 37 * i) (get_or pairs i none)
pairs-stand s domain before at [] h f k inside i none l = absurd (omega arith)
pairs-stand s domain before at (p ∷ pairs) h f k inside zero none l =
    let e : at ≡ at + 37 * 0 = omega arith in
    subst (λ (n : ℕ). PairStands s n p) e (pair-stands s domain before at p (found_pairs_pieces pairs) h.0 f k (omega arith)).0
pairs-stand s domain before at (p ∷ pairs) h f k inside (suc i) none l =
    let e : at + 37 + 37 * i ≡ at + 37 * suc i = omega arith in
    subst (λ (n : ℕ). PairStands s n (get_or pairs i none)) e
    (pairs-stand s domain (Some (codes_in p)) (at + 37) pairs h.1 f.1.1 (pair-stands s domain before at p (found_pairs_pieces pairs) h.0 f k (omega arith)).1 (omega arith) i none (omega arith))

characters-stand : (N at : ℕ) (text : List ℕ) → Fit (map (piece 7) text) → Holds N at (map (piece 7) text) → (i : ℕ) → i < length text →
    field_at N (at + 7 * i) 7 ≡ get_or text i 0
characters-stand N at [] f k i l = absurd (omega arith)
characters-stand N at (c ∷ text) f k zero l =
    let e : at + 7 * 0 ≡ at = omega arith in
    ap (λ (n : ℕ). field_at N n 7) e ∙ (holds-uncons N at (piece 7 c) (map (piece 7) text) f.0 k).1
characters-stand N at (c ∷ text) f k (suc i) l =
    let e : at + 7 * suc i ≡ at + 7 + 7 * i = omega arith in
    ap (λ (n : ℕ). field_at N n 7) e
    ∙ characters-stand N (at + 7) text f.1 (holds-uncons N at (piece 7 c) (map (piece 7) text) f.0 k).0 i (omega arith)

-- ---- a sheet

module _ {s : Stream} {c : Contents} (h : Holding s c) where
  -- Field f, counted from 1.
  pub field-stands : (f : ℕ) → 1 ≤ f → f ≤ last_field c.template → Valid s (row_of (layout_of c) f) (field_place (layout_of c) f) (field c f)
  field-stands f lo hi =
      let a = field-at h.formed f lo hi in
      let x : Found = field c f in
      let p = formed-put h.formed (f - 1) (omega (arith, fields-count h.formed)) x.code x.value (λ latest. refl)
      (subst (λ (n : ℕ). x.code < 2 ^ n) (sym (width_is a)) a.fits) (ap₂ (λ r (n : ℕ). decode r n x.code) (row_is a) (at-is a) ∙ a.means) in
      let fit : Fit (p.before ++ (piece_of x ∷ p.after)) = subst Fit p.is (holding-fit h) in
      let here : 0 + needed p.before ≡ field_place (layout_of c) f = zero-add _ ∙ p.here ∙ at-is a in
      record {
        field = a;
        code =
            ap₂ (λ (n w : ℕ). field_at s.number n w) (sym here) (sym (width_is a))
            ∙ holds-piece s.number 0 p.before (piece_of x) p.after fit (subst (Holds s.number 0) p.is h.holds);
        inside =
            omega (arith, here, width_is a, ap needed p.is, needed-append p.before (piece_of x ∷ p.after), sheet-needed h.formed, h.inside);
      }

  -- ---- after the fields

  abbrev rest : List Piece
  rest = rest_pieces s.bits h.formed.end_at c

  pub rest-holds : Holds s.number h.formed.behind rest × Fit rest
  rest-holds =
      let f = h.formed in
      let front : List Piece = map piece_of f.basics ++ (block_pieces (number_of c.template) ++ map piece_of f.own) in
      let e : sheet_pieces f ≡ front ++ rest = simp append_assoc in
      let fit = fit-split front rest (subst Fit e (holding-fit h)) in
      let n : 0 + needed front ≡ f.behind =
      omega (arith, f.behind-at, f.own-at, needed-append (map piece_of f.basics) (block_pieces (number_of c.template) ++ map piece_of f.own)) in
      (subst (λ (k : ℕ). Holds s.number k rest) n (holds-back s.number 0 front rest fit.0 (subst (Holds s.number 0) e h.holds)), fit.1)

  -- The place where the ending begins.
  abbrev block_end : ℕ
  block_end = behind_block (layout_of c) (length (pairs_in c.calibration)) (length (segments_in c.calibration)) (length (all_terms (segments_in c.calibration)))

  end-place : h.formed.end_at ≡ block_end + 2
  end-place =
      omega (arith, h.formed.end-at, behind-is h.formed, calibration-needed h.formed.behind c.calibration h.formed.calibrated)

  -- Pair i, counted from 0.
  pub pair-here : (i : ℕ) (none : FoundPair) → i < length (pairs_in c.calibration) → PairStands s (pair_place (layout_of c) i) (get_or (pairs_in c.calibration) i none)
  pair-here i none l =
      go c.calibration h.formed.calibrated l rest-holds.0 rest-holds.1
      (omega (arith, h.formed.end-at, h.formed.bits_are, h.inside))
    where
      end : List Piece
      end = end_pieces s.bits h.formed.end_at c.end_bit c.text

      go : (k : Calibration) → CalibrationAt h.formed.behind k → i < length (pairs_in k) → Holds s.number h.formed.behind (calibration_pieces k ++ (piece 2 3 ∷ []) ++ end) →
          Fit (calibration_pieces k ++ (piece 2 3 ∷ []) ++ end) → h.formed.behind + needed (calibration_pieces k) ≤ s.bits → PairStands s (pair_place (layout_of c) i) (get_or (pairs_in k) i none)
      go bare t m holds fit inside = absurd (omega arith)
      go (curve segments) t m holds fit inside = absurd (omega arith)
      go (table domain pairs) t m holds fit inside =
          let start : List Piece = block_pieces 40 ++ (piece 1 (domain_code domain) ∷ piece 7 (length pairs) ∷ []) in
          let ps : List Piece = found_pairs_pieces pairs in
          let e : calibration_pieces (table domain pairs) ++ (piece 2 3 ∷ []) ++ end ≡ start ++ (ps ++ ((piece 2 3 ∷ []) ++ end)) = simp append_assoc in
          let f = fit-split start (ps ++ ((piece 2 3 ∷ []) ++ end)) (subst Fit e fit) in
          let g = fit-split ps ((piece 2 3 ∷ []) ++ end) f.1 in
          let held = holds-front s.number (h.formed.behind + 18) ps ((piece 2 3 ∷ []) ++ end) g.0
          (holds-back s.number h.formed.behind start (ps ++ ((piece 2 3 ∷ []) ++ end)) f.0 (subst (Holds s.number h.formed.behind) e holds)) in
          subst (λ (n : ℕ). PairStands s (n + 18 + 37 * i) (get_or pairs i none)) (behind-is h.formed)
          (pairs-stand s domain none_before (h.formed.behind + 18) pairs t.stand g.0 held (omega (arith, inside, pairs-needed domain none_before (h.formed.behind + 18) pairs t.stand)) i none m)

  -- Character i, counted from 0.
  pub character-here : (i : ℕ) → i < length c.text →
      (field_at s.number (block_end + 3 + 7 * i) 7 ≡ get_or c.text i 0) × (block_end + 3 + 7 * i + 7 ≤ s.bits)
  character-here i l =
      let ts : List Piece = calibration_pieces c.calibration in
      let b : Piece = piece 1 (end_code c.end_bit) in
      let text : List Piece = map (piece 7) c.text in
      let zero : List Piece = zero_if (ltb (length c.text) (characters_from s.bits c.end_bit (h.formed.end_at + 1))) in
      let front : List Piece = ts ++ (piece 2 3 ∷ b ∷ []) in
      let e : rest ≡ front ++ (text ++ zero) = simp append_assoc in
      let f = fit-split front (text ++ zero) (subst Fit e rest-holds.1) in
      let g = fit-split text zero f.1 in
      let n : h.formed.behind + needed front ≡ h.formed.end_at + 1 = omega (arith, h.formed.end-at, needed-append ts (piece 2 3 ∷ b ∷ [])) in
      let held : Holds s.number (h.formed.end_at + 1) text =
      holds-front s.number (h.formed.end_at + 1) text zero g.0
      (subst (λ (k : ℕ). Holds s.number k (text ++ zero)) n
      (holds-back s.number h.formed.behind front (text ++ zero) f.0 (subst (Holds s.number h.formed.behind) e rest-holds.0))) in
      let at : h.formed.end_at + 1 + 7 * i ≡ block_end + 3 + 7 * i = omega (arith, end-place) in (
        ap (λ (k : ℕ). field_at s.number k 7) (sym at) ∙ characters-stand s.number (h.formed.end_at + 1) c.text g.0 held i l,
        omega (arith, at, h.formed.bits_are, h.inside, needed-append text zero, text-needed c.text),
      )
