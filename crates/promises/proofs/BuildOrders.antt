-- Laws of the rows of a build, with a points list or a curve, and of the distance.
use Rattle.promises.proofs.Names.{◌≡◌, refl, Bool, not, ◌||◌, ◌&&◌, List, [], ◌∷◌, Option, None, Some, ℕ, suc, ◌+◌, ◌%◌, arith, eqb, ltb, leb, ℤ, pos, ◌*ℤ◌, length, take, drop, le_z, Outcome, Ok, Err}
use Rattle.promises.proofs.Names.{◌>>◌, WrongSort, OutOfRange, TooLong, WrongList, NotRising, SumsNotRising, WrongCurve, TooManyTerms, By, build_order, curve_order, distance_order, Among, by-among, by-bind, by-then}
use Rattle.promises.proofs.Names.{by-test, by_last, image_sizes, stream_bits, needed, Value, Whole, Single, Row, Pair, Codes, Domain, Electrical, Segment, Term, Curve, Stepped, top_code, stepped_value, stepped_code}
use Rattle.promises.proofs.Names.{outside, encode, Line, chose, basic, template_lines, ending, D, R, least_deviation, cal_point, cal_deviation, is_physical, stored_sum, follows, segment_start, exponent, coefficient}
use Rattle.promises.proofs.Names.{is_segment_count, is_term_count, most_terms, start_follows, exponent_follows, exponent_code, Sheet, template_in, lent, line_pieces, field_pieces, unfit, ending_tested, pairs_lent, codes_for}
use Rattle.promises.proofs.Names.{pair_codes, pair_pieces, table_pieces, term_pieces, count_tested, start_code, segment_pieces, curve_pieces, Table, listed, by_curve, list_tested, behind_pieces, plan}
use Rattle.promises.proofs.Names.{as_far_as_64_bits, built_in, build_with, distance, WritesByOrder}
use Rattle.promises.proofs.Refusals.{image-by, encode-by, change-by, propose-by, commit-by}

-- ---- the fields and the ending

module _ (rows : List ℕ) (h : Among (9 ∷ 10 ∷ []) rows) where
  value-by : (row : Row) (place : ℕ) (v : Value) → By rows (encode row place v)
  value-by row place v = by-among (9 ∷ 10 ∷ []) rows (encode row place v) h (encode-by row place v)

  lines-by : (sheet : Sheet) (lines : List Line) (latest f : ℕ) → By rows (line_pieces sheet lines latest f)
  unfolding line_pieces
  lines-by sheet [] latest f = tt
  lines-by sheet (line ∷ lines) latest f =
      by-bind rows (encode (line.row_at latest) f (lent sheet f)) _ (value-by (line.row_at latest) f (lent sheet f)) (λ code.
      by-bind rows (line_pieces sheet lines (chose line.sets code latest) (suc f)) _ (lines-by sheet lines (chose line.sets code latest) (suc f)) (λ rest. tt))

  fields-by : (sheet : Sheet) → By rows (field_pieces sheet)
  unfolding field_pieces
  fields-by sheet =
      by-bind rows (line_pieces sheet basic 0 1) _ (lines-by sheet basic 0 1) (λ basics.
      by-bind rows (line_pieces sheet (template_lines (template_in sheet)) 0 (suc (length basic))) _ (lines-by sheet (template_lines (template_in sheet)) 0 (suc (length basic))) (λ own. tt))

  ending-by : (f : ℕ) (end_bit : Bool) (text : List ℕ) → By rows (ending_tested f end_bit text)
  unfolding ending_tested
  ending-by f end_bit text =
      by-test rows (WrongSort f) (not end_bit && ltb 0 (length text)) _ h.0 (by_last rows (OutOfRange f) (unfit text) h.1.0)

-- ---- points

-- A stepped row takes whole numbers, so that 9 is not among the rows of a point or a deviation.
module _ (rows : List ℕ) (h : Among (10 ∷ []) rows) where
  stepped_by : (row : Row) (start : ℤ) (step i : ℕ) (z : ℤ) → row.rule ≡ Stepped start step → By rows (encode row i (Whole z))
  unfolding encode
  stepped_by row start step i z e =
      rw e (by-test rows (OutOfRange i) (outside start (stepped_value start step (top_code row.width)) z) (Ok (stepped_code start step z)) h.0 tt)

  codes-by : (i : ℕ) (p : Pair) → By rows (codes_for i p)
  unfolding codes_for
  codes-by i p =
      by-bind rows (encode cal_point i (Whole p.point)) _ (stepped_by cal_point (pos 0) D i p.point refl) (λ a.
      by-bind rows (encode cal_deviation i (Whole p.deviation)) _ (stepped_by cal_deviation least_deviation R i p.deviation refl) (λ s. tt))

follows_by : (domain : Domain) (before : Option Codes) (i : ℕ) (next : Codes) → By (7 ∷ 22 ∷ []) (follows domain before i next)
unfolding follows
follows_by domain None i next = tt
follows_by domain (Some before) i next =
    by-test (7 ∷ 22 ∷ []) (NotRising i) (leb next.point before.point) _ (omega arith)
    (by_last (7 ∷ 22 ∷ []) (SumsNotRising i) (is_physical domain && le_z (stored_sum next) (stored_sum before)) (omega arith))

straight-by : (before : Option Codes) (i : ℕ) (next : Codes) → By (7 ∷ []) (follows Electrical before i next)
unfolding follows
straight-by None i next = tt
straight-by (Some before) i next = by-test (7 ∷ []) (NotRising i) (leb next.point before.point) _ (omega arith) tt

module _ (rows : List ℕ) (domain : Domain) (h : Among (10 ∷ []) rows) (next : (before : Option Codes) (i : ℕ) (codes : Codes) → By rows (follows domain before i codes)) where
  pairs-by : (before : Option Codes) (i : ℕ) (pairs : List Pair) → By rows (pair_pieces domain before i pairs)
  unfolding pair_pieces pair_codes
  pairs-by before i [] = tt
  pairs-by before i (p ∷ pairs) =
      by-bind rows (pair_codes domain before i p) _
      (by-bind rows (codes_for i p) _ (codes-by rows h i p) (λ codes. by-then rows (follows domain before i codes) _ (next before i codes) tt)) (λ codes.
      by-bind rows (pair_pieces domain (Some codes) (suc i) pairs) _ (pairs-by (Some codes) (suc i) pairs) (λ rest. tt))

  table-by : (pairs : List Pair) → By rows (table_pieces domain pairs)
  unfolding table_pieces
  table-by [] = tt
  table-by (p ∷ pairs) = by-bind rows (pair_pieces domain None 0 (p ∷ pairs)) _ (pairs-by None 0 (p ∷ pairs)) (λ pieces. tt)

listed_by : (rows : List ℕ) (domain : Domain) (points : List ℤ) → Among (16 ∷ []) rows → By rows (list_tested (listed domain points))
listed_by rows domain points h = by_last rows (WrongList (length points)) (eqb (length points % 2) 1 || ltb 254 (length points)) h.0

-- A step whose value is not used.
after : {A B : Type 0} (rows : List ℕ) (m : Outcome A) (next : Outcome B) → By rows m → By rows next → By rows (m >> next)
after rows (Ok a) next h k = k
after rows (Err r) next h k = h

pub distance-by : (points : List ℤ) → By distance_order (distance points)
unfolding distance
distance-by points =
    by-then distance_order (list_tested (listed Electrical points)) _ (listed_by distance_order Electrical points (omega arith))
    (after distance_order (table_pieces Electrical (pairs_lent points)) _
    (table-by distance_order Electrical (omega arith) (λ before i codes. by-among (7 ∷ []) distance_order (follows Electrical before i codes) (omega arith) (straight-by before i codes)) (pairs_lent points)) tt)

-- ---- a curve

terms-by : (before : Option ℤ) (i : ℕ) (terms : List Term) → By curve_order (term_pieces before i terms)
unfolding term_pieces
terms-by before i [] = tt
terms-by before i (t ∷ terms) =
    by-bind curve_order (exponent_code before i (pos 10 *ℤ t.exponent)) _
    (by-test curve_order (WrongCurve i) (not (exponent_follows before (pos 10 *ℤ t.exponent))) _ (omega arith) (value-by curve_order (omega arith) exponent i (Whole (pos 10 *ℤ t.exponent)))) (λ power.
    by-bind curve_order (encode coefficient i (Single t.coefficient)) _ (value-by curve_order (omega arith) coefficient i (Single t.coefficient)) (λ factor.
    by-bind curve_order (term_pieces (Some (pos 10 *ℤ t.exponent)) (suc i) terms) _ (terms-by (Some (pos 10 *ℤ t.exponent)) (suc i) terms) (λ rest. tt)))

start-by : (before : Option ℕ) (i total : ℕ) (s : Segment) → By curve_order (start_code before i total s)
unfolding start_code count_tested
start-by before i total s =
    by-bind curve_order (encode segment_start i (Whole s.start)) _ (value-by curve_order (omega arith) segment_start i (Whole s.start)) (λ start.
    by-test curve_order (WrongCurve i) (not (start_follows before start)) _ (omega arith)
    (by-then curve_order (count_tested i total s.terms) _
    (by-test curve_order (WrongCurve i) (not (is_term_count s.terms)) _ (omega arith) (by_last curve_order (TooManyTerms (total + s.terms)) (ltb most_terms (total + s.terms)) (omega arith))) tt))

segments-by : (before : Option ℕ) (i total : ℕ) (segments : List Segment) (terms : List Term) → By curve_order (segment_pieces before i total segments terms)
unfolding segment_pieces
segments-by before i total [] terms = tt
segments-by before i total (s ∷ segments) terms =
    by-bind curve_order (start_code before i total s) _ (start-by before i total s) (λ start.
    by-bind curve_order (term_pieces None total (take s.terms terms)) _ (terms-by None total (take s.terms terms)) (λ own.
    by-bind curve_order (segment_pieces (Some start) (suc i) (total + s.terms) segments (drop s.terms terms)) _ (segments-by (Some start) (suc i) (total + s.terms) segments (drop s.terms terms)) (λ rest. tt)))

curve-by : (curve : Curve) → By curve_order (curve_pieces curve)
unfolding curve_pieces
curve-by curve =
    by-test curve_order (WrongCurve curve.count) (not (is_segment_count curve.count)) _ (omega arith)
    (by-bind curve_order (segment_pieces None 0 0 (take curve.count curve.segments) curve.terms) _ (segments-by None 0 0 (take curve.count curve.segments) curve.terms) (λ pieces. tt))

-- ---- a build

module _ (rows : List ℕ) (h : Among (1 ∷ 9 ∷ 10 ∷ 11 ∷ []) rows) (table : Table) (first : By rows (list_tested table)) (behind : By rows (behind_pieces table)) where
  built-by : (kind : ℕ) (buffer : List ℕ) (sheet : Sheet) (text : List ℕ) → By rows (build_with kind buffer sheet text table)
  unfolding build_with built_in plan
  built-by kind buffer sheet text =
      let codes : Among (9 ∷ 10 ∷ []) rows = (h.1.0, (h.1.1.0, tt)) in
      by-bind rows (image_sizes kind (length buffer)) _ (image-by rows kind (length buffer) (h.0, tt)) (λ z.
      by-bind rows (plan sheet text table) _
      (by-then rows (list_tested table) _ first
      (by-bind rows (field_pieces sheet) _ (fields-by rows codes sheet) (λ fields.
      by-then rows (ending_tested (ending (template_in sheet)) sheet.end_bit text) _ (ending-by rows codes (ending (template_in sheet)) sheet.end_bit text)
      (by-bind rows (behind_pieces table) _ behind (λ pieces. tt))))) (λ pieces.
      by-test rows (TooLong (as_far_as_64_bits (needed pieces))) (ltb (stream_bits z) (needed pieces)) _ h.1.1.1.0 tt))

pub writes-by-order : (kind : ℕ) (image : List ℕ) → WritesByOrder kind image
writes-by-order kind image = record {
  changes = change-by kind image;
  proposes = propose-by kind image;
  commits = commit-by kind image;
  builds = λ sheet text domain points. built-by build_order (omega arith) (listed domain points) (listed_by build_order domain points (omega arith))
      (table-by build_order domain (omega arith) (λ before i codes. by-among (7 ∷ 22 ∷ []) build_order (follows domain before i codes) (omega arith) (follows_by domain before i codes)) (pairs_lent points))
      kind image sheet text;
  builds_curves = λ sheet text curve. built-by curve_order (omega arith) (by_curve curve) tt (curve-by curve) kind image sheet text;
}
