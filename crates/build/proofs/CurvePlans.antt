-- Laws of the plan of a curve: its parts.
use Rattle.build.proofs.Names.{◌≡◌, true, not, List, [], ◌∷◌, ◌++◌, Option, None, Some, ℕ, suc, ◌+◌, not-false, ℤ, pos, ◌*ℤ◌, take, drop, Ok, WrongCurve, good-same, good-bind, passed, Piece, piece, Single}
use Rattle.build.proofs.Names.{Segment, Term, Curve, encode, segment_count, segment_start, term_count, exponent, coefficient, is_segment_count, exponent_code, block_pieces, start_code, term_pieces, segment_pieces}
use Rattle.build.proofs.Names.{curve_pieces}

-- ---- terms

-- A term, and those after it.
pub record TermsPlanned (before : Option ℤ) (i : ℕ) (t : Term) (terms : List Term) (ps : List Piece) : Type 0 where
  pub power : ℕ
  pub factor : ℕ
  pub rest : List Piece
  pub exponent_coded : exponent_code before i (pos 10 *ℤ t.exponent) ≡ Ok power
  pub coefficient_coded : encode coefficient i (Single t.coefficient) ≡ Ok factor
  pub others : term_pieces (Some (pos 10 *ℤ t.exponent)) (suc i) terms ≡ Ok rest
  pub joined : piece exponent.width power ∷ piece coefficient.width factor ∷ rest ≡ ps

pub terms-planned : (before : Option ℤ) (i : ℕ) (t : Term) (terms : List Term) (ps : List Piece) → term_pieces before i (t ∷ terms) ≡ Ok ps → TermsPlanned before i t terms ps
unfolding term_pieces
terms-planned before i t terms ps e =
    let (power, e1, f1) = good-bind (exponent_code before i (pos 10 *ℤ t.exponent)) _ ps e in
    let (factor, e2, f2) = good-bind (encode coefficient i (Single t.coefficient)) _ ps f1 in
    let (rest, e3, f3) = good-bind (term_pieces (Some (pos 10 *ℤ t.exponent)) (suc i) terms) _ ps f2 in
    record { power = power; factor = factor; rest = rest; exponent_coded = e1; coefficient_coded = e2; others = e3; joined = good-same f3 }

pub no-term : (before : Option ℤ) (i : ℕ) (ps : List Piece) → term_pieces before i [] ≡ Ok ps → [] ≡ ps
unfolding term_pieces
no-term before i ps e = good-same e

-- ---- segments

-- A segment with its terms, and those after it.
pub record SegmentsPlanned (before : Option ℕ) (i total : ℕ) (s : Segment) (segments : List Segment) (terms : List Term) (ps : List Piece) : Type 0 where
  pub start : ℕ
  pub own : List Piece
  pub rest : List Piece
  pub start_coded : start_code before i total s ≡ Ok start
  pub own_planned : term_pieces None total (take s.terms terms) ≡ Ok own
  pub others : segment_pieces (Some start) (suc i) (total + s.terms) segments (drop s.terms terms) ≡ Ok rest
  pub joined : piece segment_start.width start ∷ piece term_count.width s.terms ∷ (own ++ rest) ≡ ps

pub segments-planned : (before : Option ℕ) (i total : ℕ) (s : Segment) (segments : List Segment) (terms : List Term) (ps : List Piece) → segment_pieces before i total (s ∷ segments) terms ≡ Ok ps →
    SegmentsPlanned before i total s segments terms ps
unfolding segment_pieces
segments-planned before i total s segments terms ps e =
    let (start, e1, f1) = good-bind (start_code before i total s) _ ps e in
    let (own, e2, f2) = good-bind (term_pieces None total (take s.terms terms)) _ ps f1 in
    let (rest, e3, f3) = good-bind (segment_pieces (Some start) (suc i) (total + s.terms) segments (drop s.terms terms)) _ ps f2 in
    record { start = start; own = own; rest = rest; start_coded = e1; own_planned = e2; others = e3; joined = good-same f3 }

pub no-segment : (before : Option ℕ) (i total : ℕ) (terms : List Term) (ps : List Piece) → segment_pieces before i total [] terms ≡ Ok ps → [] ≡ ps
unfolding segment_pieces
no-segment before i total terms ps e = good-same e

-- ---- the block

pub record BlockPlanned (curve : Curve) (ps : List Piece) : Type 0 where
  pub counted : is_segment_count curve.count ≡ true
  pub pieces : List Piece
  pub plans : segment_pieces None 0 0 (take curve.count curve.segments) curve.terms ≡ Ok pieces
  pub joined : block_pieces 41 ++ (piece 1 0 ∷ piece segment_count.width curve.count ∷ pieces) ≡ ps

pub block-planned : (curve : Curve) (ps : List Piece) → curve_pieces curve ≡ Ok ps → BlockPlanned curve ps
unfolding curve_pieces
block-planned curve ps e =
    let (counted, f1) = passed (WrongCurve curve.count) (not (is_segment_count curve.count)) _ ps e in
    let (pieces, e2, f2) = good-bind (segment_pieces None 0 0 (take curve.count curve.segments) curve.terms) _ ps f1 in
    record { counted = not-false (is_segment_count curve.count) counted; pieces = pieces; plans = e2; joined = good-same f2 }
