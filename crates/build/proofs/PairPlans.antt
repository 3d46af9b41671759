-- Laws of the plan of calibration pairs: its parts.
use Rattle.build.proofs.Names.{◌≡◌, refl, subst, List, [], ◌∷◌, ◌++◌, Option, None, Some, ℕ, suc, ◌/◌, arith, ℤ, length, Ok, good-same, good-bind, good-then, Piece, piece, Whole, Pair}
use Rattle.build.proofs.Names.{Codes, Domain, encode, domain_code, cal_point, cal_deviation, follows, block_pieces, pairs_lent, codes_for, pair_codes, pair_pieces, table_pieces}

-- ---- the lent points

pub pairs-length : (points : List ℤ) → length (pairs_lent points) ≡ length points / 2
pairs-length [] = refl
pairs-length (a ∷ []) = refl
pairs-length (a ∷ s ∷ points) = omega (arith, pairs-length points)

-- ---- one pair

-- The codes of a pair.
pub record Coded (i : ℕ) (p : Pair) (codes : Codes) : Type 0 where
  pub point : encode cal_point i (Whole p.point) ≡ Ok codes.point
  pub deviation : encode cal_deviation i (Whole p.deviation) ≡ Ok codes.deviation

pub codes-planned : (i : ℕ) (p : Pair) (codes : Codes) → codes_for i p ≡ Ok codes → Coded i p codes
unfolding codes_for
codes-planned i p codes e =
    let (a, e1, f1) = good-bind (encode cal_point i (Whole p.point)) _ codes e in
    let (b, e2, f2) = good-bind (encode cal_deviation i (Whole p.deviation)) _ codes f1 in
    subst (Coded i p) (good-same f2) (record { point = e1; deviation = e2 })

-- A pair after the pair before it.
pub record PairPlanned (domain : Domain) (before : Option Codes) (i : ℕ) (p : Pair) (codes : Codes) : Type 0 where
  pub coded : codes_for i p ≡ Ok codes
  pub follows : follows domain before i codes ≡ Ok tt

pub pair-planned : (domain : Domain) (before : Option Codes) (i : ℕ) (p : Pair) (codes : Codes) → pair_codes domain before i p ≡ Ok codes → PairPlanned domain before i p codes
unfolding pair_codes
pair-planned domain before i p codes e =
    let (known, e1, f1) = good-bind (codes_for i p) _ codes e in
    let (r, f2) = good-then (follows domain before i known) _ codes f1 in
    subst (PairPlanned domain before i p) (good-same f2) (record { coded = e1; follows = r })

-- A pair and those after it.
pub record PairsPlanned (domain : Domain) (before : Option Codes) (i : ℕ) (p : Pair) (pairs : List Pair) (ps : List Piece) : Type 0 where
  pub codes : Codes
  pub rest : List Piece
  pub first : PairPlanned domain before i p codes
  pub others : pair_pieces domain (Some codes) (suc i) pairs ≡ Ok rest
  pub joined : piece cal_point.width codes.point ∷ piece cal_deviation.width codes.deviation ∷ rest ≡ ps

pub pairs-planned : (domain : Domain) (before : Option Codes) (i : ℕ) (p : Pair) (pairs : List Pair) (ps : List Piece) → pair_pieces domain before i (p ∷ pairs) ≡ Ok ps →
    PairsPlanned domain before i p pairs ps
unfolding pair_pieces
pairs-planned domain before i p pairs ps e =
    let (codes, e1, f1) = good-bind (pair_codes domain before i p) _ ps e in
    let (rest, e2, f2) = good-bind (pair_pieces domain (Some codes) (suc i) pairs) _ ps f1 in
    record { codes = codes; rest = rest; first = pair-planned domain before i p codes e1; others = e2; joined = good-same f2 }

pub no-pair : (domain : Domain) (before : Option Codes) (i : ℕ) (ps : List Piece) → pair_pieces domain before i [] ≡ Ok ps → [] ≡ ps
unfolding pair_pieces
no-pair domain before i ps e = good-same e

-- ---- the table

-- The pieces of a table that is not empty.
pub record TablePlanned (domain : Domain) (pairs : List Pair) (ts : List Piece) : Type 0 where
  pub pieces : List Piece
  pub plans : pair_pieces domain None 0 pairs ≡ Ok pieces
  pub joined : block_pieces 40 ++ (piece 1 (domain_code domain) ∷ piece 7 (length pairs) ∷ pieces) ≡ ts

pub table-planned : (domain : Domain) (p : Pair) (pairs : List Pair) (ts : List Piece) → table_pieces domain (p ∷ pairs) ≡ Ok ts → TablePlanned domain (p ∷ pairs) ts
unfolding table_pieces
table-planned domain p pairs ts e =
    let (ps, e1, f1) = good-bind (pair_pieces domain None 0 (p ∷ pairs)) _ ts e in
    record { pieces = ps; plans = e1; joined = good-same f1 }

pub no_table : (domain : Domain) (ts : List Piece) → table_pieces domain [] ≡ Ok ts → [] ≡ ts
unfolding table_pieces
no_table domain ts e = good-same e
