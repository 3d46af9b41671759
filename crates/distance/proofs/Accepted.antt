-- Laws of points that a build in domain 0 accepts: neighbours are apart, and near
-- enough that nothing overflows. And of the distance in the order of its rows.
use Rattle.distance.proofs.Names.{◌≡◌, refl, sym, ap, ◌∙◌, Bool, true, false, ◌||◌, List, [], ◌∷◌, Option, None, Some, ℕ, zero, suc, ◌+◌, ◌^◌, ◌%◌, ◌≤◌, ◌<◌, arith, lit<, eqb, ltb, ℤ, pos, nat_abs, ◌-ℤ◌, length}
use Rattle.distance.proofs.Names.{lt_z, ◌<ℤ◌, lt_z_yes, up, dn, same, sub-parts-ℤ, abs-parts, nlt_z-parts, le-lt_z, is_true, is_false, parts-≤ℤ, Refusal, Outcome, Ok, Err, ◌>>◌, WrongList, good-same, no_value_lem}
use Rattle.distance.proofs.Names.{passed, neither, Piece, Whole, Pair, Codes, Domain, Electrical, top_code, stepped_value, stepped_code, encode, D, R, least_deviation, cal_point, cal_deviation, small, code-rises}
use Rattle.distance.proofs.Names.{follows-rises, pairs_lent, pair_pieces, table_pieces, Coded, codes-planned, pairs-planned, table-planned, Neighbours, Figures, Table, near-abs, CertificateBound, steepest, by_slope}
use Rattle.distance.proofs.Names.{distance, Step, LeastSlope, NoSlope}
use Rattle.distance.proofs.Slopes.{steepest-least, steepest-small}

-- ---- one figure

-- A figure that has a code is from the start to the highest value.
pub record Taken (start : ℤ) (step width : ℕ) (z : ℤ) (code : ℕ) : Type 0 where
  pub low : up start + dn z ≤ up z + dn start
  pub high : up z + dn (stepped_value start step (top_code width)) ≤ up (stepped_value start step (top_code width)) + dn z
  pub coded : stepped_code start step z ≡ code

taken-by : (start : ℤ) (step width place : ℕ) (z : ℤ) (code : ℕ) (s t : Bool) → lt_z z start ≡ s → lt_z (stepped_value start step (top_code width)) z ≡ t →
    (s || t) ≡ false → ◌≡◌ {A = Outcome ℕ} (Ok (stepped_code start step z)) (Ok code) → Taken start step width z code
taken-by start step width place z code s t e f h g =
    let (a, b) = neither s t h in
    record {
      low = nlt_z-parts z start (is_false (e ∙ a));
      high = nlt_z-parts (stepped_value start step (top_code width)) z (is_false (f ∙ b));
      coded = good-same g;
    }

point-taken : (place : ℕ) (z : ℤ) (code : ℕ) → encode cal_point place (Whole z) ≡ Ok code → Taken (pos 0) D 16 z code
unfolding encode
point-taken place z code e =
    let (t, f) = passed _ (lt_z z (pos 0) || lt_z (stepped_value (pos 0) D (top_code 16)) z) (Ok (stepped_code (pos 0) D z)) code e in
    taken-by (pos 0) D 16 place z code (lt_z z (pos 0)) (lt_z (stepped_value (pos 0) D (top_code 16)) z) refl refl t f

deviation-taken : (place : ℕ) (z : ℤ) (code : ℕ) → encode cal_deviation place (Whole z) ≡ Ok code → Taken least_deviation R 21 z code
unfolding encode
deviation-taken place z code e =
    let (t, f) = passed _ (lt_z z least_deviation || lt_z (stepped_value least_deviation R (top_code 21)) z) (Ok (stepped_code least_deviation R z)) code e in
    taken-by least_deviation R 21 place z code (lt_z z least_deviation) (lt_z (stepped_value least_deviation R (top_code 21)) z) refl refl t f

-- ---- two neighbours

-- Figures with different codes differ.
apart_by : (start : ℤ) (step : ℕ) (y z : ℤ) (c d : ℕ) → stepped_code start step y ≡ c → stepped_code start step z ≡ d → c < d → (n : ℕ) → nat_abs (z -ℤ y) ≡ n → 0 < n
apart_by start step y z c d e f h zero g =
    let s : y ≡ z = same y z (omega (arith, abs-parts (z -ℤ y), sub-parts-ℤ z y)) in
    let k : c ≡ d = sym e ∙ ap (stepped_code start step) s ∙ f in
    absurd (omega arith)
apart_by start step y z c d e f h (suc n) g = omega arith

near : (y z : ℤ) → up z + dn y ≤ up y + dn z + 2 ^ 32 → up y + dn z ≤ up z + dn y + 2 ^ 32 → nat_abs (z -ℤ y) ≤ 2 ^ 32
near y z h l = omega (arith, small (z -ℤ y) (2 ^ 33) (omega (arith, sub-parts-ℤ z y)) (omega (arith, sub-parts-ℤ z y)))

pub steps : (domain : Domain) (before : Option Codes) (i : ℕ) (pairs : List Pair) (ps : List Piece) → pair_pieces domain before i pairs ≡ Ok ps → Neighbours Step pairs
steps domain before i [] ps e = tt
steps domain before i (p ∷ []) ps e = tt
steps domain before i (p ∷ r ∷ pairs) ps e =
    let g = pairs-planned domain before i p (r ∷ pairs) ps e in
    let h = pairs-planned domain (Some g.codes) (suc i) r pairs g.rest g.others in
    let first = codes-planned i p g.codes g.first.coded in
    let second = codes-planned (suc i) r h.codes h.first.coded in
    let a = point-taken i p.point g.codes.point first.point in
    let b = point-taken (suc i) r.point h.codes.point second.point in
    let s = deviation-taken i p.deviation g.codes.deviation first.deviation in
    let t = deviation-taken (suc i) r.deviation h.codes.deviation second.deviation in
    let risen = follows-rises domain g.codes (suc i) h.codes h.first.follows in (
      record {
        rise = near p.deviation r.deviation (omega (arith, s.low, s.high, t.low, t.high)) (omega (arith, s.low, s.high, t.low, t.high));
        some = apart_by (pos 0) D p.point r.point g.codes.point h.codes.point a.coded b.coded risen (nat_abs (r.point -ℤ p.point)) refl;
        run = near p.point r.point (omega (arith, a.low, a.high, b.low, b.high)) (omega (arith, a.low, a.high, b.low, b.high));
      },
      steps domain (Some g.codes) (suc i) (r ∷ pairs) g.rest g.others,
    )

pub table-steps : (domain : Domain) (pairs : List Pair) (ts : List Piece) → table_pieces domain pairs ≡ Ok ts → Neighbours Step pairs
table-steps domain [] ts e = tt
table-steps domain (p ∷ pairs) ts e = let d = table-planned domain p pairs ts e in steps domain None 0 (p ∷ pairs) d.pieces d.plans

-- ---- the points rise, and they and their deviations are small

size : (B : ℕ) (z : ℤ) → up z ≤ dn z + B → dn z ≤ up z + B → nat_abs z ≤ B
size B z h l = omega (arith, near-abs {b = B} 1 z (omega arith))

figures-taken : (i : ℕ) (p : Pair) (codes : Codes) → Coded i p codes → Figures p
figures-taken i p codes e =
    let a = point-taken i p.point codes.point e.point in
    let s = deviation-taken i p.deviation codes.deviation e.deviation in
    record {
      least = parts-≤ℤ (pos 0) p.point a.low;
      point = size (2 ^ 30) p.point (omega (arith, a.low, a.high)) (omega (arith, a.low, a.high));
      deviation = size (2 ^ 32) p.deviation (omega (arith, s.low, s.high)) (omega (arith, s.low, s.high));
    }

-- A greater code has a greater figure.
rises_by : (y z : ℤ) (c d : ℕ) → Taken (pos 0) D 16 y c → Taken (pos 0) D 16 z d → c < d → y <ℤ z
rises_by y z c d a b h = go (lt_z y z) refl
  where
    go : (t : Bool) → lt_z y z ≡ t → y <ℤ z
    go true t = lt_z_yes (is_true t)
    go false t =
        absurd (omega (arith, a.coded, b.coded, code-rises (pos 0) D z y (lit< tt) (le-lt_z z (pos 0) b.low) (le-lt_z y (pos 0) a.low) (nlt_z-parts y z (is_false t))))

lent-table : (domain : Domain) (before : Option Codes) (i : ℕ) (pairs : List Pair) (ps : List Piece) → pair_pieces domain before i pairs ≡ Ok ps → Table pairs
lent-table domain before i [] ps e = record { rises = tt; figures = tt }
lent-table domain before i (p ∷ []) ps e =
    let g = pairs-planned domain before i p [] ps e in
    record { rises = tt; figures = (figures-taken i p g.codes (codes-planned i p g.codes g.first.coded), tt) }
lent-table domain before i (p ∷ r ∷ pairs) ps e =
    let g = pairs-planned domain before i p (r ∷ pairs) ps e in
    let h = pairs-planned domain (Some g.codes) (suc i) r pairs g.rest g.others in
    let first = codes-planned i p g.codes g.first.coded in
    let second = codes-planned (suc i) r h.codes h.first.coded in
    let t = lent-table domain (Some g.codes) (suc i) (r ∷ pairs) g.rest g.others in
    record {
      rises = (
        rises_by p.point r.point g.codes.point h.codes.point (point-taken i p.point g.codes.point first.point) (point-taken (suc i) r.point h.codes.point second.point)
            (follows-rises domain g.codes (suc i) h.codes h.first.follows),
        t.rises,
      );
      figures = (figures-taken i p g.codes first, t.figures);
    }

-- ---- the distance in the order of its rows

module _ (points : List ℤ) where
  pub distance-list : (eqb (length points % 2) 1 || ltb 254 (length points)) ≡ true → Err (WrongList (length points)) ≡ distance points
  unfolding distance
  distance-list t = rw t

  module _ (l : (eqb (length points % 2) 1 || ltb 254 (length points)) ≡ false) where
    pub distance-refused : {r : Refusal} → table_pieces Electrical (pairs_lent points) ≡ Err r → Err r ≡ distance points
    unfolding distance
    distance-refused e = rw (l, e)

    pub distance-told : {ts : List Piece} → table_pieces Electrical (pairs_lent points) ≡ Ok ts → Ok (by_slope (steepest (pairs_lent points))) ≡ distance points
    unfolding distance
    distance-told e = rw (l, e)

-- The answer for an accepted list.
pub record Told (points : List ℤ) (d : CertificateBound) : Type 0 where
  pub pieces : List Piece
  pub table : table_pieces Electrical (pairs_lent points) ≡ Ok pieces
  pub is : by_slope (steepest (pairs_lent points)) ≡ d

-- A call whose value is not used.
then-good : {A B : Type 0} (o : Outcome A) (next : Outcome B) (b : B) → (o >> next) ≡ Ok b → (a : A) × (o ≡ Ok a) × (next ≡ Ok b)
then-good (Ok a) next b e = (a, refl, e)
then-good (Err r) next b e = no_value_lem e

pub told-by : (points : List ℤ) (d : CertificateBound) → distance points ≡ Ok d → Told points d
unfolding distance
told-by points d e =
    let (l, f) = passed (WrongList (length points)) (eqb (length points % 2) 1 || ltb 254 (length points)) _ d e in
    let (ts, t, g) = then-good (table_pieces Electrical (pairs_lent points)) (Ok (by_slope (steepest (pairs_lent points)))) d f in
    record { pieces = ts; table = t; is = good-same g }

pub least-slope : LeastSlope
least-slope points d e =
    let t = told-by points d e in
    rw (sym (ap (λ (x : CertificateBound). x.slope) t.is)) (steepest-least (pairs_lent points) (table-steps Electrical (pairs_lent points) t.pieces t.table))

pub no-slope : NoSlope
unfolding distance table_pieces
no-slope = (refl, λ a s d e. sym (told-by (a ∷ s ∷ []) d e).is)

-- The points of an accepted list, and how large its K can be.
pub record Taking (points : List ℤ) (d : CertificateBound) : Type 0 where
  pub table : Table (pairs_lent points)
  pub slope : d.slope ≤ 2 ^ 43

pub taking : (points : List ℤ) (d : CertificateBound) → distance points ≡ Ok d → Taking points d
taking points d e =
    let t = told-by points d e in
    record {
      table = planned (pairs_lent points) t.pieces t.table;
      slope = rw (sym (ap (λ (x : CertificateBound). x.slope) t.is)) (steepest-small (pairs_lent points) (table-steps Electrical (pairs_lent points) t.pieces t.table));
    }
  where
    planned : (pairs : List Pair) (ts : List Piece) → table_pieces Electrical pairs ≡ Ok ts → Table pairs
    planned [] ts h = record { rises = tt; figures = tt }
    planned (p ∷ pairs) ts h = let g = table-planned Electrical p pairs ts h in lent-table Electrical None 0 (p ∷ pairs) g.pieces g.plans
