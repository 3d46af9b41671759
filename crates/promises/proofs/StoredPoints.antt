-- Laws of the points that an accepted build stores: each within
-- half a step of the lent point, and rising as those do.
use Rattle.promises.proofs.Names.{◌≡◌, refl, sym, ap, subst, Bool, true, false, not, List, [], ◌∷◌, map, Option, Some, ℕ, suc, ◌*◌, ◌≤◌, ◌<◌, mul-lt-mul_of_pos_left, arith, T, lit<, ℤ, pos, nat_abs, ◌-ℤ◌, lt_z}
use Rattle.promises.proofs.Names.{◌<ℤ◌, lt_z_yes, add_parts, parts-<ℤ, nlt_z-parts, Ok, OutOfRange, Piece, Whole, Stepped, Row, top_code, outside, stepped_value, stepped_code, encode, Pair, Codes, Domain, D, R}
use Rattle.promises.proofs.Names.{least_deviation, kept, stepped-nearest, code-rises, follows-rises, figure, passed, neither, pair_pieces, codes-planned, pairs-planned, Rises, Close, kept_pair}

-- ---- one stepped figure

module _ (width : ℕ) (start : ℤ) (step : ℕ) (missing : Bool) where
  abbrev row : Row
  row = record { width = width; rule = Stepped start step; missing = missing }

  abbrev top : ℤ
  top = stepped_value start step (top_code width)

  stored : (place : ℕ) (z : ℤ) (code : ℕ) → encode row place (Whole z) ≡ Ok code → (lt_z z start ≡ false) × (stepped_code start step z ≡ code)
  unfolding encode
  stored place z code e =
      let g : (outside start top z ≡ false) × (Ok (stepped_code start step z) ≡ Ok code) = passed (OutOfRange place) (outside start top z) (Ok (stepped_code start step z)) code e in
      let c : Ok (stepped_code start step z) ≡ Ok code = g.1 in
      ((neither (lt_z z start) (lt_z top z) g.0).0, cc)

  -- The kept value is the value of the stored code.
  stored-value : (place : ℕ) (z : ℤ) (code : ℕ) → encode row place (Whole z) ≡ Ok code → figure (kept row (Whole z)) ≡ stepped_value start step code
  unfolding kept
  stored-value place z code e = ap (stepped_value start step) (stored place z code e).1

  stored-near : (place : ℕ) (z : ℤ) (code : ℕ) → 0 < step → encode row place (Whole z) ≡ Ok code → 2 * nat_abs (figure (kept row (Whole z)) -ℤ z) ≤ step
  stored-near place z code above e = rw (stored-value place z code e) (stepped-nearest row start step place code z refl above e).near

  -- Codes that rise come from figures that rise, and are read back as figures that rise.
  module _ (i j : ℕ) (y z : ℤ) (c d : ℕ) (above : 0 < step) (ey : encode row i (Whole y) ≡ Ok c) (ez : encode row j (Whole z) ≡ Ok d) (h : c < d) where
    lent-rises : y <ℤ z
    lent-rises = go (lt_z y z) refl
      where
        p : (lt_z y start ≡ false) × (stepped_code start step y ≡ c)
        p = stored i y c ey

        q : (lt_z z start ≡ false) × (stepped_code start step z ≡ d)
        q = stored j z d ez

        go : (t : Bool) → lt_z y z ≡ t → y <ℤ z
        go true t = lt_z_yes (subst T (sym t) tt)
        go false t =
            absurd (omega (arith, p.1, q.1, code-rises start step z y above q.0 p.0 (nlt_z-parts y z (subst (λ b. T (not b)) (sym t) tt))))

    kept-rises : figure (kept row (Whole y)) <ℤ figure (kept row (Whole z))
    kept-rises =
        rw (stored-value i y c ey, stored-value j z d ez)
        (parts-<ℤ (stepped_value start step c) (stepped_value start step d)
        (omega (arith, add_parts start (pos (step * c)), add_parts start (pos (step * d)), more)))
      where
        more : step * c < step * d
        more = mul-lt-mul_of_pos_left h above

-- ---- the pairs

-- Each point and deviation is stored within half of its step.
pub stored-close : (domain : Domain) (before : Option Codes) (i : ℕ) (pairs : List Pair) (ps : List Piece) → pair_pieces domain before i pairs ≡ Ok ps → Close D R pairs (map kept_pair pairs)
stored-close domain before i [] ps e = tt
stored-close domain before i (p ∷ pairs) ps e =
    let g = pairs-planned domain before i p pairs ps e in
    let coded = codes-planned i p g.codes g.first.coded in (
      stored-near 16 (pos 0) D false i p.point g.codes.point (lit< tt) coded.point,
      stored-near 21 least_deviation R false i p.deviation g.codes.deviation (lit< tt) coded.deviation,
      stored-close domain (Some g.codes) (suc i) pairs g.rest g.others,
    )

-- The lent points rise strictly, and so do those that are read back.
pub record Risen (pairs : List Pair) : Type 0 where
  pub lent : Rises pairs
  pub kept : Rises (map kept_pair pairs)

pub stored-rises : (domain : Domain) (before : Option Codes) (i : ℕ) (pairs : List Pair) (ps : List Piece) → pair_pieces domain before i pairs ≡ Ok ps → Risen pairs
stored-rises domain before i [] ps e = record { lent = tt; kept = tt }
stored-rises domain before i (p ∷ []) ps e = record { lent = tt; kept = tt }
stored-rises domain before i (p ∷ r ∷ pairs) ps e =
    let g = pairs-planned domain before i p (r ∷ pairs) ps e in
    let h = pairs-planned domain (Some g.codes) (suc i) r pairs g.rest g.others in
    let k = stored-rises domain (Some g.codes) (suc i) (r ∷ pairs) g.rest g.others in
    let first = (codes-planned i p g.codes g.first.coded).point in
    let second = (codes-planned (suc i) r h.codes h.first.coded).point in
    let risen = follows-rises domain g.codes (suc i) h.codes h.first.follows in
    record {
      lent = (lent-rises 16 (pos 0) D false i (suc i) p.point r.point g.codes.point h.codes.point (lit< tt) first second risen, k.lent);
      kept = (kept-rises 16 (pos 0) D false i (suc i) p.point r.point g.codes.point h.codes.point (lit< tt) first second risen, k.kept);
    }
