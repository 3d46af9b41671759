-- Laws of calibration pairs: the format allows what
-- a build plans, and parsed pairs are planned again.
use Rattle.promises.proofs.Names.{◌≡◌, refl, sym, ap, ap₂, ◌∙◌, subst, List, [], ◌∷◌, ◌++◌, map, Option, None, Some, ℕ, suc, ◌+◌, ◌≤◌, arith, length, length-map, ℤ, Ok, Piece, piece, Value, Whole}
use Rattle.promises.proofs.Names.{Pair, Codes, Domain, encode, kept, domain_code, cal_point, cal_deviation, point-sound, deviation-sound, stepped-whole, follows-anywhere, reads-back, stored-again, FoundPair}
use Rattle.promises.proofs.Names.{Calibration, bare, table, curve, paired, codes_in, figure, pair_in, pairs_in, segments_in, block_pieces, found, width_is, PairAt, found_pairs_pieces, PairsAt, calibration_pieces}
use Rattle.promises.proofs.Names.{CalibrationAt, domain_in, codes_for, pair_codes, pair_pieces, table_pieces, codes-planned, PairPlanned, no-pair, pairs-planned, no_table, table-planned, kept_pair, domain_lent, InDomain}

-- ---- one pair

-- A planned pair is allowed at any place.
pair-stands : (domain : Domain) (before : Option Codes) (i at : ℕ) (p : Pair) (codes : Codes) → PairPlanned domain before i p codes →
    (x : FoundPair) × (codes_in x ≡ codes) × PairAt domain before at x × (pair_in x ≡ kept_pair p)
pair-stands domain before i at p codes h =
    let k = codes-planned i p codes h.coded in
    let a = reads-back cal_point i at codes.point (Whole p.point) point-sound tt k.point in
    let b = reads-back cal_deviation i (at + 16) codes.deviation (Whole p.deviation) deviation-sound tt k.deviation in (
      paired (found cal_point at codes.point (kept cal_point (Whole p.point))) (found cal_deviation (at + 16) codes.deviation (kept cal_deviation (Whole p.deviation))),
      refl,
      record {
        point = record { is = refl; fits = a.0; means = a.1 };
        deviation = record { is = refl; fits = b.0; means = b.1 };
        follows = follows-anywhere domain before i at codes h.follows;
      },
      refl,
    )

-- A parsed pair has its own codes again.
pair-again : (domain : Domain) (before : Option Codes) (i at : ℕ) (x : FoundPair) → PairAt domain before at x → pair_codes domain before i (pair_in x) ≡ Ok (codes_in x)
unfolding pair_codes codes_for
pair-again domain before i at x h =
    let p = h.point in
    let d = h.deviation in
    let whole : (v : Value) (z : ℤ) → v ≡ Whole z → v ≡ Whole (figure v) = λ v z e. e ∙ ap (λ u. Whole (figure u)) (sym e) in
    let a : encode cal_point i (Whole (figure x.point.value)) ≡ Ok x.point.code =
    ap (encode cal_point i) (sym (whole _ _ (stepped-whole 16 _ _ at x.point.code x.point.value p.means)))
    ∙ stored-again cal_point i at x.point.code x.point.value point-sound p.fits p.means in
    let b : encode cal_deviation i (Whole (figure x.deviation.value)) ≡ Ok x.deviation.code =
    ap (encode cal_deviation i) (sym (whole _ _ (stepped-whole 21 _ _ (at + 16) x.deviation.code x.deviation.value d.means)))
    ∙ stored-again cal_deviation i (at + 16) x.deviation.code x.deviation.value deviation-sound d.fits d.means in
    rw (a, b, follows-anywhere domain before at i (codes_in x) h.follows)

-- ---- the pairs

pub record PairsStand (domain : Domain) (before : Option Codes) (at : ℕ) (pairs : List Pair) (ps : List Piece) : Type 0 where
  pub founds : List FoundPair
  pub pieces : ps ≡ found_pairs_pieces founds
  pub stand : PairsAt domain before at founds
  pub keeps : map pair_in founds ≡ map kept_pair pairs
  pub count : length founds ≡ length pairs

pub pairs-stand : (domain : Domain) (before : Option Codes) (i at : ℕ) (pairs : List Pair) (ps : List Piece) → pair_pieces domain before i pairs ≡ Ok ps → PairsStand domain before at pairs ps
pairs-stand domain before i at [] ps e = record { founds = []; pieces = sym (no-pair domain before i ps e); stand = tt; keeps = refl; count = refl }
pairs-stand domain before i at (p ∷ pairs) ps e =
    let d = pairs-planned domain before i p pairs ps e in
    let (x, c, h, k) = pair-stands domain before i at p d.codes d.first in
    let r = pairs-stand domain (Some d.codes) (suc i) (at + 37) pairs d.rest d.others in
    record {
      founds = x ∷ r.founds;
      pieces =
          sym d.joined
          ∙ ap₂ (λ (u : Codes) (q : List Piece). piece 16 u.point ∷ piece 21 u.deviation ∷ q) (sym c) r.pieces
          ∙ ap₂ (λ (v w : ℕ). piece v x.point.code ∷ piece w x.deviation.code ∷ found_pairs_pieces r.founds) (sym (width_is h.point)) (sym (width_is h.deviation));
      stand = (h, subst (λ (u : Codes). PairsAt domain (Some u) (at + 37) r.founds) (sym c) r.stand);
      keeps = ap₂ (λ u us. u ∷ us) k r.keeps;
      count = ap suc r.count;
    }

pub pairs-again : (domain : Domain) (before : Option Codes) (i at : ℕ) (xs : List FoundPair) → PairsAt domain before at xs → pair_pieces domain before i (map pair_in xs) ≡ Ok (found_pairs_pieces xs)
unfolding pair_pieces
pairs-again domain before i at [] h = refl
pairs-again domain before i at (x ∷ xs) h =
    rw (pair-again domain before i at x h.0, pairs-again domain (Some (codes_in x)) (suc i) (at + 37) xs h.1)
    (ap₂ (λ (v w : ℕ). Ok (piece v x.point.code ∷ piece w x.deviation.code ∷ found_pairs_pieces xs)) (sym (width_is h.0.point)) (sym (width_is h.0.deviation)))

-- ---- the table

pub record TableStands (at : ℕ) (domain : Domain) (pairs : List Pair) (ps : List Piece) : Type 0 where
  pub calibration : Calibration
  pub pieces : ps ≡ calibration_pieces calibration
  pub stands : CalibrationAt at calibration
  pub keeps : map pair_in (pairs_in calibration) ≡ map kept_pair pairs
  pub domained : domain_in calibration ≡ domain_lent domain pairs
  pub straight : segments_in calibration ≡ []

pub table-stands : (at : ℕ) (domain : Domain) (pairs : List Pair) (ps : List Piece) → length pairs ≤ 127 → table_pieces domain pairs ≡ Ok ps → TableStands at domain pairs ps
table-stands at domain [] ps few e = record { calibration = bare; pieces = sym (no_table domain ps e); stands = tt; keeps = refl; domained = refl; straight = refl }
table-stands at domain (p ∷ pairs) ps few e =
    let d = table-planned domain p pairs ps e in
    let r = pairs-stand domain None 0 (at + 18) (p ∷ pairs) d.pieces d.plans in
    record {
      calibration = table domain r.founds;
      pieces =
          sym d.joined
          ∙ ap₂ (λ (n : ℕ) (q : List Piece). block_pieces 40 ++ (piece 1 (domain_code domain) ∷ piece 7 n ∷ q)) (sym r.count) r.pieces;
      stands = record { some = omega (arith, r.count); most = omega (arith, r.count); stand = r.stand };
      keeps = r.keeps;
      domained = refl;
      straight = refl;
    }

pub table-again : (at : ℕ) (c : Calibration) (domain : Domain) → CalibrationAt at c → segments_in c ≡ [] → InDomain (domain_in c) domain → table_pieces domain (map pair_in (pairs_in c)) ≡ Ok (calibration_pieces c)
unfolding table_pieces
table-again at bare domain h z d = refl
table-again at (table found []) domain h z d = absurd (omega (arith, h.some))
table-again at (table found (x ∷ xs)) domain h z d =
    rw (← d, pairs-again found None 0 (at + 18) (x ∷ xs) h.stand)
    (ap (λ (n : ℕ). Ok (block_pieces 40 ++ (piece 1 (domain_code found) ∷ piece 7 (suc n) ∷ found_pairs_pieces (x ∷ xs)))) (length-map xs pair_in))
table-again at (curve segments) domain h z d = absurd (omega (arith, h.some, ap length z))
