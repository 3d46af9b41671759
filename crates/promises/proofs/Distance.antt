-- Proof of demand 3: a built image holds points near those lent, no change
-- or commit moves them, and a reading of them is within the distance.
use Rattle.promises.proofs.Names.{◌≡◌, refl, sym, ◌∙◌, List, [], ◌∷◌, map, None, ℕ, ◌+◌, arith, ℤ, pos, negsuc, nat_abs, ◌+ℤ◌, ◌-ℤ◌, ◌*ℤ◌, ◌<ℤ◌, up, dn, sub-parts-ℤ, abs-parts, lt_z-parts, Ok, Piece, Pair, Domain}
use Rattle.promises.proofs.Names.{Electrical, Physical, D, R, billion, points, Some, pairs_lent, pair_pieces, table_pieces, listed, table-planned, deviation, certificate_line, Slopes, bound, least, greatest, position}
use Rattle.promises.proofs.Names.{shown, by-deviation, kept_pair, domain_lent, altered, Straight, CertificateDistance, LentPointsRise, EndsRise, DifferenceAbove}
use Rattle.correction.specs.Certificate.{Within}
use Rattle.promises.proofs.PlannedSheet.{plan-parts}
use Rattle.promises.proofs.Written.{built}
use Rattle.promises.proofs.KeptLent.{kept-lent, ends_read}
use Rattle.promises.proofs.StoredPoints.{stored-close, stored-rises}

-- The pairs of a planned table.
pub planned-pairs : (domain : Domain) (pairs : List Pair) (ts : List Piece) → table_pieces domain pairs ≡ Ok ts → (ps : List Piece) × (pair_pieces domain None 0 pairs ≡ Ok ps)
unfolding pair_pieces
planned-pairs domain [] ts e = ([], refl)
planned-pairs domain (p ∷ pairs) ts e = let d = table-planned domain p pairs ts e in (d.pieces, d.plans)

-- Points in the scope of the distance are not of domain 1.
pub straight-lent : (domain : Domain) (lentPoints : List ℤ) → Straight domain lentPoints → domain_lent domain (pairs_lent lentPoints) ≡ Some Physical → ⊥
straight-lent domain [] h e = absurd (let z : ◌≡◌ {A = ℕ} 0 1 = cc in omega arith)
straight-lent domain (a ∷ []) h e = absurd (let z : ◌≡◌ {A = ℕ} 0 1 = cc in omega arith)
straight-lent Electrical (a ∷ s ∷ l) h e = absurd (let z : ◌≡◌ {A = ℕ} 0 1 = cc in omega arith)
straight-lent Physical (a ∷ s ∷ l) h e = h

-- ---- the distance

distance : (domain : Domain) (lent : List Pair) (ps : List Piece) (v e f : ℤ) (K : ℕ) → pair_pieces domain None 0 lent ≡ Ok ps → e <ℤ f → Slopes K lent →
    let p = position v e f in
    Within D R K (p +ℤ deviation (map kept_pair lent) p) (certificate_line lent ((v -ℤ e) *ℤ pos billion) (nat_abs (f -ℤ e)))
unfolding position
distance domain lent ps v e f K h span slopes =
    let rises = stored-rises domain None 0 lent ps h in
    bound D R K lent (map kept_pair lent) (stored-close domain None 0 lent ps h) rises.lent rises.kept slopes ((v -ℤ e) *ℤ pos billion) (nat_abs (f -ℤ e))
    (omega (arith, lt_z-parts e f span.lt, sub-parts-ℤ f e, abs-parts (f -ℤ e)))

-- The distance for what was read, under other names.
distance-of : (domain : Domain) (lent stored : List Pair) (ps : List Piece) (q v e f low high : ℤ) (K : ℕ) → pair_pieces domain None 0 lent ≡ Ok ps → e <ℤ f → Slopes K lent →
    stored ≡ map kept_pair lent → q ≡ position v e f +ℤ deviation stored (position v e f) → low ≡ e → high ≡ f →
    Within D R K q (certificate_line lent ((v -ℤ low) *ℤ pos billion) (nat_abs (high -ℤ low)))
distance-of domain lent stored ps q v e f low high K h span slopes p r l g = rw (r, p, l, g) (distance domain lent ps v e f K h span slopes)

-- Demand 3, in the words of its statement.
pub certificate-distance : CertificateDistance
certificate-distance kind buffer sheet text domain lentPoints image alterations readingKind v dash r K lendable real straight made taken slopes =
    let b = built kind buffer sheet text (listed domain lentPoints) image made in
    let (ps, pairs) = planned-pairs domain (pairs_lent lentPoints) _ (plan-parts sheet text (listed domain lentPoints) b.pieces b.plans).behind_planned in
    let s = shown readingKind (altered image alterations) v dash r taken in
    let k = kept-lent kind buffer sheet text domain lentPoints image alterations readingKind s.holds lendable real made s.accepted in
    let ends = ends_read readingKind (altered image alterations) s.holds s.accepted in
    distance-of domain (pairs_lent lentPoints) (points s.holds) ps r.fraction v (least s.holds) (greatest s.holds) _ _ K pairs s.rises slopes
    k.keeps_points (s.shows ∙ by-deviation s.holds.calibration _ (λ e. straight-lent domain lentPoints straight (sym k.keeps_domain ∙ e))) ends.0 ends.1

-- ---- the factors above 0

pub lent-points-rise : LentPointsRise
lent-points-rise kind buffer sheet text domain lentPoints image made =
    let b = built kind buffer sheet text (listed domain lentPoints) image made in
    let (ps, pairs) = planned-pairs domain (pairs_lent lentPoints) _ (plan-parts sheet text (listed domain lentPoints) b.pieces b.plans).behind_planned in
    (stored-rises domain None 0 (pairs_lent lentPoints) ps pairs).lent

pub ends-rise : EndsRise
ends-rise kind image v dash r taken =
    let s = shown kind image v dash r taken in
    let ends = ends_read kind image s.holds s.accepted in
    rw (ends.0, ends.1) s.rises

pub difference-above : DifferenceAbove
difference-above a b h = go (b -ℤ a) (sub-parts-ℤ b a)
  where
    go : (z : ℤ) → up z + (dn b + up a) ≡ dn z + (up b + dn a) → pos (nat_abs z) ≡ z
    go (pos n) e = refl
    go (negsuc n) e = absurd (omega (arith, lt_z-parts a b h.lt))
