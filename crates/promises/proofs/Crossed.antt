-- Proof of Note 9: a reading in domain 1 shows the crossing.
use Rattle.promises.proofs.Names.{Domain, ◌≡◌, refl, sym, ap, ap₂, ◌∙◌, subst, List, [], ◌∷◌, map, ℕ, arith, ℤ, Ok, good-same, Pair, Electrical, Physical, Calibration, bare, table, curve, Contents, contents, pair_in}
use Rattle.promises.proofs.Names.{pairs_in, points, CalibrationAt, contents-accepted, Option, Some, domain_in, pairs_lent, SumsRise, crossing, crosses, Reading, Dash, position, fraction, take_reading}
use Rattle.promises.proofs.Names.{calibration-table, calibration-rises, shown, by-crossing, domain_lent, altered, OnlyCrossing, position_in, CrossingShown, CrossingFromLent}
use Rattle.promises.proofs.KeptLent.{kept-lent, ends_read}

-- Sums rise if the domain is not 0.
sums-rise : (at : ℕ) (k : Calibration) → CalibrationAt at k → (domain_in k ≡ Some Electrical → ⊥) → SumsRise (map pair_in (pairs_in k))
sums-rise at bare h n = tt
sums-rise at (table Electrical pairs) h n = absurd (n refl)
sums-rise at (table Physical pairs) h n = calibration-rises at (table Physical pairs) Physical h refl
sums-rise at (curve segments) h n = tt

-- The two domains differ.
not-electrical : (d : (Option Domain)) → d ≡ Some Physical → d ≡ Some Electrical → ⊥
not-electrical d e f = absurd (let z : ◌≡◌ {A = ℕ} 0 1 = cc in omega arith)

none-electrical : (pairs : List Pair) → domain_lent Physical pairs ≡ Some Electrical → ⊥
none-electrical [] e = absurd (let z : ◌≡◌ {A = ℕ} 0 1 = cc in omega arith)
none-electrical (p ∷ pairs) e = absurd (let z : ◌≡◌ {A = ℕ} 0 1 = cc in omega arith)

-- For an image whose table, if it has one, is not of domain 0.
crossed : (kind : ℕ) (image : List ℕ) (c : Contents) (v : ℤ) (dash : Dash) (r : Reading) → contents kind image ≡ Ok c → (domain_in c.calibration ≡ Some Electrical → ⊥) →
    take_reading kind image v dash ≡ Ok r → OnlyCrossing (points c) (position_in kind image v) r.fraction
crossed kind image c v dash r e n taken =
    let s = shown kind image v dash r taken in
    let same : s.holds ≡ c = good-same (sym s.accepted ∙ e) in
    let ends = ends_read kind image s.holds s.accepted in
    let k : Calibration = c.calibration in
    let p : ℤ = position_in kind image v in
    let stands = (contents-accepted kind image c e).holding.formed.calibrated in
    let one = crosses (points c) (calibration-table _ k stands).rises (sums-rise _ k stands n) p in
    let q : r.fraction ≡ crossing (points c) p =
    s.shows ∙ ap₂ (λ (y z : ℤ). fraction s.holds.calibration (position v y z)) (sym ends.0) (sym ends.1) ∙ ap (λ (x : Contents). fraction x.calibration p) same ∙ by-crossing k p n in
    rw q (record { is = one.is; only = one.one; from = one.from })

pub crossing-shown : CrossingShown
crossing-shown kind image c v dash r e domain taken = crossed kind image c v dash r e (not-electrical (domain_in c.calibration) domain) taken

pub crossing-from-lent : CrossingFromLent
crossing-from-lent kind buffer sheet text lentPoints image alterations readingKind v dash r lendable real made taken =
    let last : List ℕ = altered image alterations in
    let s = shown readingKind last v dash r taken in
    let k = kept-lent kind buffer sheet text Physical lentPoints image alterations readingKind s.holds lendable real made s.accepted in
    subst (λ (l : List Pair). OnlyCrossing l (position_in readingKind last v) r.fraction) k.keeps_points
    (crossed readingKind last s.holds v dash r s.accepted (λ e. none-electrical (pairs_lent lentPoints) (sym k.keeps_domain ∙ e)) taken)
