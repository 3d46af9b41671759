-- Proof of Note 14: the position never falls, and the fraction follows it.
use Rattle.promises.proofs.Names.{◌≡◌, refl, sym, ap, ◌∙◌, subst₂, List, map, ℕ, arith, ℤ, ◌≤ℤ◌, Ok, good-same, Electrical, Physical, Calibration, bare, table, curve, Contents, contents, pair_in, CalibrationAt}
use Rattle.promises.proofs.Names.{contents-accepted, Some, domain_in, deviated-never-falls, crossing-never-falls, least, greatest, position, fraction, calibration-table, calibration-rises, shown, position-rises}
use Rattle.promises.proofs.Names.{NeverFalls, NeverDrops, ReadingMonotone, MonotoneByPhysicalPoint}

-- A greater position never has a smaller fraction.
abbrev Follows : Calibration → Type 0
Follows k = (p r : ℤ) → p ≤ℤ r → fraction k p ≤ℤ fraction k r

in-domain-0 : (at : ℕ) (k : Calibration) → CalibrationAt at k → NeverFalls k → Follows k
in-domain-0 at bare h falls p r le = le
in-domain-0 at (table Electrical pairs) h falls p r le = deviated-never-falls (map pair_in pairs) (calibration-table at (table Electrical pairs) h).rises falls p r le
in-domain-0 at (table Physical pairs) h falls p r le = absurd falls
in-domain-0 at (curve segments) h falls p r le = absurd falls

in-domain-1 : (at : ℕ) (k : Calibration) → CalibrationAt at k → domain_in k ≡ Some Physical → Follows k
in-domain-1 at bare h e p r le = le
in-domain-1 at (table Electrical pairs) h e p r le = absurd (let z : ◌≡◌ {A = ℕ} 0 1 = cc in omega arith)
in-domain-1 at (table Physical pairs) h e p r le =
    crossing-never-falls (map pair_in pairs) (calibration-table at (table Physical pairs) h).rises (calibration-rises at (table Physical pairs) Physical h refl) p r le
in-domain-1 at (curve segments) h e p r le = le

-- Readings follow their inputs.
never-drops : (kind : ℕ) (image : List ℕ) (c : Contents) → contents kind image ≡ Ok c → Follows c.calibration → NeverDrops kind image
never-drops kind image c e follows v w one other r s taken later le =
    let x = shown kind image v one r taken in
    let y = shown kind image w other s later in
    let same : x.holds ≡ c = good-same (sym x.accepted ∙ e) in
    let same' : y.holds ≡ c = good-same (sym y.accepted ∙ e) in
    let at : (u : ℤ) → Contents → ℤ = λ u d. fraction d.calibration (position u (least d) (greatest d)) in
    subst₂ ◌≤ℤ◌ (sym (x.shows ∙ ap (at v) same)) (sym (y.shows ∙ ap (at w) same'))
    (follows (position v (least c) (greatest c)) (position w (least c) (greatest c)) (position-rises (least c) (greatest c) (rw same at x.rises) v w le))

pub needle : ReadingMonotone
needle kind image c e falls = never-drops kind image c e (in-domain-0 _ c.calibration (contents-accepted kind image c e).holding.formed.calibrated falls)

pub needle-by-physical-point : MonotoneByPhysicalPoint
needle-by-physical-point kind image c e domain = never-drops kind image c e (in-domain-1 _ c.calibration (contents-accepted kind image c e).holding.formed.calibrated domain)
