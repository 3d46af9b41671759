-- Laws of conformity in the order of its rows, and of the straight table.
use Rattle.conformity.proofs.Names.{◌≡◌, refl, sym, ap₂, ◌∙◌, true, false, true≢false, List, map, Option, None, Some, ℕ, arith, eqb→eq, is_true, ℤ, length, length-map, Refusal, Ok, Err, WrongBlock}
use Rattle.conformity.proofs.Names.{good-same, good-bind, passed, Pair, Electrical, Physical, Calibration, bare, table, curve, Contents, contents, pairs_in, pair_in, segments_in, segment_in, points, first_selector}
use Rattle.conformity.proofs.Names.{CalibrationAt, pairs_lent, Opened, domain_in, Opens, segments-are, domain-is, holding, CertificateBound, distance, is_resistance, compared_with, straight_table, compared, conformity}
use Rattle.conformity.proofs.Names.{is_straight}

-- ---- the order

module _ (kind : ℕ) (image : List ℕ) (lent : List ℤ) where
  pub compares-refused : {r : Refusal} → contents kind image ≡ Err r → Err r ≡ conformity kind image lent
  unfolding conformity
  compares-refused e = rw e

  module _ {c : Contents} (e : contents kind image ≡ Ok c) where
    pub compares-none : is_resistance c.template ≡ true → Err (WrongBlock first_selector) ≡ conformity kind image lent
    unfolding conformity
    compares-none t = rw (e, t)

    module _ (b : is_resistance c.template ≡ false) where
      pub compares-no-list : {r : Refusal} → distance lent ≡ Err r → Err r ≡ conformity kind image lent
      unfolding conformity
      compares-no-list d = rw (e, b, d)

      pub compares : {d : CertificateBound} → distance lent ≡ Ok d → Ok (compared d.slope (pairs_lent lent) (straight_table c.calibration)) ≡ conformity kind image lent
      unfolding conformity
      compares d = rw (e, b, d)

-- What K and B are computed from.
pub record Compared (kind : ℕ) (image : List ℕ) (lent : List ℤ) (e : CertificateBound) : Type 0 where
  pub holds : Contents
  pub accepted : contents kind image ≡ Ok holds
  pub bridge : is_resistance holds.template ≡ false
  pub beforehand : CertificateBound
  pub distance : distance lent ≡ Ok beforehand
  pub stored : List Pair
  pub straight : straight_table holds.calibration ≡ Some stored
  pub is : compared_with beforehand.slope stored (pairs_lent lent) ≡ e

with-table : (K : ℕ) (lent : List Pair) (o : Option (List Pair)) (e : CertificateBound) → compared K lent o ≡ Some e → (stored : List Pair) × (o ≡ Some stored) × (compared_with K stored lent ≡ e)
with-table K lent (Some stored) e h = (stored, refl, cc)
with-table K lent None e h = absurd (let z : ◌≡◌ {A = ℕ} 0 1 = cc in omega arith)

pub compared-from : (kind : ℕ) (image : List ℕ) (lent : List ℤ) (e : CertificateBound) → conformity kind image lent ≡ Ok (Some e) → Compared kind image lent e
unfolding conformity
compared-from kind image lent e h =
    let (c, accepted, f) = good-bind (contents kind image) _ (Some e) h in
    let (b, g) = passed (WrongBlock first_selector) (is_resistance c.template) _ (Some e) f in
    let (d, beforehand, j) = good-bind (distance lent) _ (Some e) g in
    let (stored, straight, is) = with-table d.slope (pairs_lent lent) (straight_table c.calibration) e (good-same j) in
    record { holds = c; accepted = accepted; bridge = b; beforehand = d; distance = beforehand; stored = stored; straight = straight; is = is }

-- ---- the table

-- The stored points of a straight table are those of the sheet.
pub straight-points : (k : Calibration) (stored : List Pair) → straight_table k ≡ Some stored → (map pair_in (pairs_in k) ≡ stored) × (domain_in k ≡ Some Physical → ⊥)
straight-points bare stored e = (cc, λ h. absurd (let z : ◌≡◌ {A = ℕ} 0 1 = cc in omega arith))
straight-points (table Electrical pairs) stored e = (cc, λ h. absurd (let z : ◌≡◌ {A = ℕ} 0 1 = cc in omega arith))
straight-points (table Physical pairs) stored e = absurd (let z : ◌≡◌ {A = ℕ} 0 1 = cc in omega arith)
straight-points (curve segments) stored e = absurd (let z : ◌≡◌ {A = ℕ} 0 1 = cc in omega arith)

straight-in : (at : ℕ) (k : Calibration) → CalibrationAt at k → is_straight (domain_in k) (length (segments_in k)) ≡ true → straight_table k ≡ Some (map pair_in (pairs_in k))
straight-in at bare h t = refl
straight-in at (table Electrical pairs) h t = refl
straight-in at (table Physical pairs) h t = absurd (true≢false (sym t))
straight-in at (curve segments) h t = absurd (omega (arith, h.some, eqb→eq (length segments) 0 (is_true t)))

bent-in : (at : ℕ) (k : Calibration) → CalibrationAt at k → is_straight (domain_in k) (length (segments_in k)) ≡ false → straight_table k ≡ None
bent-in at bare h t = absurd (true≢false t)
bent-in at (table Electrical pairs) h t = absurd (true≢false t)
bent-in at (table Physical pairs) h t = refl
bent-in at (curve segments) h t = refl

module _ {kind : ℕ} {image : List ℕ} {o : Opened} {c : Contents} (h : Opens kind image o c) where
  test-is : is_straight o.summary.domain o.summary.segments ≡ is_straight (domain_in c.calibration) (length (segments_in c.calibration))
  test-is = ap₂ is_straight (domain-is h) (segments-are h ∙ length-map (segments_in c.calibration) segment_in)

  pub opened-straight : is_straight o.summary.domain o.summary.segments ≡ true → straight_table c.calibration ≡ Some (points c)
  opened-straight t = straight-in _ c.calibration (holding h).formed.calibrated (sym test-is ∙ t)

  pub opened-bent : is_straight o.summary.domain o.summary.segments ≡ false → straight_table c.calibration ≡ None
  opened-bent t = bent-in _ c.calibration (holding h).formed.calibrated (sym test-is ∙ t)
