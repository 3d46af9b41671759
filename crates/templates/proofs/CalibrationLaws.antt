-- Laws of the domain of the calibration table, and of its neighbouring pairs.
use Rattle.templates.proofs.Names.{◌≡◌, refl, true, false, ◌&&◌, Option, None, Some, ℕ, zero, suc, ◌+◌, ◌*◌, ◌≤◌, ◌<◌, arith, leb-false, leb, pos, le_z, ◌<ℤ◌, up, dn, add_parts, le-le_z, lt-le_z, nle_z-parts}
use Rattle.templates.proofs.Names.{parts-<ℤ, is_false, Ok, NotRising, SumsNotRising, passed, Codes, Domain, Electrical, Physical, stepped_value, D, R, least_deviation, domain_code, domain_of, is_physical, stored_sum}
use Rattle.templates.proofs.Names.{follows}
use Rattle.codes.proofs.DecodeLaws.{tested}

-- ---- the domain

pub domain-coded : (domain : Domain) → domain_of (domain_code domain) ≡ domain
domain-coded Electrical = refl
domain-coded Physical = refl

pub code-domained : (code : ℕ) → code ≤ 1 → domain_code (domain_of code) ≡ code
code-domained zero h = refl
code-domained (suc zero) h = refl
code-domained (suc (suc n)) h = absurd (omega arith)

pub domain-other : (code : ℕ) → (code ≡ 0 → ⊥) → Physical ≡ domain_of code
domain-other zero h = absurd (h refl)
domain-other (suc n) h = refl

pub domain-most : (domain : Domain) → domain_code domain ≤ 1
domain-most Electrical = omega arith
domain-most Physical = omega arith

-- ---- sums

-- A point plus its deviation, in billionths above the least deviation.
abbrev pub sum_above : Codes → ℕ
sum_above c = D * c.point + R * c.deviation

sum-parts : (c : Codes) → up (stored_sum c) + 1_000_000_000 ≡ dn (stored_sum c) + sum_above c
sum-parts c =
    omega (
      arith,
      add_parts (stepped_value (pos 0) D c.point) (stepped_value least_deviation R c.deviation),
      add_parts (pos 0) (pos (D * c.point)),
      add_parts least_deviation (pos (R * c.deviation)),
    )

module _ (b n : Codes) where
  pub sum-falls : sum_above n ≤ sum_above b → le_z (stored_sum n) (stored_sum b) ≡ true
  sum-falls h = le-le_z (stored_sum n) (stored_sum b) (omega (arith, sum-parts b, sum-parts n))

  pub sum-climbs : sum_above b < sum_above n → le_z (stored_sum n) (stored_sum b) ≡ false
  sum-climbs h = lt-le_z (stored_sum n) (stored_sum b) (omega (arith, sum-parts b, sum-parts n))

-- ---- neighbours

-- Whether a pair may follow does not depend on the place of the refusal.
pub follows-anywhere : (domain : Domain) (before : Option Codes) (i j : ℕ) (n : Codes) → follows domain before i n ≡ Ok tt → follows domain before j n ≡ Ok tt
unfolding follows
follows-anywhere domain None i j n e = refl
follows-anywhere domain (Some b) i j n e =
    let (t, f) = passed (NotRising i) (leb n.point b.point) _ tt e in
    let u = tested (SumsNotRising i) (is_physical domain && le_z (stored_sum n) (stored_sum b)) f in
    rw (t, u)

pub follows-rises : (domain : Domain) (b : Codes) (place : ℕ) (n : Codes) → follows domain (Some b) place n ≡ Ok tt → b.point < n.point
unfolding follows
follows-rises domain b place n e = leb-false n.point b.point (passed (NotRising place) (leb n.point b.point) _ tt e).0

pub follows-climbs : (b : Codes) (place : ℕ) (n : Codes) → follows Physical (Some b) place n ≡ Ok tt → stored_sum b <ℤ stored_sum n
unfolding follows
follows-climbs b place n e =
    let t = tested (SumsNotRising place) (le_z (stored_sum n) (stored_sum b)) (passed (NotRising place) (leb n.point b.point) _ tt e).1 in
    parts-<ℤ (stored_sum b) (stored_sum n) (nle_z-parts (stored_sum n) (stored_sum b) (is_false t))
