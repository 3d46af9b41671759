-- Laws of the exponents of a curve: tenths, codes and whole numbers.
use Rattle.templates.proofs.Names.{◌≡◌, refl, sym, ◌∙◌, Bool, true, false, not, ◌&&◌, ◌||◌, beq, true≢false, Option, None, Some, ℕ, ◌+◌, ◌*◌, ◌/◌, ◌%◌, ◌≤◌, ◌<◌, arith, dec_lt, le-leb, leb-true, le-ltb}
use Rattle.templates.proofs.Names.{ltb-true, ltb-false, eqb, leb, ltb, ltb→lt, eqb→eq, and_yes, ℤ, pos, negsuc, nat_abs, ◌*ℤ◌, lt_z, up, dn, same, add_parts, mul-parts, lt_z-parts, nlt_z-parts, le-le_z, lt-le_z, lt-lt_z}
use Rattle.templates.proofs.Names.{le-lt_z, is_true, is_false, Ok, Err, WrongCurve, both, Whole, decode, encode, least_exponent, exponent, is_term_count, is_exponent, exponent_follows, exponent_code, tenths_of}
use Rattle.templates.proofs.RowLaws.{agree, exponent-sound}
use Rattle.codes.proofs.Table.{at}
use Rattle.codes.proofs.StoredLaws.{stored-again}

tenths-parts : (code : ℕ) → up (tenths_of code) + 320 ≡ dn (tenths_of code) + 5 * code
tenths-parts code = omega (arith, add_parts least_exponent (pos (5 * code)))

-- Numbers below and above the exponents that are taken.
pub negative-exponent : (z : ℤ) → up z < dn z → is_exponent z ≡ false
negative-exponent z h = rw (lt-le_z (pos 0) z (omega arith))

pub great-exponent : (z : ℤ) → dn z + 50 < up z → is_exponent z ≡ false
great-exponent z h = rw (le-le_z (pos 0) z (omega arith), lt-le_z z (pos 50) (omega arith))

pub low-code : (code : ℕ) → code < 64 → is_exponent (tenths_of code) ≡ false
low-code code h = negative-exponent (tenths_of code) (omega (arith, tenths-parts code))

pub high-code : (code : ℕ) → 74 < code → is_exponent (tenths_of code) ≡ false
high-code code h = great-exponent (tenths_of code) (omega (arith, tenths-parts code))

-- Between them, codes count in halves.
pub inner_code : (code : ℕ) → 64 ≤ code → code ≤ 74 → is_exponent (tenths_of code) ≡ eqb (code % 2) 0
inner_code code l h =
    agree (is_exponent (tenths_of code)) _
    (rw (le-leb 64 code l) at (at (λ c. beq (is_exponent (tenths_of c)) (leb 64 c && eqb (c % 2) 0)) 74 code tt h))

-- Tenths are ordered as their codes.
pub tenths-order : (b c : ℕ) → ltb b c ≡ lt_z (tenths_of b) (tenths_of c)
tenths-order b c = go (ltb b c) refl
  where
    go : (t : Bool) → ltb b c ≡ t → t ≡ lt_z (tenths_of b) (tenths_of c)
    go true e = sym (lt-lt_z (tenths_of b) (tenths_of c) (omega (arith, tenths-parts b, tenths-parts c, ltb-true b c e)))
    go false e = sym (le-lt_z (tenths_of b) (tenths_of c) (omega (arith, tenths-parts b, tenths-parts c, ltb-false b c e)))

-- A number that is not an exponent follows none.
pub follows-none : (before : Option ℤ) (z : ℤ) → is_exponent z ≡ false → exponent_follows before z ≡ false
follows-none None z h = h
follows-none (Some b) z h = rw h

-- A number that follows another exponent is an exponent.
pub follows-some : (before : Option ℤ) (z : ℤ) → exponent_follows before z ≡ true → is_exponent z ≡ true
follows-some None z h = h
follows-some (Some b) z h = (both (is_exponent z) (lt_z b z) h).0

-- The whole number that an exponent's code means.
abbrev pub power : ℕ → ℕ
power code = nat_abs (tenths_of code) / 10

module _ (code : ℕ) (h : is_exponent (tenths_of code) ≡ true) where
  pub power-is : (power code < 6) × (64 + 2 * power code ≡ code)
  power-is = go (dec_lt 74 code)
    where
      go : Dec (74 < code) → (power code < 6) × (64 + 2 * power code ≡ code)
      go (yes l) = absurd (true≢false (sym h ∙ high-code code l))
      go (no l) =
          let t = and_yes (ltb (power code) 6) (eqb (64 + 2 * power code) code)
          (rw h at (at (λ c. not (is_exponent (tenths_of c)) || (ltb (power c) 6 && eqb (64 + 2 * power c) c)) 74 code tt (omega arith))) in
          (ltb→lt (power code) 6 t.0, eqb→eq (64 + 2 * power code) code t.1)

  pub power-back : pos 10 *ℤ pos (power code) ≡ tenths_of code
  power-back = same (pos 10 *ℤ pos (power code)) (tenths_of code) (omega (arith, mul-parts (pos 10) (pos (power code)), tenths-parts code, power-is.1))

pub power-rises : (b code : ℕ) → is_exponent (tenths_of b) ≡ true → exponent_follows (Some (tenths_of b)) (tenths_of code) ≡ true → power b < power code
power-rises b code h e =
    let (own, above) = both (is_exponent (tenths_of code)) (lt_z (tenths_of b) (tenths_of code)) e in
    omega (arith, (power-is b h).1, (power-is code own).1, ltb-true b code (tenths-order b code ∙ above))

-- ---- counts

pub terms-most : (n : ℕ) → is_term_count n ≡ true → n ≤ 6
terms-most n e = leb-true n 6 (both (leb 1 n) (leb n 6) e).1

-- ---- whole exponents

module _ (e : ℤ) where
  pub below-zero : lt_z e (pos 0) ≡ true → is_exponent (pos 10 *ℤ e) ≡ false
  below-zero h = negative-exponent (pos 10 *ℤ e) (omega (arith, mul-parts (pos 10) e, below))
    where
      below : up e + 0 < 0 + dn e
      below = lt_z-parts e (pos 0) (is_true h)

  pub above-five : lt_z (pos 5) e ≡ true → is_exponent (pos 10 *ℤ e) ≡ false
  above-five h = great-exponent (pos 10 *ℤ e) (omega (arith, mul-parts (pos 10) e, lt_z-parts (pos 5) e (is_true h)))

  pub between : lt_z e (pos 0) ≡ false → lt_z (pos 5) e ≡ false → (up e ≤ 5) × (tenths_of (64 + 2 * up e) ≡ pos 10 *ℤ e)
  between l h =
      let low = nlt_z-parts e (pos 0) (is_false l) in
      let high = nlt_z-parts (pos 5) e (is_false h) in
      let None : dn e ≡ 0 = nonnegative e low in
      (omega arith, same (tenths_of (64 + 2 * up e)) (pos 10 *ℤ e) (omega (arith, tenths-parts (64 + 2 * up e), mul-parts (pos 10) e)))
    where
      nonnegative : (z : ℤ) → 0 + dn z ≤ up z + 0 → dn z ≡ 0
      nonnegative (pos n) h = refl
      nonnegative (negsuc n) h = absurd (omega arith)

-- The code of an exponent's tenths.
pub exponent-coded : (place code : ℕ) → code ≤ 74 → encode exponent place (Whole (tenths_of code)) ≡ Ok code
unfolding decode
exponent-coded place code h = stored-again exponent place 0 code (Whole (tenths_of code)) exponent-sound (omega arith) meant
  where
    meant : decode exponent 0 code ≡ Ok (Whole (tenths_of code))
    meant = rw (le-ltb 126 code (omega arith))

-- ---- the code of an exponent, or 24

module _ (before : Option ℤ) (place : ℕ) where
  pub exponent-refused : (z : ℤ) → exponent_follows before z ≡ false → Err (WrongCurve place) ≡ exponent_code before place z
  exponent-refused z h = rw h

  module _ (e : ℤ) (l : lt_z e (pos 0) ≡ false) (h : lt_z (pos 5) e ≡ false) where
    pub exponent-taken : true ≡ exponent_follows before (tenths_of (64 + 2 * up e)) → Ok (64 + 2 * up e) ≡ exponent_code before place (pos 10 *ℤ e)
    exponent-taken t =
        let (most, same) = between e l h in
        let coded = exponent-coded place (64 + 2 * up e) (omega arith) in
        rw (← same, ← t) (sym coded)

    pub exponent-turned : false ≡ exponent_follows before (tenths_of (64 + 2 * up e)) → Err (WrongCurve place) ≡ exponent_code before place (pos 10 *ℤ e)
    exponent-turned t = exponent-refused (pos 10 *ℤ e) (rw (← (between e l h).1) (sym t))
