-- Laws of terms of rising exponents: their coefficients by powers.
use Rattle.correction.proofs.Names.{◌≡◌, refl, sym, ◌∙◌, Bool, cond, true, false, List, [], ◌∷◌, ◌++◌, append_assoc, append-nil, ℕ, suc, ◌+◌, ◌-◌, ◌≤◌, ◌<◌, arith, lt-ltb, ltb-true, ltb, ℤ, nat_abs, Float, length}
use Rattle.correction.proofs.Names.{replicate, set, length-append, length-replicate, replicate-append-replicate, set_at, take_at, Term, Powers, float_zero, coefficients, fraction_by, fraction_of, no_powers, with_power}
use Rattle.correction.proofs.Names.{with_term, taken, up_to_highest, Rising}

-- Powers that hold these coefficients, and nothing above them.
record Held (powers : Powers) (l : List Float) : Type 0 where
  each : powers.coefficients ≡ l ++ replicate (6 - length l) float_zero
  count : powers.count ≡ length l
  most : length l ≤ 6

-- A coefficient stored after a gap.
store : (l : List Float) (z c : Float) (gap rest : ℕ) → set (l ++ replicate (gap + suc rest) z) (length l + gap) c ≡ (l ++ (replicate gap z ++ (c ∷ []))) ++ replicate rest z
store l z c gap rest =
    rw (← replicate-append-replicate gap (suc rest) z, ← append_assoc l (replicate gap z) (z ∷ replicate rest z))
    (set_at (l ++ replicate gap z) z (replicate rest z) c (length l + gap) (simp (length-append, length-replicate)) ∙ simp append_assoc)

start : Held no_powers []
start = record { each = refl; count = refl; most = omega arith }

module _ (powers : Powers) (l : List Float) (held : Held powers l) where
  -- One more term.
  more : (power : ℕ) (c : Float) → length l ≤ power → power < 6 → Held (with_power powers power c) (l ++ (replicate (power - length l) float_zero ++ (c ∷ [])))
  unfolding with_power
  more power c above most = rw (lt-ltb power 6 most) (record { each = stored; count = sym long; most = omega (arith, long) })
    where
      gap : ℕ
      gap = power - length l

      long : length (l ++ (replicate gap float_zero ++ (c ∷ []))) ≡ suc power
      long = simp (length-append, length-replicate) (omega arith)

      at-power : length l + gap ≡ power
      at-power = omega arith

      room : 6 - length l ≡ gap + suc (6 - suc power)
      room = omega arith

      stored : set powers.coefficients power c ≡ (l ++ (replicate gap float_zero ++ (c ∷ []))) ++ replicate (6 - length (l ++ (replicate gap float_zero ++ (c ∷ [])))) float_zero
      stored = rw (held.each, long, room) (rw at-power at (store l float_zero c gap (6 - suc power)))

-- All terms.
held-taken : (terms : List Term) (powers : Powers) (l : List Float) → Held powers l → Rising (length l) terms → Held (taken powers terms) (l ++ coefficients (length l) terms)
unfolding coefficients
held-taken [] powers l held rising = rw append-nil held
held-taken (t ∷ terms) powers l held rising =
    rw split at (rw long at (held-taken terms (with_power powers power t.coefficient) gapped (more powers l held power t.coefficient rising.0 rising.1.0) (rw long rising.1.1)))
  where
    power : ℕ
    power = nat_abs t.exponent

    gapped : List Float
    gapped = l ++ (replicate (power - length l) float_zero ++ (t.coefficient ∷ []))

    long : length gapped ≡ suc power
    long = simp (length-append, length-replicate) (omega (arith, rising.0))

    split : gapped ++ coefficients (suc power) terms ≡ l ++ (replicate (power - length l) float_zero ++ (t.coefficient ∷ coefficients (suc power) terms))
    split = simp append_assoc

-- The fraction of terms with rising exponents, added in order.
pub fraction-taken : (terms : List Term) (p : ℤ) → Rising 0 terms → fraction_by (up_to_highest (taken no_powers terms)) p ≡ fraction_of terms p
fraction-taken terms p rising =
    let h = held-taken terms no_powers [] start rising in
    rw (h.count, h.each, take_at (coefficients 0 terms) (replicate (6 - length (coefficients 0 terms)) float_zero) (length (coefficients 0 terms)) refl)

-- Whatever terms are added, there are at most six powers.
few : (powers : Powers) (power : ℕ) (c : Float) → powers.count ≤ 6 → (with_power powers power c).count ≤ 6
unfolding with_power
few powers power c most = by (ltb power 6) refl
  where
    by : (b : Bool) → ltb power 6 ≡ b → (cond b (record { coefficients = set powers.coefficients power c; count = suc power }) powers).count ≤ 6
    by true e = omega (arith, ltb-true power 6 e)
    by false e = most

pub few-powers : (terms : List Term) (powers : Powers) → powers.count ≤ 6 → (taken powers terms).count ≤ 6
few-powers [] powers most = most
few-powers (t ∷ terms) powers most = few-powers terms (with_term powers t) (few powers (nat_abs t.exponent) t.coefficient most)
