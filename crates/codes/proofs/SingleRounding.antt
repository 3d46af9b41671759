-- Laws of the nearest nV/V of a Single, by its bits.
use Rattle.codes.proofs.Names.{◌≡◌, refl, sym, ap, ap₂, ◌∙◌, Bool, true, false, ℕ, zero, suc, ◌+◌, ◌-◌, ◌*◌, ◌/◌, ◌%◌, ◌^◌, ◌≤◌, ◌<◌, zero-mul, mul_comm, arith, le-leb, lt-leb, leb, ℤ, pos, neg_ℤ, sub_ℕ, ◌*ℤ◌}
use Rattle.codes.proofs.Names.{pow_pos, shl_exact, mod-mod-pow, Float, nan, inf, fin, binary32, of_bits, above, below, HasValue, down_pos, ◌over◌, nearest, sub_is, up_neg, dn-neg, nearest-is, nearest-scale}
use Rattle.codes.proofs.Names.{billion, signed, nanovolts}
use Rattle.codes.proofs.SingleValues.{size, bits-value, size-digits, unit-digits, sizes-rise}

-- ±n times k.
times : (s : Bool) (n k : ℕ) → signed s n *ℤ pos k ≡ signed s (n * k)
times true zero k = rw zero-mul
times true (suc n) k = refl
times false n k = refl

-- Equal fractions have the same nearest.
same-nearest : (s : Bool) (a b c d : ℕ) → 0 < c → 0 < d → a * d ≡ b * c → nearest (signed s a over c) ≡ nearest (signed s b over d)
same-nearest s a b c d hc hd e =
    sym (nearest-scale (signed s a) c d hc hd)
    ∙ ap₂ (λ (z : ℤ) (n : ℕ). nearest (z over n)) (times s a d ∙ ap (signed s) e ∙ sym (times s b c)) (mul_comm c d)
    ∙ nearest-scale (signed s b) d c hd hc

-- The nearest nV/V of a Single of the value ±q / c.
by_value : (v : Float) (s : Bool) (q c : ℕ) → 0 < c → HasValue v s q c → nanovolts v ≡ nearest (signed s (q * billion) over c)
unfolding nanovolts
by_value nan s q c some h = absurd h
by_value (inf t) s q c some h = absurd h
by_value (fin t m e) s q c some h =
    ap (λ (z : ℤ). nearest (z over below e)) (times t (m * above e) billion)
    ∙ same-nearest t (m * above e * billion) (q * billion) (below e) c (down_pos e) some (omega (arith, h.1))
    ∙ ap (λ (b : Bool). nearest (signed b (q * billion) over c)) h.0

-- A value ±a / (2^31 · u) with a below u is less than half a nV/V.
to-zero : (s : Bool) (a u : ℕ) → a < u → nearest (signed s (a * billion) over 2 ^ 31 * u) ≡ pos 0
to-zero true a u l = nearest-is (neg_ℤ (pos (a * billion)) over 2 ^ 31 * u) (pos 0) (omega (arith, up_neg (pos (a * billion)), dn-neg (pos (a * billion)))) (omega (arith, up_neg (pos (a * billion)), dn-neg (pos (a * billion))))
to-zero false a u l = nearest-is (pos (a * billion) over 2 ^ 31 * u) (pos 0) (omega arith) (omega arith)

-- The numerator and the denominator that the code computes from a pattern without its sign bit.
abbrev num : ℕ → ℕ
num n = (n % 2 ^ 23 + 2 ^ 23) * billion

abbrev den : ℕ → ℕ
den n = 1 * 2 ^ (150 - n / 2 ^ 23) % 2 ^ 64

den-is : (n : ℕ) → 0x3000_0000 ≤ n → den n ≡ 2 ^ (150 - n / 2 ^ 23)
den-is n h = shl_exact {a = 1} 1 (150 - n / 2 ^ 23) 64 (omega arith) (omega arith) ∙ omega arith

pub den_pos : (n : ℕ) → 0x3000_0000 ≤ n → 0 < den n
den_pos n h = rw (den-is n h) (pow_pos (150 - n / 2 ^ 23))

module _ (b : ℕ) where
  pub zero_bits : b % 2 ^ 31 < 0x3000_0000 → pos 0 ≡ nanovolts (of_bits binary32 b)
  zero_bits h =
      sym (by_value (of_bits binary32 b) _ _ (2 ^ 149) (pow_pos 149) (bits-value b (omega arith))
      ∙ to-zero (leb (2 ^ 31) b) _ (2 ^ 118) (sizes-rise (b % 2 ^ 31 / 2 ^ 23) (b % 2 ^ 23) 96 0 (omega arith) (omega arith) (omega arith)))

  module _ (low : 0x3000_0000 ≤ b % 2 ^ 31) (high : b % 2 ^ 31 ≤ 2 ^ 30) where
    abbrev x : ℕ
    x = b % 2 ^ 31 / 2 ^ 23

    by_digits : nanovolts (of_bits binary32 b) ≡ nearest (signed (leb (2 ^ 31) b) (num (b % 2 ^ 31)) over den (b % 2 ^ 31))
    by_digits =
        by_value (of_bits binary32 b) _ _ (2 ^ 149) (pow_pos 149) (bits-value b (omega arith))
        ∙ same-nearest (leb (2 ^ 31) b) (size x (b % 2 ^ 23) * billion) (num (b % 2 ^ 31)) (2 ^ 149) (den (b % 2 ^ 31)) (pow_pos 149) (den_pos (b % 2 ^ 31) low)
        (rw (den-is (b % 2 ^ 31) low, size-digits x (b % 2 ^ 23) (omega arith), unit-digits x (omega arith) (omega arith), mod-mod-pow b 8 23) (omega arith))

    pub plus-bits : b < 2 ^ 31 → nearest (sub_ℕ (num (b % 2 ^ 31)) 0 over den (b % 2 ^ 31)) ≡ nanovolts (of_bits binary32 b)
    plus-bits h = rw (sub_is (num (b % 2 ^ 31)) 0 (pos (num (b % 2 ^ 31))) (omega arith)) (sym (rw (lt-leb (2 ^ 31) b h) at by_digits))

    pub minus-bits : 2 ^ 31 ≤ b → nearest (sub_ℕ 0 (num (b % 2 ^ 31)) over den (b % 2 ^ 31)) ≡ nanovolts (of_bits binary32 b)
    minus-bits h = rw (sub_is 0 (num (b % 2 ^ 31)) (neg_ℤ (pos (num (b % 2 ^ 31)))) (omega (arith, up_neg (pos (num (b % 2 ^ 31))), dn-neg (pos (num (b % 2 ^ 31)))))) (sym (rw (le-leb (2 ^ 31) b h) at by_digits))
