-- Laws of a Single in nV/V from its own bits.
use Rattle.promises.proofs.Names.{◌≡◌, refl, ap, ◌∙◌, Bool, true, false, ℕ, zero, suc, ◌+◌, ◌*◌, ◌^◌, ◌<◌, mul-one, arith, pos, neg_ℤ, ◌*ℤ◌, pow_pos, Float, nan, inf, fin, binary32, of_bits, above, below}
use Rattle.promises.proofs.Names.{HasValue, down_pos, up, dn, Fraction, ◌over◌, nearest, same, up_neg, dn-neg, mul-parts, nearest-rises-parts, billion, signed, nanovolts, size, bits-value, is_negative}
use Rattle.promises.proofs.Names.{exponent_field, digits, units_of, NanovoltsOfBits}

-- Equal fractions have the same nearest.
same-nearest : (f g : Fraction) → 0 < f.den → 0 < g.den →
    up f.num * g.den + dn g.num * f.den ≡ up g.num * f.den + dn f.num * g.den → nearest f ≡ nearest g
same-nearest f g hf hg e =
    same (nearest f) (nearest g) (omega (arith, nearest-rises-parts f g hf hg (omega arith), nearest-rises-parts g f hg hf (omega arith)))

-- ±a × 10^9 over c, for every a / c that is the value.
signed-nearest : (s : Bool) (a b c d : ℕ) → 0 < c → 0 < d → a * d ≡ b * c →
    nearest (signed s a *ℤ pos billion over c) ≡ nearest (signed s b *ℤ pos billion over d)
signed-nearest s a b c d hc hd e = same-nearest (signed s a *ℤ pos billion over c) (signed s b *ℤ pos billion over d) hc hd (go s)
  where
    minus : (n : ℕ) → up (neg_ℤ (pos n) *ℤ pos billion) + n * billion ≡ dn (neg_ℤ (pos n) *ℤ pos billion)
    minus n = omega (arith, mul-parts (neg_ℤ (pos n)) (pos billion), up_neg (pos n), dn-neg (pos n))

    plus : (n : ℕ) → up (pos n *ℤ pos billion) ≡ dn (pos n *ℤ pos billion) + n * billion
    plus n = omega (arith, mul-parts (pos n) (pos billion))

    go : (s : Bool) → up (signed s a *ℤ pos billion) * d + dn (signed s b *ℤ pos billion) * c ≡ up (signed s b *ℤ pos billion) * c + dn (signed s a *ℤ pos billion) * d
    go true = omega (arith, ap (λ (k : ℕ). k * d) (minus a), ap (λ (k : ℕ). k * c) (minus b), e)
    go false = omega (arith, ap (λ (k : ℕ). k * d) (plus a), ap (λ (k : ℕ). k * c) (plus b), e)

of-value : (x : Float) (s : Bool) (a c : ℕ) → 0 < c → HasValue x s a c → nanovolts x ≡ nearest (signed s a *ℤ pos billion over c)
unfolding nanovolts
of-value nan s a c some h = absurd h
of-value (inf t) s a c some h = absurd h
of-value (fin t m e) s a c some (sign, value) =
    ap (λ (b : Bool). nearest (signed b (m * above e) *ℤ pos billion over below e)) sign
    ∙ signed-nearest s (m * above e) a (below e) c (down_pos e) some value

size-units : (x t : ℕ) → size x t ≡ units_of x t
size-units zero t = mul-one t
size-units (suc x) t = refl

pub nanovolts-of-bits : NanovoltsOfBits
nanovolts-of-bits bits h =
    of-value (of_bits binary32 bits) (is_negative bits) _ (2 ^ 149) (pow_pos 149) (bits-value bits (omega arith))
    ∙ ap (λ (n : ℕ). nearest (signed (is_negative bits) n *ℤ pos billion over 2 ^ 149)) (size-units (exponent_field bits) (digits bits))
