-- Laws of the nearest nV/V of a Single: at most half a nV/V
-- away, rising with the Single, and the range of −2 to 2 V/V.
use Rattle.codes.proofs.Names.{◌≡◌, refl, ap, true, false, not, [], ◌∷◌, map, ℕ, ◌+◌, ◌*◌, ◌<◌, arith, count_trailing_zeros, ℤ, pos, negsuc, neg_ℤ, ◌-ℤ◌, ◌*ℤ◌, lt_z, Float, nan, inf, fin, binary32, of_bits, of_fields}
use Rattle.codes.proofs.Names.{odd, down_pos, up, dn, Fraction, ◌over◌, nearest, sub-parts-ℤ, mul-parts, le_z-parts, lt_z-parts, nlt_z-parts, parts-≤ℤ, is_false, nearest-high, nearest-half, nearest-rises-parts}
use Rattle.codes.proofs.Names.{nearest-exact, neither, finite, outside, billion, Nearest, exact, outside_two, exact_nanovolts, nanovolts, NanovoltsNearest, NanovoltsRise, NanovoltsWithin}
use Rattle.codes.proofs.StepLaws.{small, smaller}

den-some : (x : Float) → 0 < (exact x).den
den-some nan = omega arith
den-some (inf s) = omega arith
den-some (fin s m e) = down_pos e

-- ---- the distance

-- For any fraction, in parts den of which are a whole:
-- at most half a whole, and exactly half only upward.
rounded : (f : Fraction) → 0 < f.den → Nearest f.den f.num (nearest f *ℤ pos f.den)
rounded f some =
    record {
      near = nearest-half f some;
      below = λ l. smaller (y -ℤ f.num) f.den (omega (arith, apart, lt_z-parts y f.num l.lt)) (omega (arith, apart, whole, nearest-high f some));
    }
  where
    y : ℤ
    y = nearest f *ℤ pos f.den

    whole : up y + dn (nearest f) * f.den ≡ dn y + up (nearest f) * f.den
    whole = omega (arith, mul-parts (nearest f) (pos f.den))

    apart : up (y -ℤ f.num) + (dn y + up f.num) ≡ dn (y -ℤ f.num) + (up y + dn f.num)
    apart = sub-parts-ℤ y f.num

pub nanovolts-nearest : NanovoltsNearest
unfolding nanovolts
nanovolts-nearest x = rounded (exact_nanovolts x) (den-some x)

-- ---- the order

-- A billion times as much, over d.
in-nanovolts : (z : ℤ) (d : ℕ) → up (z *ℤ pos billion) * d + dn z * billion * d ≡ dn (z *ℤ pos billion) * d + up z * billion * d
in-nanovolts z d = omega (arith, ap (λ (n : ℕ). n * d) (mul-parts z (pos billion)))

pub nanovolts-rise : NanovoltsRise
unfolding nanovolts
nanovolts-rise x y h =
    let a = exact x in
    let b = exact y in
    parts-≤ℤ _ _
    (nearest-rises-parts (exact_nanovolts x) (exact_nanovolts y) (den-some x) (den-some y)
    (omega (arith, in-nanovolts a.num b.den, in-nanovolts b.num a.den, le_z-parts (a.num *ℤ pos b.den) (b.num *ℤ pos a.den) h.le, mul-parts a.num (pos b.den), mul-parts b.num (pos a.den))))

-- ---- the range

pub nanovolts-within : NanovoltsWithin
unfolding outside_two nanovolts
nanovolts-within x h =
    let v = exact x in
    let low = neg_ℤ (pos 2) *ℤ pos v.den in
    let high = pos 2 *ℤ pos v.den in
    let inside = neither (lt_z v.num low) (lt_z high v.num) (neither (not (finite x)) (outside low high v.num) h).1 in
    let foot : ℤ = neg_ℤ (pos 2_000_000_000) in
    let top : ℤ = pos 2_000_000_000 in
    let least = rw (nearest-exact foot 1 (omega arith)) at (nearest-rises-parts (foot over 1) (exact_nanovolts x) (omega arith) (den-some x) (omega (arith, mul-parts v.num (pos billion), mul-parts (neg_ℤ (pos 2)) (pos v.den), nlt_z-parts v.num low (is_false inside.0)))) in
    let most = rw (nearest-exact top 1 (omega arith)) at (nearest-rises-parts (exact_nanovolts x) (top over 1) (den-some x) (omega arith) (omega (arith, mul-parts v.num (pos billion), nlt_z-parts high v.num (is_false inside.1)))) in
    omega (arith, small (nearest (exact_nanovolts x)) 4_000_000_000 (omega arith) (omega arith))

-- ---- figures computed independently of these definitions

-- Minus zero, the least subnormal and its negative; the greatest
-- below half a nV/V and its negative, and their neighbours.
near-zero :
    map (λ b. nanovolts (of_bits binary32 b)) (0x8000_0000 ∷ 0x0000_0001 ∷ 0x8000_0001 ∷ 0x3009_705f ∷ 0xb009_705f ∷ 0x3009_7060 ∷ 0xb009_7060 ∷ [])
    ≡ (pos 0 ∷ pos 0 ∷ pos 0 ∷ pos 0 ∷ pos 0 ∷ pos 1 ∷ negsuc 0 ∷ [])
unfolding nanovolts of_bits of_fields odd count_trailing_zeros nearest
near-zero = refl

-- ±2^−10 is ±976,562.5 nV/V: a half goes up. Also the neighbour above −2, and both ends.
halves-and-ends :
    map (λ b. nanovolts (of_bits binary32 b)) (0x3a80_0000 ∷ 0xba80_0000 ∷ 0xbfff_ffff ∷ 0x4000_0000 ∷ 0xc000_0000 ∷ [])
    ≡ (pos 976_563 ∷ neg_ℤ (pos 976_562) ∷ neg_ℤ (pos 1_999_999_881) ∷ pos 2_000_000_000 ∷ neg_ℤ (pos 2_000_000_000) ∷ [])
unfolding nanovolts of_bits of_fields odd count_trailing_zeros nearest
halves-and-ends = refl

-- 2 and −2 are inside; their outer neighbours, an infinity and a NaN are outside.
inside-and-outside :
    map (λ b. outside_two (of_bits binary32 b)) (0x4000_0000 ∷ 0xc000_0000 ∷ 0x4000_0001 ∷ 0xc000_0001 ∷ 0xff80_0000 ∷ 0x7fc0_0000 ∷ [])
    ≡ (false ∷ false ∷ true ∷ true ∷ true ∷ true ∷ [])
unfolding outside_two of_bits of_fields odd count_trailing_zeros
inside-and-outside = refl
