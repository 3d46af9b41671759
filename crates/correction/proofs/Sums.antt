-- Laws of sums in calls: nothing overflows on the way to the crossing.
use Rattle.correction.proofs.Names.{◌≡◌, ap, ap₂, ◌∙◌, ℕ, ◌+◌, ◌*◌, ◌^◌, ◌≤◌, ◌<◌, mul-le-mul, mul-le-mul_right, arith, ℤ, pos, negsuc, nat_abs, ◌+ℤ◌, ◌-ℤ◌, ◌≤ℤ◌, w64, SFits, to_z, of_z, to_z-of_z, up, dn, add_parts}
use Rattle.correction.proofs.Names.{sub-parts-ℤ, abs-parts, le_z-parts, lt_z-parts, parts-≤ℤ, parts-fit, Pair, sum, ceiling, crossing_between, Between, ceiling-least}
use Rattle.correction.proofs.Beforehand.{gap_parts}

-- A whole number that is u − d.
difference-fits : (z : ℤ) (u d : ℕ) → up z + d ≡ dn z + u → u < 2 ^ 63 → d < 2 ^ 63 → SFits w64 z
difference-fits (pos n) u d e hu hd = parts-fit (omega arith) (omega arith)
difference-fits (negsuc n) u d e hu hd = parts-fit (omega arith) (omega arith)

-- A sum and a difference of signed values, which are passed as bits.
module _ (x y : ℤ) (f : SFits w64 x) (g : SFits w64 y) (small : nat_abs x + nat_abs y < 2 ^ 63) where
  pub plus-fits : SFits w64 (to_z w64 (of_z w64 x) +ℤ to_z w64 (of_z w64 y))
  plus-fits = rw (to_z-of_z f, to_z-of_z g) (difference-fits (x +ℤ y) (up x + up y) (dn x + dn y) (add_parts x y) (omega (arith, abs-parts x, abs-parts y)) (omega (arith, abs-parts x, abs-parts y)))

  pub plus-made : to_z w64 (of_z w64 (to_z w64 (of_z w64 x) +ℤ to_z w64 (of_z w64 y))) ≡ x +ℤ y
  plus-made = to_z-of_z plus-fits ∙ ap₂ ◌+ℤ◌ (to_z-of_z f) (to_z-of_z g)

  pub minus-fits : SFits w64 (to_z w64 (of_z w64 x) -ℤ to_z w64 (of_z w64 y))
  minus-fits = rw (to_z-of_z f, to_z-of_z g) (difference-fits (x -ℤ y) (up x + dn y) (dn x + up y) (sub-parts-ℤ x y) (omega (arith, abs-parts x, abs-parts y)) (omega (arith, abs-parts x, abs-parts y)))

  pub minus-made : to_z w64 (of_z w64 (to_z w64 (of_z w64 x) -ℤ to_z w64 (of_z w64 y))) ≡ x -ℤ y
  minus-made = to_z-of_z minus-fits ∙ ap₂ ◌-ℤ◌ (to_z-of_z f) (to_z-of_z g)

-- A value that is passed as bits.
pub told-small : {z : ℤ} {n : ℕ} → SFits w64 z → nat_abs z ≤ n → nat_abs (to_z w64 (of_z w64 z)) ≤ n
told-small f h = rw (to_z-of_z f) h

-- What the three gaps between neighbours are used for.
pub record Stepped (p : ℤ) (a b : Pair) (above climb run : ℕ) : Type 0 where
  pub some : 0 < climb
  pub fits : above * run + climb < 2 ^ 64
  pub small : ceiling (above * run) climb ≤ 2 ^ 30
  pub made : a.point +ℤ pos (ceiling (above * run) climb) ≡ crossing_between p a b

module _ (p : ℤ) (a b : Pair) (h : Between sum p a b) where
  pub climbed : sum a ≤ℤ sum b
  climbed = parts-≤ℤ (sum a) (sum b) (omega (arith, lt_z-parts (sum a) p h.past.lt, le_z-parts p (sum b) h.left.le))

  module _ {above climb run : ℕ} (ea : pos above ≡ p -ℤ sum a) (ec : pos climb ≡ sum b -ℤ sum a) (er : pos run ≡ b.point -ℤ a.point) where
    above_most : above ≤ climb
    above_most = omega (arith, gap_parts p (sum a) ea, gap_parts (sum b) (sum a) ec, le_z-parts p (sum b) h.left.le)

    climb-some : 0 < climb
    climb-some = omega (arith, above_most, gap_parts p (sum a) ea, lt_z-parts (sum a) p h.past.lt)

    run_small : run ≤ 2 ^ 30
    run_small = omega (arith, gap_parts b.point a.point er, abs-parts b.point, le_z-parts (pos 0) a.point h.first.least.le, h.second.point)

    climb-small : climb ≤ 2 ^ 30 + 2 ^ 33
    climb-small =
        omega (
          arith,
          gap_parts (sum b) (sum a) ec,
          add_parts a.point a.deviation,
          add_parts b.point b.deviation,
          gap_parts b.point a.point er,
          run_small,
          abs-parts a.deviation,
          abs-parts b.deviation,
          h.first.deviation,
          h.second.deviation,
        )

    few : ceiling (above * run) climb ≤ run
    few = ceiling-least (above * run) climb climb-some run (omega (arith, mul-le-mul_right run above_most))

    product_small : above * run ≤ (2 ^ 30 + 2 ^ 33) * 2 ^ 30
    product_small = let most : above ≤ 2 ^ 30 + 2 ^ 33 = omega (arith, above_most, climb-small) in mul-le-mul most run_small

    pub stepped : Stepped p a b above climb run
    unfolding crossing_between
    stepped = record {
      some = climb-some;
      fits = omega (arith, product_small, climb-small);
      small = omega (arith, few, run_small);
      made = rw (ap nat_abs ea, ap nat_abs ec, ap nat_abs er);
    }
