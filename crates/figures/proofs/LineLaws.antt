-- Laws of the figure of a fraction that is near a point of the certificate line.
use Rattle.figures.proofs.Names.{◌≡◌, ap, ℕ, ◌+◌, ◌*◌, ◌^◌, ◌≤◌, mul-le-mul_left, mul-le-mul_right, arith, ℤ, pos, negsuc, nat_abs, ◌+ℤ◌, ◌-ℤ◌, ◌*ℤ◌, dn, add_parts, sub-parts-ℤ, mul-parts, abs-parts, billion}
use Rattle.figures.proofs.Names.{units, figure, FigureNearLine}
use Rattle.integers.specs.Parts.{up}
use Rattle.figures.proofs.FigureLaws.{figure-close}

scaled : (s : ℤ) (n : ℕ) → up (s *ℤ pos n) + dn s * n ≡ dn (s *ℤ pos n) + up s * n
scaled s n = omega (arith, mul-parts s (pos n))

-- The size of z, if z is a × den + d.
sum-size : (z a d : ℤ) (den : ℕ) → up z + (dn a * den + dn d) ≡ dn z + (up a * den + up d) → nat_abs z ≤ nat_abs a * den + nat_abs d
sum-size (pos n) a d den e = omega (arith, ap (λ (k : ℕ). k * den) (abs-parts a), abs-parts d)
sum-size (negsuc n) a d den e = omega (arith, ap (λ (k : ℕ). k * den) (abs-parts a), abs-parts d)

-- The size of d, if d is s × t.
product-size : (s t d : ℤ) → up d + (up s * dn t + dn s * up t) ≡ dn d + (up s * up t + dn s * dn t) → nat_abs d ≤ nat_abs s * nat_abs t
product-size s t (pos n) e = omega (arith, ap (λ (k : ℕ). k * nat_abs t) (abs-parts s), ap (λ (k : ℕ). (up s + dn s) * k) (abs-parts t))
product-size s t (negsuc n) e = omega (arith, ap (λ (k : ℕ). k * nat_abs t) (abs-parts s), ap (λ (k : ℕ). (up s + dn s) * k) (abs-parts t))

module _ (F l s q num : ℤ) (b den : ℕ) where
  abbrev off : ℤ
  off = F *ℤ pos b -ℤ (l *ℤ pos b +ℤ s *ℤ q)

  abbrev left : ℤ
  left = q *ℤ pos den -ℤ num

  abbrev rest : ℤ
  rest = (s *ℤ q) *ℤ pos den -ℤ s *ℤ num

  abbrev whole : ℤ
  whole = F *ℤ pos (b * den) -ℤ (l *ℤ pos (b * den) +ℤ s *ℤ num)

  off-parts : up off + (dn F * b + (up l * b + up (s *ℤ q))) ≡ dn off + (up F * b + (dn l * b + dn (s *ℤ q)))
  off-parts = omega (arith, sub-parts-ℤ (F *ℤ pos b) (l *ℤ pos b +ℤ s *ℤ q), add_parts (l *ℤ pos b) (s *ℤ q), scaled F b, scaled l b)

  whole_parts : up whole + (dn F * (b * den) + (up l * (b * den) + up (s *ℤ num))) ≡ dn whole + (up F * (b * den) + (dn l * (b * den) + dn (s *ℤ num)))
  whole_parts = omega (arith, sub-parts-ℤ (F *ℤ pos (b * den)) (l *ℤ pos (b * den) +ℤ s *ℤ num), add_parts (l *ℤ pos (b * den)) (s *ℤ num), scaled F (b * den), scaled l (b * den))

  rest-parts : up rest + (dn (s *ℤ q) * den + up (s *ℤ num)) ≡ dn rest + (up (s *ℤ q) * den + dn (s *ℤ num))
  rest-parts = omega (arith, sub-parts-ℤ ((s *ℤ q) *ℤ pos den) (s *ℤ num), scaled (s *ℤ q) den)

  left-parts : up left + (dn q * den + up num) ≡ dn left + (up q * den + dn num)
  left-parts = omega (arith, sub-parts-ℤ (q *ℤ pos den) num, scaled q den)

  whole-size : nat_abs whole ≤ nat_abs off * den + nat_abs rest
  whole-size = sum-size whole off rest den (omega (arith, whole_parts, rest-parts, ap (λ (k : ℕ). k * den) off-parts))

  rest-size : nat_abs rest ≤ nat_abs s * nat_abs left
  rest-size =
      product-size s left rest
      (omega (arith, rest-parts, ap (λ (k : ℕ). k * den) (mul-parts s q), mul-parts s num, ap (λ (k : ℕ). up s * k) left-parts, ap (λ (k : ℕ). dn s * k) left-parts))

  pub on_line : (E B : ℕ) → 2 ^ 53 * nat_abs off ≤ E → 2000 * nat_abs left ≤ B * den → 2000 * (2 ^ 53 * nat_abs whole) ≤ (2000 * E + 2 ^ 53 * (nat_abs s * B)) * den
  on_line E B near strays = omega (arith, whole-size, rest-size, mul-le-mul_right den near, mul-le-mul_left (nat_abs s) strays)

pub figure-near-line : FigureNearLine
figure-near-line least greatest q num den B hl hg hq strays =
    on_line (units (figure least greatest q)) (units least) (units greatest -ℤ units least) q num billion den _ B (figure-close least greatest q hl hg hq) strays
