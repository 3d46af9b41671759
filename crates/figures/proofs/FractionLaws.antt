-- Laws of the physical figure of two Singles and any fraction: near the exact one.
use Rattle.figures.proofs.Names.{◌≡◌, refl, ap, ◌∙◌, subst, Bool, true, false, ℕ, zero, suc, ◌+◌, ◌*◌, ◌^◌, ◌≤◌, mul-zero, arith, lit≤, pos, negsuc, nat_abs, ◌+ℤ◌, ◌-ℤ◌, ◌*ℤ◌, Float, binary64, unlike, add, sub}
use Rattle.figures.proofs.Names.{mul, HasValue, physical_figure, signed, End, NearFraction, FigureNearFraction}
use Rattle.figures.proofs.Signed.{plus, minus}
use Rattle.figures.proofs.Operations.{Sized, in-units}
use Rattle.figures.proofs.Chain.{difference, Near-by, Near-at}
use Rattle.figures.proofs.Shares.{Wide, share-near}
use Rattle.figures.proofs.FigureLaws.{is-finite, abs-signed, times, moved, value-units, Counted, counted, signed-difference, by_parts}

product-signed : (a b : Bool) (m n : ℕ) → signed a m *ℤ signed b n ≡ signed (unlike a b) (m * n)
product-signed a false m n = times-right a m n
  where
    times-right : (a : Bool) (m n : ℕ) → signed a m *ℤ pos n ≡ signed (unlike a false) (m * n)
    times-right true m n = times true m n
    times-right false m n = refl
product-signed true true m zero = times true m 0 ∙ rw (mul-zero m)
product-signed false true m zero = rw (mul-zero m)
product-signed true true m (suc n) = moved true m (negsuc n)
product-signed false true m (suc n) = moved false m (negsuc n)

near-any : (s z y w : Bool) (l σ n R B : ℕ) → Near-by binary64 s (unlike z y) w l (σ * n) (B * 2 ^ 53) B R →
    2 ^ 53 * nat_abs (signed w R *ℤ pos B -ℤ (signed s l *ℤ pos B +ℤ signed z σ *ℤ signed y n)) ≤ nat_abs (signed s l) * B + 4 * (nat_abs (signed z σ) * nat_abs (signed y n)) + B * 2 ^ 53
near-any s z y w l σ n R B h =
    rw (times w R B, times s l B, product-signed z y σ n, abs-signed s l, abs-signed z σ, abs-signed y n)
    (by_parts s (unlike z y) w l (σ * n) R B (l * B + 4 * (σ * n) + B * 2 ^ 53) (omega (arith, h.0)) (omega (arith, h.1)))

wide : Wide binary64 (2 ^ 1202) (2 ^ 400)
wide = record { ends = lit≤ tt; sum = lit≤ tt }

module _ (least greatest x : Float) (hl : End least) (hg : End greatest) (z : Bool) (n : ℕ) (hx : HasValue x z n (2 ^ 1074)) (small : n ≤ 2 ^ 400 * 2 ^ 1074) where
  L : Counted least
  L = counted least hl

  G : Counted greatest
  G = counted greatest hg

  d : Sized binary64 (sub binary64 greatest least) (plus G.negative (G.count * 2 ^ 925) + minus L.negative (L.count * 2 ^ 925)) (minus G.negative (G.count * 2 ^ 925) + plus L.negative (L.count * 2 ^ 925)) (2 ^ 1074)
  d = difference binary64 least greatest L.negative G.negative (L.count * 2 ^ 925) (G.count * 2 ^ 925) L.value G.value

  at : Near-at binary64 (add binary64 least (mul binary64 (sub binary64 greatest least) x)) L.negative (unlike d.negative z) (L.count * 2 ^ 925) (d.size * n) (2 ^ 1074 * 2 ^ 53) (2 ^ 1074)
  at = share-near binary64 least greatest x L.negative G.negative z (L.count * 2 ^ 925) (G.count * 2 ^ 925) n (2 ^ 1202) (2 ^ 400) L.value G.value hx d wide L.most G.most small

  -- x is ±n units.
  pub near-fraction : NearFraction least greatest x (physical_figure least greatest x)
  unfolding physical_figure
  near-fraction = record {
    near =
        rw (value-units (add binary64 least (mul binary64 (sub binary64 greatest least) x)) at.negative at.size at.value, value-units x z n hx, value-units least L.negative (L.count * 2 ^ 925) L.value, value-units greatest G.negative (G.count * 2 ^ 925) G.value, signed-difference L.negative G.negative d.negative (L.count * 2 ^ 925) (G.count * 2 ^ 925) d.size d.parts)
        (near-any L.negative d.negative z at.negative (L.count * 2 ^ 925) d.size n at.size (2 ^ 1074) at.near);
  }

pub figure-near-fraction : FigureNearFraction
figure-near-fraction least greatest x hl hg fits finite small =
    let u = in-units binary64 x fits (is-finite x finite) in
    near-fraction least greatest x hl hg u.negative u.count u.value
    (subst (λ (k : ℕ). k ≤ 2 ^ 400 * 2 ^ 1074) (ap nat_abs (value-units x u.negative u.count u.value) ∙ abs-signed u.negative u.count) small)
