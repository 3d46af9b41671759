-- Laws of distances of natural numbers, whole numbers and fractions.
-- A distance is two inequalities, which `omega` proves together.
use Rattle.correction.proofs.Names.{◌≡◌, ap, ℕ, ◌+◌, ◌*◌, ◌≤◌, ◌<◌, mul-le-mul_left, mul-le-mul_right, le_of_mul-le-mul_left, arith, ℤ, pos, negsuc, nat_abs, ◌-ℤ◌, ◌*ℤ◌, ◌≤ℤ◌, ◌<ℤ◌, up, dn, Fraction, ◌over◌}
use Rattle.correction.proofs.Names.{nearest, sub-parts-ℤ, mul-parts, abs-parts, le_z-parts, lt_z-parts, parts-≤ℤ, nearest-low, nearest-high}

-- l and r are at most b apart.
pub record Near (l r b : ℕ) : Type 0 where
  pub high : l ≤ r + b
  pub low : r ≤ l + b

-- Only l − r matters.
pub near-as : {l r b l' r' b' : ℕ} → l + r' ≡ l' + r → b ≤ b' → Near l r b → Near l' r' b'
near-as e w h = omega arith

module _ (k : ℕ) {l r b : ℕ} where
  pub near_times : Near l r b → Near (k * l) (k * r) (k * b)
  near_times h = omega (arith, mul-le-mul_left k h.high, mul-le-mul_left k h.low)

  pub near-divided : 0 < k → Near (k * l) (k * r) (k * b) → Near l r b
  near-divided some h = record { high = le_of_mul-le-mul_left {k = k} (omega arith) some; low = le_of_mul-le-mul_left {k = k} (omega arith) some }

-- A weighted mean of two distances.
pub near-mean : {l r b l' r' b' : ℕ} (w u : ℕ) → Near l r b → Near l' r' b' → Near (w * l + u * l') (w * r + u * r') (w * b + u * b')
near-mean w u h g = omega (arith, near_times w h, near_times u g)

-- ---- whole numbers, by parts

pub near-abs : {b : ℕ} (k : ℕ) (z : ℤ) → Near (k * up z) (k * dn z) b → k * nat_abs z ≤ b
near-abs k (pos n) h = omega arith
near-abs k (negsuc n) h = omega arith

pub less : (y z : ℤ) → y <ℤ z → y ≤ℤ z
less y z h = parts-≤ℤ y z (omega (arith, lt_z-parts y z h.lt))

-- The distance of a whole number from a smaller one.
pub above-parts : (y z : ℤ) → y ≤ℤ z → up z + dn y ≡ dn z + up y + nat_abs (z -ℤ y)
above-parts y z h = go (z -ℤ y) (sub-parts-ℤ z y)
  where
    go : (d : ℤ) → up d + (dn z + up y) ≡ dn d + (up z + dn y) → up z + dn y ≡ dn z + up y + nat_abs d
    go (pos n) e = omega arith
    go (negsuc n) e = absurd (omega (arith, le_z-parts y z h.le))

-- A product with a number that is n above 0.
pub multiple : (s z : ℤ) (n : ℕ) → up z ≡ dn z + n → up (s *ℤ z) + dn s * n ≡ dn (s *ℤ z) + up s * n
multiple s z n e = omega (arith, mul-parts s z, ap (λ (x : ℕ). up s * x) e, ap (λ (x : ℕ). dn s * x) e)

pub scaled : (s : ℤ) (n : ℕ) → up (s *ℤ pos n) + dn s * n ≡ dn (s *ℤ pos n) + up s * n
scaled s n = multiple s (pos n) n (omega arith)

-- ---- fractions

-- n times the distance of f and g is at most C.
pub record Apart (C n : ℕ) (f g : Fraction) : Type 0 where
  pub near : Near (n * (up f.num * g.den + dn g.num * f.den)) (n * (dn f.num * g.den + up g.num * f.den)) (C * (f.den * g.den))

pub apart-sym : {C n : ℕ} {f g : Fraction} → Apart C n f g → Apart C n g f
apart-sym h = omega (arith, h.near)

-- A larger bound, if C / n is at most E / m.
pub apart-as : {C n E m : ℕ} {f g : Fraction} → 0 < n → C * m ≤ E * n → Apart C n f g → Apart E m f g
apart-as {C} {n} {E} {m} {f} {g} some w h = record { near = near-divided n some (near-as (omega arith) (omega (arith, mul-le-mul_right (f.den * g.den) w)) (near_times m h.near)) }

pub apart-through : {C E n : ℕ} {f g h : Fraction} → 0 < g.den → Apart C n f g → Apart E n g h → Apart (C + E) n f h
apart-through {f} {g} {h} some l r = record { near = near-divided g.den some (near-as (omega arith) (omega arith) (near-mean h.den f.den l.near r.near)) }

pub apart-nearest : (f : Fraction) → 0 < f.den → Apart 1 2 (nearest f over 1) f
apart-nearest f some = omega (arith, nearest-low f some, nearest-high f some)

pub apart-whole : {C k : ℕ} (y z : ℤ) → k * nat_abs (z -ℤ y) ≤ C → Apart C k (z over 1) (y over 1)
apart-whole {k} y z h = omega (arith, ap (λ (x : ℕ). k * x) (sub-parts-ℤ z y), ap (λ (x : ℕ). k * x) (abs-parts (z -ℤ y)))
