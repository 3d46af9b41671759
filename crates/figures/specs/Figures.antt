-- The physical figure compared with the exact one: least +
-- (greatest − least) × q / 1,000,000,000 with nothing rounded.
use Rattle.std.specs.Prelude.{◌≡◌, true, ℕ, ◌+◌, ◌*◌, ◌/◌, ◌^◌, ◌≤◌, T, ℤ, pos, nat_abs, ◌+ℤ◌, ◌-ℤ◌, ◌*ℤ◌, ◌≤ℤ◌, Float}
use Rattle.std.specs.Float.{nan, inf, fin, binary32, binary64}
use Rattle.std.specs.Float.Ieee.{up, down, fits, le}
use Rattle.codes.specs.Units.{billion}
use Rattle.figures.specs.Figure.{float_fraction, physical_figure}
use Rattle.codes.specs.Rules.{finite}
use Rattle.codes.specs.Singles.{signed, exact}

-- A finite f64 as a whole number of units of 2^−1074, the
-- smallest one above 0. An infinity or NaN has none, and gets 0.
unfoldable pub units : Float → ℤ
units nan = pos 0
units (inf negative) = pos 0
units (fin negative m e) = signed negative (m * up e * 2 ^ 1074 / down e)

-- The units of a finite f64 are its exact value.
abbrev pub UnitsExact : Type 0
UnitsExact = (x : Float) → T (fits binary64 x) → finite x ≡ true → units x *ℤ pos (exact x).den ≡ (exact x).num *ℤ pos (2 ^ 1074)

abbrev pub figure : Float → Float → ℤ → Float
figure least greatest q = physical_figure least greatest (float_fraction q)

-- The exact figure, in billionths of a unit.
abbrev pub exact_figure : Float → Float → ℤ → ℤ
exact_figure least greatest q = units least *ℤ pos billion +ℤ (units greatest -ℤ units least) *ℤ q

-- A span's ends: finite Singles.
pub record End (x : Float) : Type 0 where
  pub single : T (fits binary32 x)
  pub finite : finite x ≡ true

-- For every q up to 2^50 either way (a reading's is at most 3 · 10^9)
-- the figure is finite. Its distance from the exact figure is at most
-- 2^−53 of |least| + |greatest − least| · (4 · |q| + 1) / 1,000,000,000.
abbrev pub FigureFinite : Type 0
FigureFinite = (least greatest : Float) (q : ℤ) → End least → End greatest → nat_abs q ≤ 2 ^ 50 → finite (figure least greatest q) ≡ true

abbrev pub FigureNear : Type 0
FigureNear =
    (least greatest : Float) (q : ℤ) → End least → End greatest → nat_abs q ≤ 2 ^ 50
    → 2 ^ 53 * nat_abs (units (figure least greatest q) *ℤ pos billion -ℤ exact_figure least greatest q)
    ≤ nat_abs (units least) * billion + nat_abs (units greatest -ℤ units least) * (4 * nat_abs q + 1)

-- The exact figure of num / den billionths of the span, multiplied out by a billion and by den.
abbrev pub exact_figure_at : Float → Float → ℤ → ℕ → ℤ
exact_figure_at least greatest num den = units least *ℤ pos (billion * den) +ℤ (units greatest -ℤ units least) *ℤ num

-- If q is within B / 2000 of num / den, the figure's distance from the exact figure there
-- is at most that of `FigureNear` plus |greatest − least| · B / (2000 · 1,000,000,000).
-- Both sides are multiplied out by 2000, by 2^53, by a billion and by den.
abbrev pub FigureNearLine : Type 0
FigureNearLine =
    (least greatest : Float) (q num : ℤ) (den B : ℕ) → End least → End greatest → nat_abs q ≤ 2 ^ 50 → 2000 * nat_abs (q *ℤ pos den -ℤ num) ≤ B * den
    → 2000 * (2 ^ 53 * nat_abs (units (figure least greatest q) *ℤ pos (billion * den) -ℤ exact_figure_at least greatest num den))
    ≤ (2000 * (nat_abs (units least) * billion + nat_abs (units greatest -ℤ units least) * (4 * nat_abs q + 1)) + 2 ^ 53 * (nat_abs (units greatest -ℤ units least) * B)) * den

-- For any finite fraction x up to 2^400 either way, as a curve gives it. The figure's
-- distance from the exact least + (greatest − least) · x is at most 2^−53 of |least|
-- + 4 · |greatest − least| · |x|, and a unit. In units, of which `one` are 1.
abbrev pub one : ℕ
one = 2 ^ 1074

pub record NearFraction (least greatest x figure : Float) : Type 0 where
  pub near : 2 ^ 53 * nat_abs (units figure *ℤ pos one -ℤ (units least *ℤ pos one +ℤ (units greatest -ℤ units least) *ℤ units x))
      ≤ nat_abs (units least) * one + 4 * (nat_abs (units greatest -ℤ units least) * nat_abs (units x)) + one * 2 ^ 53

abbrev pub FigureNearFraction : Type 0
FigureNearFraction =
    (least greatest x : Float) → End least → End greatest → T (fits binary64 x) → finite x ≡ true → nat_abs (units x) ≤ 2 ^ 400 * one
    → NearFraction least greatest x (physical_figure least greatest x)

-- The figure follows the fraction: it rises with it if greatest is at least least, and falls
-- if greatest is at most least. So for every finite fraction, as a curve gives it, and for q.
pub record Follows (least greatest x y x' y' : Float) : Type 0 where
  pub rises : T (le least greatest) → T (le x y) → T (le x' y')
  pub falls : T (le greatest least) → T (le x y) → T (le y' x')

abbrev pub FigureFollows : Type 0
FigureFollows =
    (least greatest x y : Float) → End least → End greatest → finite x ≡ true → finite y ≡ true
    → Follows least greatest x y (physical_figure least greatest x) (physical_figure least greatest y)

abbrev pub FractionRises : Type 0
FractionRises = (q q' : ℤ) → nat_abs q ≤ 2 ^ 50 → nat_abs q' ≤ 2 ^ 50 → q ≤ℤ q' → T (le (float_fraction q) (float_fraction q'))

abbrev pub FractionFinite : Type 0
FractionFinite = (q : ℤ) → nat_abs q ≤ 2 ^ 50 → finite (float_fraction q) ≡ true
