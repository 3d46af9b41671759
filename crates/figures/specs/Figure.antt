-- Document 01, "Reading": "The physical figure is worked in
-- f64", each operation rounded once. Every f32 is also an f64.
use Rattle.std.specs.Prelude.{ℤ, pos, Float}
use Rattle.std.specs.Float.{binary64}
use Rattle.std.specs.Float.Ieee.{add, sub, mul, div, of_int}
use Rattle.codes.specs.Units.{billion}

-- The fraction as a float: q / 1,000,000,000.
unfoldable pub float_fraction : ℤ → Float
float_fraction q = div binary64 (of_int binary64 q) (of_int binary64 (pos billion))

-- "least + (greatest − least) × (q / 1,000,000,000),
-- operations in that grouping, each rounded once"
unfoldable pub physical_figure : Float → Float → Float → Float
physical_figure least greatest fraction = add binary64 least (mul binary64 (sub binary64 greatest least) fraction)
