-- What the proofs of this crate take from the kit, from the crates below and from its own definitions.
pub use Prim.Native.Nat.Ordering.{eq as ordering_eq}
pub use Prim.Native.Nat.Ordering.{gt as ordering_gt}
pub use Prim.Native.Nat.Ordering.{lt as ordering_lt}
pub use Prim.Native.Nat.{Ordering, ◌%◌, ◌*◌, ◌+◌, ◌-◌, ◌/◌, ◌<◌, ◌^◌, ◌≤◌, compare, suc, zero, ℕ}
pub use mathlib.Core.Bool.{Bool, ◌&&◌, ◌||◌, cond, false, not, true}
pub use mathlib.Core.{List.[], List.◌∷◌, Logic.◌⊎◌, Logic.inl, Logic.inr, Path.◌∙◌, Path.◌≡◌, Path.ap, Path.ap₂, Path.refl, Path.subst, Path.sym}
pub use native.Mathlib.{Decide.dec_le, Nat.div-add-mod', Nat.eq-or-lt_of_le, Nat.eq-zero-or-pos, Nat.le-div_iff_mul-le, Nat.le-mul_of_pos_right, Nat.le_of_eq, Nat.le_of_lt, Nat.le_of_mul-le-mul_right}
pub use native.Mathlib.{Nat.le_of_suc-le-suc, Nat.le_trans, Nat.lt_irrefl, Nat.lt_of_le_of_lt, Nat.lt_of_lt_of_le, Nat.lt_of_mul-lt-mul_right, Nat.lt_of_not-le, Nat.mod-lt, Nat.mul_comm, Nat.mul-div_cancel}
pub use native.Mathlib.{Nat.mul-le-mul, Nat.mul-le-mul_left, Nat.mul-le-mul_right, Nat.mul-lt-mul_of_pos_right, Nat.mul-pos, Nat.mul-zero, Nat.not-le_of_lt, Nat.zero-mul, Omega.arith}
pub use lib.Dec.{T, eqb, eqb_refl, eqb-suc-zero, eqb→eq, compare_is_eq, is_le, leb, leb→le, lit≤, ltb, ltb→lt, lt→ltb, nleb→lt, nltb→le}
pub use lib.Ieee.{Digits.size_reaches, Exact.HasValue, Exact.round_exact, Exact.units_val, Fits.and_l, Fits.and_r, Fits.down_pos, Fits.reach, Fits.round_is, Fits.two, Fits.two-le_pos, Fits.up_pos, Float, Format}
pub use lib.Ieee.{Nearest.closest, Order.drop, Order.kept, Order.round_mono, Positive.positive, Positive.positive_of_value, Scale.finite, Scale.finite as is_finite, Scale.grid, Scale.overflow, Scale.round_same}
pub use lib.Ieee.{below as less, binary32, binary64, down, down as below, emax, fin, inf, level, low, nan, nearest, prec, unlike, up, up as above}
pub use lib.IntN.{◌*ℤ◌, ◌+ℤ◌, ◌-ℤ◌, nat_abs, negsuc, neg_ℤ, pos, ℤ}
pub use lib.Pow.{pow-add, pow-lt, pow_mono, pow_pos}
pub use lib.Signed.{le_z}
unfoldable pub use lib.Count.{count_trailing_zeros}
unfoldable pub use lib.Ieee.{add, climb, div, fits, is_nan, le, mul, neg, odd, of_bits, of_fields, of_int, round, size, span, sub, sum, to_bits, units as units'}
pub use mir.Facts.{to_z-of_z}
pub use borrow.Author.Rules.{rules}
pub use Rattle.integers.{proofs.PartLaws.abs-parts, proofs.PartLaws.add_parts, proofs.PartLaws.dn-neg, proofs.PartLaws.mul-parts, proofs.PartLaws.same, proofs.PartLaws.sub-parts-ℤ, proofs.PartLaws.up_neg, specs.Parts.dn}
pub use Rattle.codes.specs.{Singles.exact, Singles.signed, Units.billion}
pub use Rattle.figures.specs.Figures.{End, FigureFinite, FigureFollows, FigureNear, FigureNearFraction, FigureNearLine, FractionFinite, FractionRises, NearFraction, UnitsExact, figure}
unfoldable pub use Rattle.figures.specs.{Figure.float_fraction, Figure.physical_figure, Figures.units}
