-- What the proofs of this crate take from the kit, from the crates below and from its own definitions.
pub use Prim.Native.Nat.{◌*◌, ◌+◌, ◌-◌, ◌<◌, ◌^◌, ◌≤◌, suc, zero, ℕ}
pub use mathlib.Core.Path.{◌∙◌, ◌≡◌, ap, ap₂, refl, subst, subst₂, sym}
pub use mathlib.Core.{Bool.Bool, Bool.cond, Bool.false, Bool.true, List.List, List.[], List.◌++◌, List.◌∷◌, List.append_assoc, List.append-nil, Logic.◌↔◌, Logic.◌⊎◌, Logic.inl, Logic.inr, Logic.⊎_elim}
pub use native.Mathlib.Nat.{le_of_mul-le-mul_left, le_of_mul-le-mul_right, lt_of_mul-lt-mul_right, mul-le-mul, mul-le-mul_left, mul-le-mul_right, mul-pos, one-mul}
pub use native.Mathlib.{Decide.dec_le, Numerals.add-one, Omega.arith}
pub use lib.IntN.{+ℤ_comm, ◌*ℤ◌, ◌+ℤ◌, ◌-ℤ◌, nat_abs, negsuc, pos, sub_ℕ, ℤ}
pub use lib.ListN.{drop, get_or, length, length-append, length-drop, length-replicate, replicate, replicate-append-replicate, set, take}
pub use lib.{Dec.ltb, Ieee.Float, Ieee.add, Ieee.binary64, Ieee.mul, Ieee.nan, Seq.drop-cons, Seq.get_or-take, Seq.length-take-le, Seq.set_at, Seq.take_at, Signed.◌<ℤ◌, Signed.◌≤ℤ◌, Signed.le_z}
unfoldable pub use lib.{Count.count_trailing_zeros, Ieee.climb, Ieee.odd, Ieee.of_bits, Ieee.of_fields, Ieee.of_int, Ieee.round, Ieee.size, Ieee.span, Ieee.units}
pub use mir.{Facts.to_z-of_z, Syntax.w64, Val.SFits, Val.of_z, Val.to_z}
pub use borrow.Author.{Rules.rules, Rules.sfits_of, Tests.le-ltb, Tests.lt-ltb, Tests.ltb-true}
pub use Rattle.integers.proofs.Bridge.{parts-fit, parts-of-word}
pub use Rattle.integers.proofs.CeilingLaws.{ceiling-least, ceiling-meets}
pub use Rattle.integers.proofs.NearestLaws.{High, Low, nearest-exact, nearest-high, nearest-low, nearest-rises-parts, nearest-shift}
pub use Rattle.integers.proofs.PartLaws.{abs-parts, add_parts, is_false, is_true, le-le_z, le_z-parts, lt-le_z, lt_z-parts, mul-parts, nle_z-parts, parts-<ℤ, parts-≤ℤ, same, sub_is, sub-parts-ℤ}
pub use Rattle.integers.specs.{Ceiling.ceiling, Nearest.Fraction, Nearest.◌over◌, Nearest.nearest, Parts.dn, Parts.up}
pub use Rattle.templates.specs.{Calibration.no_pair, declared.Pair.Pair, declared.Term.Term}
pub use Rattle.correction.specs.Certificate.{Close, Neighbours, Rises, Slopes, Within}
pub use Rattle.correction.specs.Crossing.{Crosses, Crossing, Meets, OneCrossing, SumsRise, crossing_held, sum}
pub use Rattle.correction.specs.Powers.{Rising, no_powers, taken, up_to_highest, with_term}
pub use Rattle.correction.specs.{Before.Before, Before.point_of, Conformity.Agree, Conformity.AtPoints, Conformity.Conforms, Conformity.WithinOf, Curve.float_zero, Curve.fraction_of, Line.Correction, Line.at_end}
pub use Rattle.correction.specs.{Monotone.CrossingNeverFalls, Monotone.DeviatedNeverFalls, Ranges.AllFigures, Ranges.Between, Ranges.Figures, Ranges.Table, Ranges.Weights, declared.curve.Powers.Powers}
unfoldable pub use Rattle.correction.specs.Line.{between, certificate_line, correction, correction_after, deviation}
unfoldable pub use Rattle.correction.specs.{Crossing.crossing, Crossing.crossing_after, Crossing.crossing_between, Curve.argument, Curve.coefficients, Curve.fraction_by, Curve.nested, Powers.with_power}
