-- What the proofs of this crate take from the kit, from the crates below and from its own definitions.
pub use Prim.Native.Nat.{◌%◌, ◌*◌, ◌+◌, ◌-◌, ◌/◌, ◌<◌, ◌^◌, ◌≤◌, suc, zero, ℕ}
pub use mathlib.Core.Bool.{Bool, ◌&&◌, ◌||◌, cond, false, not, true, true≢false}
pub use mathlib.Core.{List.List, List.[], List.◌∷◌, List.map, Logic.◌⊎◌, Logic.inl, Logic.inr, Path.◌∙◌, Path.◌≡◌, Path.ap, Path.ap₂, Path.refl, Path.subst, Path.sym}
pub use native.Mathlib.{Nat.div-add-mod', Nat.div-mul-le_self, Nat.eq-or-lt_of_le, Nat.le-add_right, Nat.le_antisymm, Nat.le_of_eq, Nat.le_of_lt, Nat.le_of_suc-le-suc, Nat.le_refl, Nat.le_trans, Nat.lt-div-mul-add}
pub use native.Mathlib.{Nat.lt_of_le_of_lt, Nat.lt_of_lt_of_le, Nat.lt_of_mul-lt-mul_left, Nat.lt_of_mul-lt-mul_right, Nat.mod-lt, Nat.mul_comm, Nat.mul-le-mul, Nat.mul-le-mul_left, Nat.mul-le-mul_right}
pub use native.Mathlib.{Nat.mul-lt-mul_of_pos_left, Nat.mul-lt-mul_of_pos_right, Nat.not-suc-le-zero, Nat.one-le-pow, Nat.one-mul, Nat.zero-mul, Numerals.add-one, Omega.arith}
pub use lib.Ieee.Bits.{nan_bits_is, of_bits-to_bits, to_bits-lt, to_bits-of_bits}
pub use lib.Ieee.{Compare.differs_from_itself, Compare.nan_differs, Exact.HasValue, Exact.odd_sign, Fits.down_pos, Float, binary32, binary64, down as below, fin, fits, inf, nan, nan_bits, ne, to_bits, up as above}
pub use lib.{Bits.and_mask, Dec.T, Dec.eqb, Dec.eqb→eq, Dec.leb, Dec.le→leb, Dec.ltb, Dec.ltb→lt, Dec.lt→ltb, IntN.◌*ℤ◌, IntN.◌+ℤ◌, IntN.◌-ℤ◌, IntN.nat_abs, IntN.negsuc, IntN.neg_ℤ, IntN.pos, IntN.sub_ℕ, IntN.ℤ}
pub use lib.{ListN.get_or, ListN.length, Pow.mod-mod-pow, Pow.ones_lt, Pow.pow-add, Pow.pow_mono, Pow.pow_pos, Pow.shl_exact, Pow.shl_lt, Signed.lt_z}
unfoldable pub use lib.{Count.count_trailing_zeros, Ieee.climb, Ieee.div, Ieee.in_float, Ieee.is_nan, Ieee.odd, Ieee.of_bits, Ieee.of_fields, Ieee.of_int, Ieee.round, Ieee.size, Ieee.span, Ieee.units}
pub use mir.{Facts.and_yes, Facts.to_z-of_z, Facts.to_z_pos, Syntax.w64, Val.Fits, Val.SFits, Val.of_z, Val.to_z}
pub use denote.{Enum.Laws.owed, Enum.Laws.vals, Laws.Is}
pub use borrow.Author.{Rules.rules, Rules.sfits_of, Tests.eq-eqb, Tests.eqb-true, Tests.le-leb, Tests.le-ltb, Tests.leb-true, Tests.lt-leb, Tests.lt-ltb, Tests.ltb-false, Tests.ltb-true, Tests.ne_eqb, Tests.not-false}
pub use Rattle.refusal.proofs.Outcomes.{good-same, neither, no_value_lem, passed}
pub use Rattle.refusal.specs.{Outcome.Outcome, Outcome.◌>>◌, Outcome.Ok, Outcome.refuse◌if◌, Outcome.Err, declared.Refusal.TheVariants.NotFinite, declared.Refusal.TheVariants.OutOfRange, declared.Refusal.TheVariants.OutsideTable, declared.Refusal.TheVariants.WrongSort, declared.Refusal.Refusal}
pub use Rattle.integers.proofs.Bridge.{parts-of-word}
pub use Rattle.integers.proofs.NearestLaws.{nearest-exact, nearest-half, nearest-high, nearest-is, nearest-natural, nearest-rises-parts, nearest-scale}
pub use Rattle.integers.proofs.PartLaws.{abs-parts, add_parts, dn-neg, is_false, le-lt_z, le_z-parts, lt-lt_z, lt_z-parts, mul-parts, nlt_z-parts, parts-≤ℤ, same, sub_is, sub_parts, sub-parts-ℤ, up_neg}
pub use Rattle.integers.specs.{Nearest.Fraction, Nearest.◌over◌, Parts.InRange, Parts.dn, Parts.up}
unfoldable pub use Rattle.integers.specs.Nearest.{nearest}
pub use Rattle.codes.specs.Rules.{Progression, all_ones, finite, meaning, outside, progression, scale_width, single_code, stepped_code, stepped_value, top_code, whole_code}
pub use Rattle.codes.specs.Singles.{NanovoltsNearest, NanovoltsRise, NanovoltsWithin, exact, exact_nanovolts, signed}
pub use Rattle.codes.specs.Stored.{GeometricBetween, GeometricByRatio, GeometricCovers, GeometricOwn, GeometricRises, Nearest, NearestUnit, ReadsBack, Real, Rising, Sound, SoundRule, SteppedNearest, SteppedRange}
pub use Rattle.codes.specs.Stored.{SteppedRises, StoredAgain, ValuesNearest, ValuesRise, kept_by}
pub use Rattle.codes.specs.declared.Rule.{Rule, TheVariants.Geometric, TheVariants.Plain, TheVariants.Single as Ieee, TheVariants.Stepped}
pub use Rattle.codes.specs.declared.{Row.Row}
pub use Rattle.codes.specs.declared.{Scale.Scale, Scale.TheVariants.Current, Scale.TheVariants.ResponseTime, Value.Value, Value.TheVariants.Missing, Value.TheVariants.Single, Value.TheVariants.Whole}
pub use Rattle.codes.specs.{DirectCode.DirectCode, Tables.RisingList, Tables.TableOf, Units.billion, Unscaled.Unscaled, Validity.judge, Validity.ruled, Validity.single_ruled}
unfoldable pub use Rattle.codes.specs.{Rules.decode, Rules.encode, Rules.geometric_value, Rules.goes_up, Rules.stored_at, Singles.nanovolts, Singles.outside_two, Stored.kept, Tables.listed}
pub use Rattle.codes.proofs.Value.TheLaws.{the_laws}
pub use Rattle.codes.specs.contracts.Value.{the_type}
