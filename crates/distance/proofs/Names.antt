-- What the proofs of this crate take from the kit, from the crates below and from its own definitions.
pub use Prim.Native.Nat.{◌%◌, ◌*◌, ◌+◌, ◌-◌, ◌/◌, ◌<◌, ◌^◌, ◌≤◌, max, suc, zero, ℕ}
pub use mathlib.Core.{Bool.Bool, Bool.◌||◌, Bool.false, Bool.true, List.List, List.[], List.◌∷◌, Path.◌∙◌, Path.◌≡◌, Path.ap, Path.ap₂, Path.refl, Path.sym}
pub use Rattle.std.specs.declared.option.Option.{Option, TheVariants.None, TheVariants.Some}
pub use native.Mathlib.{Nat.mul-le-mul_right, Omega.arith}
pub use lib.{Dec.eqb, Dec.lit<, Dec.ltb, IntN.◌-ℤ◌, IntN.nat_abs, IntN.negsuc, IntN.pos, IntN.ℤ, ListN.drop, ListN.get_or, ListN.length, ListN.length-drop, Signed.◌<ℤ◌, Signed.lt_z, Signed.lt_z_yes}
pub use mir.{Facts.to_z-of_z, Syntax.w64, Val.SFits, Val.of_z, Val.to_z}
pub use borrow.Author.Rules.{rules}
pub use Rattle.refusal.proofs.Outcomes.{good-same, neither, no_value_lem, passed}
pub use Rattle.refusal.specs.{Outcome.Outcome, Outcome.◌>>◌, Outcome.Ok, Outcome.Err, declared.Refusal.TheVariants.WrongList, declared.Refusal.Refusal}
pub use Rattle.integers.{proofs.CeilingLaws.ceiling-least, proofs.CeilingLaws.ceiling-meets, proofs.CeilingLaws.ceiling-small, proofs.PartLaws.abs-parts, proofs.PartLaws.is_false, proofs.PartLaws.is_true}
pub use Rattle.integers.{proofs.PartLaws.le-lt_z, proofs.PartLaws.nlt_z-parts, proofs.PartLaws.parts-≤ℤ, proofs.PartLaws.same, proofs.PartLaws.sub-parts-ℤ, specs.Parts.dn, specs.Parts.up}
pub use Rattle.memory.specs.Pieces.{Piece}
pub use Rattle.codes.{proofs.StepLaws.code-rises, proofs.StepLaws.small, specs.Rules.stepped_code, specs.Rules.stepped_value, specs.Rules.top_code, specs.declared.Value.TheVariants.Whole}
unfoldable pub use Rattle.codes.specs.Rules.{encode}
pub use Rattle.templates.{proofs.CalibrationLaws.follows-rises, specs.Calibration.D, specs.Calibration.R, specs.Calibration.cal_deviation, specs.Calibration.cal_point, specs.Calibration.least_deviation}
pub use Rattle.templates.{specs.declared.Codes.Codes, specs.declared.Domain.Domain, specs.declared.Domain.TheVariants.Electrical, specs.declared.Pair.Pair}
pub use Rattle.build.{proofs.PairPlans.Coded, proofs.PairPlans.codes-planned, proofs.PairPlans.pairs-length, proofs.PairPlans.pairs-planned, proofs.PairPlans.table-planned}
pub use Rattle.build.{proofs.PairTurns.pairs-left, proofs.PairTurns.pairs_from, proofs.Tests.accepted, proofs.Tests.turned_down, specs.Build.pair_pieces, specs.Build.pairs_lent, specs.Tested.pair_at}
unfoldable pub use Rattle.build.specs.Build.{table_pieces}
pub use Rattle.correction.{proofs.Beforehand.told-dn, proofs.Beforehand.told-up, proofs.Distances.near-abs, specs.Certificate.Neighbours, specs.Certificate.Slopes, specs.Ranges.Figures, specs.Ranges.Table}
pub use Rattle.distance.specs.{Distance.by_slope, Distance.least_slope, Distance.steepest, Least.Least, Least.LeastSlope, Least.NoSlope, Steps.Step, declared.CertificateBound.CertificateBound}
unfoldable pub use Rattle.distance.specs.Distance.{distance}
