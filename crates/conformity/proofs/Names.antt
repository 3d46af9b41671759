-- What the proofs of this crate take from the kit, from the crates below and from its own definitions.
pub use Prim.Native.Nat.{◌%◌, ◌*◌, ◌+◌, ◌-◌, ◌/◌, ◌<◌, ◌^◌, ◌≤◌, max, suc, zero, ℕ}
pub use mathlib.Core.Path.{◌∙◌, ◌≡◌, ap, ap₂, refl, subst, sym}
pub use mathlib.Core.{Bool.cond, Bool.false, Bool.true, Bool.true≢false, List.List, List.[], List.◌∷◌, List.map, Logic.◌⊎◌, Logic.inl, Logic.inr}
pub use Rattle.std.specs.declared.option.Option.{Option, TheVariants.None, TheVariants.Some}
pub use native.Mathlib.{Decide.dec_le, Nat.div-add-mod', Nat.le_of_mul-le-mul_right, Nat.mod-lt, Nat.mul_comm, Nat.mul-le-mul_right, Nat.mul-pos, Numerals.add-one, Omega.arith}
pub use lib.Seq.{ext_get_or, get_or-set_other, get_or-set_same, get_or-take, length-take-le}
pub use lib.{Dec.eqb, Dec.eqb→eq, IntN.◌*ℤ◌, IntN.◌+ℤ◌, IntN.◌-ℤ◌, IntN.nat_abs, IntN.negsuc, IntN.pos, IntN.ℤ, ListN.get_or, ListN.length, ListN.length-map, ListN.length-set, ListN.set, ListN.take, Signed.◌<ℤ◌, Signed.le_z}
pub use mir.{Facts.to_z-of_z, Syntax.w64, Val.SFits, Val.to_z}
pub use borrow.Author.Rules.{rules, sfits_of}
pub use Rattle.refusal.proofs.Outcomes.{good-bind, good-same, passed, said_of, same_of}
pub use Rattle.refusal.specs.{Outcome.Ok, Outcome.Err, declared.Refusal.TheVariants.WrongBlock, declared.Refusal.Refusal}
pub use Rattle.integers.proofs.CeilingLaws.{ceiling-least, ceiling-meets, ceiling-same, ceiling-tight}
pub use Rattle.integers.proofs.PartLaws.{abs-parts, is_false, is_true, lt_z-parts, nle_z-parts, parts-<ℤ, parts-≤ℤ, same, sub-parts-ℤ}
pub use Rattle.integers.specs.{Ceiling.ceiling, Nearest.◌over◌, Nearest.nearest, Parts.dn, Parts.up}
pub use Rattle.templates.specs.{Calibration.no_pair, declared.Domain.TheVariants.Electrical, declared.Domain.TheVariants.Physical, declared.Pair.Pair}
pub use Rattle.layout.{proofs.Calibrations.CalibrationAt, specs.Contents.Calibration, specs.Contents.Contents, specs.Contents.bare, specs.Contents.curve, specs.Contents.table}
pub use Rattle.layout.{specs.Image.contents, specs.Image.pair_in, specs.Image.pairs_in, specs.Image.points, specs.Image.segment_in, specs.Image.segments_in, specs.Places.first_selector}
pub use Rattle.sheet.proofs.{HeldLaws.domain-is, HeldLaws.holding, HeldLaws.points-are, HeldLaws.segments-are, OpenLaws.held, OpenLaws.not_opened, OpenLaws.opens}
pub use Rattle.sheet.specs.{Check.domain_in, Opened.Opens, declared.opening.Opened.Opened}
pub use Rattle.build.{proofs.PairPlans.pairs-length, proofs.PairTurns.pairs_end, proofs.PairTurns.pairs-left, proofs.PairTurns.pairs_from, specs.Build.pairs_lent, specs.Tested.pair_at}
pub use Rattle.correction.proofs.Beforehand.{Gaps, deviation-parts, gap_parts, gaps, told-dn, told-gap, told-up, told-≤}
pub use Rattle.correction.proofs.{Bends.Is, Bends.correction-some, Bends.is_held, Bends.is_right, Conformity.conforms-within, Distances.less, Distances.scaled, Order.Ahead}
pub use Rattle.correction.proofs.{Places.Pieced, Places.figures-at, Places.first_piece, Places.last-piece, Places.next-between, Places.next-piece, Places.rise-at, Weights.at, Weights.weights-num, Weights.weights-run}
pub use Rattle.correction.specs.Conformity.{AtPoints, Conforms, WithinOf}
pub use Rattle.correction.specs.{Before.Before, Before.point_of, Certificate.Rises, Certificate.Slopes, Line.Correction, Line.at_end, Line.certificate_line, Line.deviation, Ranges.Between, Ranges.Table}
unfoldable pub use Rattle.correction.specs.Line.{between, correction, correction_after}
pub use Rattle.reading.{proofs.Opening.opened-table, proofs.Spans.resistance-is, specs.Reading.is_resistance}
pub use Rattle.distance.{proofs.Accepted.taking, specs.Distance.distance, specs.declared.CertificateBound.CertificateBound}
pub use Rattle.conformity.specs.Conformity.{compared, compared_with, difference, difference_at, greatest_difference, greatest_over, straight_table}
pub use Rattle.conformity.specs.{Steps.Apart, Steps.Exact, Steps.is_straight, Steps.upward_difference, Tight.AtSome, Tight.Attains, declared.corrections.Corrected.Corrected}
unfoldable pub use Rattle.conformity.specs.Conformity.{conformity}
pub use mathlib.Core.Logic.{⊎_elim}
