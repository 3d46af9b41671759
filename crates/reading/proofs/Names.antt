-- What the proofs of this crate take from the kit, from the crates below and from its own definitions.
pub use Prim.Native.Nat.{◌*◌, ◌+◌, ◌-◌, ◌<◌, ◌^◌, ◌≤◌, suc, zero, ℕ}
pub use mathlib.Core.Bool.{Bool, ◌&&◌, ◌||◌, cond, false, not, true, true≢false}
pub use mathlib.Core.{List.List, List.[], List.◌∷◌, List.map, Logic.⊎_elim, Path.◌∙◌, Path.◌≡◌, Path.ap, Path.ap₂, Path.refl, Path.subst, Path.sym}
pub use Rattle.std.specs.declared.option.Option.{Option, TheVariants.None, TheVariants.Some}
pub use native.Mathlib.{Nat.mul-le-mul_left, Nat.mul-le-mul_right, Omega.arith}
pub use lib.IntN.{◌*ℤ◌, ◌+ℤ◌, ◌-ℤ◌, nat_abs, negsuc, neg_ℤ, pos, sub_ℕ, ℤ}
pub use lib.{Dec.T, Dec.eqb, Dec.ltb, Ieee.Float, Ieee.binary32, Ieee.is_nan, Ieee.of_bits, ListN.get_or, ListN.length, ListN.length-map, Signed.◌<ℤ◌, Signed.◌≤ℤ◌, Signed.le_z, Signed.lt_z}
pub use mir.{Facts.to_z-of_z, Syntax.w64, Val.SFits, Val.of_z, Val.to_z}
pub use denote.Enum.Declared.{tag_of}
pub use types.Run.{OneOf}
pub use borrow.Author.{Rules.rules, Rules.sfits_of, Tests.le-ltb, Tests.lt-ltb, Tests.ltb-false, Tests.ltb-true, Tests.not-false}
pub use Rattle.refusal.proofs.Outcomes.{good-bind, good-same, good-then, neither, passed, said_of, same_of}
pub use Rattle.refusal.specs.Outcome.{Outcome, ◌>>=◌, ◌>>◌, Ok, refuse◌if◌, Err}
pub use Rattle.refusal.specs.{declared.Refusal.TheVariants.EndOutside, declared.Refusal.TheVariants.NoSpan, declared.Refusal.TheVariants.NotFinite, declared.Refusal.TheVariants.OutsideSpan, declared.Refusal.TheVariants.OutsideTable, declared.Refusal.TheVariants.TooManyPoints, declared.Refusal.TheVariants.WrongBlock, declared.Refusal.Refusal}
pub use Rattle.integers.proofs.PartLaws.{abs-parts, add_parts, dn-neg, is_false, is_true, le-le_z, le-lt_z, le_z-parts, lt-le_z, lt-lt_z, lt_z-parts, mul-parts, nle_z-parts, nlt_z-parts, parts-<ℤ, parts-≤ℤ, sub_is, sub-parts-ℤ}
pub use Rattle.integers.proofs.PartLaws.{up_neg}
pub use Rattle.integers.specs.{Nearest.◌over◌, Nearest.nearest, Parts.dn, Parts.up}
pub use Rattle.codes.proofs.{FloatLaws.no_nan, SingleLaws.nanovolts-within}
pub use Rattle.codes.specs.contracts.Value.{the_type}
pub use Rattle.codes.specs.declared.{Row.Row, Rule.TheVariants.Single as Ieee, Rule.TheVariants.Stepped, Value.Value, Value.TheVariants.Missing, Value.TheVariants.Single, Value.TheVariants.Whole}
pub use Rattle.codes.specs.{Rules.all_ones, Rules.finite, Rules.meaning, Rules.stepped_value, Rules.top_code, Units.billion}
unfoldable pub use Rattle.codes.specs.Rules.{decode}
pub use Rattle.templates.proofs.{CalibrationLaws.follows-climbs, CalibrationLaws.follows-rises, RuleLaws.stepped-whole, TemplateFacts.span_lines, TemplateFacts.span-listed}
pub use Rattle.templates.specs.{Calibration.D, Calibration.R, Calibration.cal_deviation, Calibration.cal_point, Calibration.least_deviation, Calibration.no_pair, Calibration.stored_sum, Lines.Line, Lines.line_of}
pub use Rattle.templates.specs.{Rows.bridge_end, declared.Codes.Codes, declared.Domain.Domain, declared.Domain.TheVariants.Electrical, declared.Domain.TheVariants.Physical, declared.Layout.Layout, declared.Pair.Pair}
pub use Rattle.templates.specs.{declared.Segment.Segment, declared.Template.Template, declared.Template.TheVariants.Bridge, declared.Template.TheVariants.Resistance, declared.Term.Term}
pub use Rattle.layout.proofs.Calibrations.{CalibrationAt, PairAt, PairsAt}
pub use Rattle.layout.proofs.{CurvePlaces.CurveStands, CurvePlaces.TermStands, CurveTerms.Rises, CurveTerms.terms-rise, Curves.SegmentsAt, Fields.FieldAt, Places.field-at}
pub use Rattle.layout.specs.Contents.{Calibration, Contents, Found, FoundPair, FoundSegment, FoundTerm, Passed, bare, behind_segment, codes_in, curve, nothing_passed, table}
pub use Rattle.layout.specs.Format.{Stream}
pub use Rattle.layout.specs.Image.{contents, field, figure, float, layout_of, pair_in, pairs_in, points, segment_in, segments_in, stream_in, term_in}
pub use Rattle.layout.specs.Places.{field_place, first_selector}
pub use Rattle.sheet.proofs.HeldLaws.{behind-few, domain-is, held-curve, held_whole, holding, layout_is, points-are, segments-are, segments-few, span-unscaled}
pub use Rattle.sheet.proofs.{CurvePlaces.curve-behind, CurvePlaces.first-is, CurvePlaces.term_is, CurvePlaces.terms-lt, OpenLaws.held, OpenLaws.not_opened, OpenLaws.opens}
pub use Rattle.sheet.specs.{Check.domain_in, Opened.Opens, Walk.segment_at, Walk.segment_end, Walk.term_at, declared.opening.Opened.Opened}
pub use Rattle.correction.proofs.{Beforehand.gap_parts, Beforehand.told-dn, Beforehand.told-gap, Beforehand.told-up, Beforehand.told-≤, Distances.above-parts, Distances.less, Distances.near-abs, Distances.scaled}
pub use Rattle.correction.proofs.{Monotone.nearest-at-most, Order.at_most, Places.Pieced, Places.Search, Places.crossing-pieced, Places.deviation-pieced, Places.figures-at, Places.first_piece, Places.last-piece}
pub use Rattle.correction.proofs.{Places.next-between, Places.next-piece, Places.none-crosses, Places.none-deviates, Places.rounded, Places.search-all, Places.search-done, Places.search-left, Places.search-right}
pub use Rattle.correction.proofs.{PowerLaws.few-powers, PowerLaws.fraction-taken, Sizes.between-deviates, Sizes.crossing-small, Sizes.deviation-small, Sizes.nearest-small, Sums.plus-fits, Sums.plus-made, Sums.told-small}
pub use Rattle.correction.specs.Crossing.{SumsRise, crossing, crossing_after, crossing_between, crossing_held, sum}
pub use Rattle.correction.specs.{Before.Before, Before.point_of, Certificate.Neighbours, Curve.fraction_by, Line.between, Line.correction_after, Line.deviation}
pub use Rattle.correction.specs.{Powers.Rising, Powers.no_powers, Powers.taken, Powers.up_to_highest, Powers.with_term, Ranges.Between, Ranges.Figures, Ranges.Table, declared.curve.Powers.Powers}
pub use Rattle.figures.specs.Figure.{float_fraction, physical_figure}
pub use Rattle.reading.specs.Reading.{electrical_figure, fraction, greatest, greatest as greatest_of, is_missing, is_outside, is_resistance, least, least as least_of, physical_fraction, refuse_first, serving_terms, too_far}
pub use Rattle.reading.specs.Reading.{too_many}
pub use Rattle.reading.specs.Steps.{Lies, Ready, between_in, figure_in, held_in, own_terms, terms_from}
pub use Rattle.reading.specs.declared.{Dash.Dash, Reading.Reading, ends.Ends.Ends, position.Offset.Offset, span.Span.Span}
unfoldable pub use Rattle.reading.specs.{Reading.position, Reading.reading_at, Reading.serving, Reading.span_of, Reading.take_reading, Steps.ends_of}
