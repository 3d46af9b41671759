-- What the proofs of this crate take from the kit, from the crates below and from its own definitions.
pub use Prim.Native.Nat.{◌%◌, ◌*◌, ◌+◌, ◌-◌, ◌/◌, ◌<◌, ◌^◌, ◌≤◌, suc, zero, zero-le, ℕ}
pub use mathlib.Core.{Bool.Bool, Bool.◌&&◌, Bool.◌||◌, Bool.cond, Bool.false, Bool.not, Bool.true, Bool.true≢false, List.List, List.[], List.◌++◌, List.◌∷◌, List.append_assoc, List.map, List.map-append}
pub use mathlib.Core.{Logic.◌≢◌, Logic.◌⊎◌, Logic.inl, Logic.inr, Path.◌∙◌, Path.◌≡◌, Path.ap, Path.ap₂, Path.refl, Path.subst, Path.subst₂, Path.sym}
pub use Rattle.std.specs.declared.option.Option.{Option, TheVariants.None, TheVariants.None as none_before, TheVariants.Some}
pub use native.Mathlib.Nat.{le-mul_of_pos_right, le_of_eq, le_refl, lt_of_le_of_lt, lt_of_lt_of_le, mul_assoc, mul-le-mul_left, mul-le-mul_right, mul-lt-mul_of_pos_left, mul-one, mul-pos, one-le-pow, pow-suc}
pub use native.Mathlib.{Decide.dec_lt, Numerals.add-one, Omega.arith}
pub use lib.Ieee.{Bits.of_bits-fits, Exact.HasValue, Fits.down_pos, Float, Scale.overflow, add, binary32, binary64, down as below, fin, fits, inf, mul, nan, sub, up as above}
pub use lib.IntN.{◌*ℤ◌, ◌+ℤ◌, ◌-ℤ◌, nat_abs, negsuc, neg_ℤ, pos, ℤ}
pub use lib.ListN.{drop, get_or, length, length-append, length-drop, length-map, length-replicate, length-set, length-take, replicate, take}
pub use lib.Seq.{drop-append_seam, ext_get_or, get_or-set_same, get_or-take, length-take-le, map-set_same, take-add, take-append_seam}
pub use lib.{Dec.T, Dec.eqb, Dec.leb, Dec.lit<, Dec.lit≤, Dec.ltb, Pow.pow_mono, Pow.pow_pos, Signed.◌<ℤ◌, Signed.◌≤ℤ◌, Signed.le_z, Signed.lt_z, Signed.lt_z_yes}
unfoldable pub use lib.Ieee.{climb, nan_bits, neg, odd, of_bits, of_fields, of_int, round, span, to_bits}
pub use mir.{Facts.to_z-of_z, Syntax.w64, Val.Val}
pub use denote.{Array.each, Enum.Laws.tells, Shadow.shadow}
pub use borrow.Author.{Rules.rules, Tests.eqb-false, Tests.eqb-true, Tests.le-leb, Tests.le-ltb, Tests.leb-false, Tests.leb-true, Tests.lt-ltb, Tests.ltb-false, Tests.ne_eqb, Tests.not-false}
pub use Rattle.refusal.proofs.OrderLaws.{Among, by-among, by-bind, by_cond, by_last, by_number, by-test, by-then}
pub use Rattle.refusal.proofs.Outcomes.{Other, bind_assoc, bind-good, bind-refused, bind-same, both, good-bind, good-same, good-then, neither, no_value_lem, not-refused, other-number, passed, then-good, then-refused}
pub use Rattle.refusal.specs.Orders.{By, build_order, change_order, check_order, commit_order, compare_order, curve_order, distance_order, fetch_order, index_order, occurs, read_order, reading_order, stream_rows, text_order}
pub use Rattle.refusal.specs.Outcome.{Outcome, ◌>>=◌, ◌>>◌, Ok, refuse◌if◌, Err, tested}
pub use Rattle.refusal.specs.declared.Refusal.TheVariants.{BlankChip, ChangedAlone, EndOutside, LevelTooLow, NoSpan, NoSuch, NotFinite, NotRising, OtherCode, OutOfRange, OutsideSpan, OutsideTable, ShortIndex, SumsNotRising, TooLong}
pub use Rattle.refusal.specs.declared.Refusal.TheVariants.{TooManyPoints, TooManyTerms, WrongBlock, WrongCurve, WrongImage, WrongList, WrongSort, WrongSum, WrongTicks}
pub use Rattle.refusal.specs.Written.{afterwards, written_said}
pub use Rattle.refusal.specs.declared.Refusal.{Refusal}
pub use Rattle.integers.proofs.NearestLaws.{High, Low, nearest-exact, nearest-high, nearest-is, nearest-low, nearest-rises-parts}
pub use Rattle.integers.proofs.PartLaws.{abs-parts, add_parts, dn-neg, is_false, le-le_z, le-lt_z, le_z-parts, lt-le_z, lt_z-parts, mul-parts, nlt_z-parts, parts-<ℤ, parts-≤ℤ, same, sub-parts-ℤ, up_neg}
pub use Rattle.integers.specs.{Nearest.Fraction, Nearest.◌over◌, Parts.dn, Parts.up}
unfoldable pub use Rattle.integers.specs.Nearest.{nearest}
pub use Rattle.memory.proofs.FieldLaws.{field-bit, put-after, put-before, put-field, put-lt}
pub use Rattle.memory.proofs.PieceLaws.{Holds, holds-pack, needed-append, pack-lt, pack-unique}
pub use Rattle.memory.proofs.SumLaws.{all-blank, at-blank, blank-all, blank-at, sums-other, sums-right}
pub use Rattle.memory.proofs.{Chips.sizes-chip, Digits.bit_at, Images.image-bytes, Images.image-length, Images.image-number-lt, Images.image-sums, Images.two-views, Streams.stream-bytes, Streams.stream-lt}
pub use Rattle.memory.specs.Image.{image_bytes, is_good, page_at, sizes_of, stream_bits, stream_number, sums}
pub use Rattle.memory.specs.{Bits.Bytes, Bits.bit, Bits.field_at, Bits.put_at, Pieces.Piece, Pieces.needed, Pieces.pack, Pieces.piece, declared.Sizes.Sizes}
unfoldable pub use Rattle.memory.specs.Image.{blank_from, image_of, image_sizes, page_test, stream_of, sums_from}
pub use Rattle.stream.proofs.Mending.{mended-check}
pub use Rattle.codes.proofs.StoredLaws.{reads-back, stepped-nearest, stored-again}
pub use Rattle.codes.proofs.{ScaleLaws.values-rise, SingleValues.bits-value, SingleValues.size, StepLaws.code-rises, StoringLaws.geometric-by-ratio, StoringLaws.no_less}
pub use Rattle.codes.proofs.Value.TheLaws.{the_laws}
pub use Rattle.codes.specs.Rules.{all_ones, finite, meaning, outside, progression, single_code, stepped_code, stepped_value, top_code, whole_code}
pub use Rattle.codes.specs.declared.Rule.{Rule, TheVariants.Geometric, TheVariants.Plain, TheVariants.Single as Ieee, TheVariants.Stepped}
pub use Rattle.codes.specs.declared.{Row.Row, Scale.Scale, Value.Value, Value.TheVariants.Missing, Value.TheVariants.Single, Value.TheVariants.Whole}
pub use Rattle.codes.specs.{Singles.signed, Stored.AllSound, Stored.Real, Stored.Rising, Units.billion}
unfoldable pub use Rattle.codes.specs.{Rules.decode, Rules.encode, Rules.geometric_value, Rules.goes_up, Rules.stored_at, Singles.nanovolts, Singles.outside_two, Stored.kept}
pub use Rattle.templates.proofs.CurveLaws.{above-five, below-zero, exponent-taken, follows-some, power, power-is, terms-most}
pub use Rattle.templates.proofs.RowLaws.{basic-sound, coefficient-sound, deviation-sound, exponent-sound, lines-sound, point-sound, start-sound}
pub use Rattle.templates.proofs.TemplateFacts.{bits-least, last-most, span_lines, span-listed}
pub use Rattle.templates.proofs.{CalibrationLaws.follows-anywhere, CalibrationLaws.follows-rises, RuleLaws.stepped-whole}
pub use Rattle.templates.specs.Calibration.{D, R, cal_deviation, cal_point, domain_code, is_physical, least_deviation, no_pair, stored_sum}
pub use Rattle.templates.specs.Curves.{coefficient, exponent, exponent_code, exponent_follows, is_segment_count, is_term_count, most_terms, no_segment, no_term, segment_start, start_follows, tenths_before, tenths_of, term_count}
pub use Rattle.templates.specs.Levels.{may_write, rank}
pub use Rattle.templates.specs.Lines.{Line, bits_before, chose, ending, last_field, line_of, number_of, rows_of, template_lines}
pub use Rattle.templates.specs.Rows.{always, bridge_precision, resistance_precision}
pub use Rattle.templates.specs.declared.{Codes.Codes, Curve.Curve, Domain.Domain, Domain.TheVariants.Electrical, Domain.TheVariants.Physical, Layout.Layout}
pub use Rattle.templates.specs.declared.{Level.Level, Level.TheVariants.CalibrationRoom, Level.TheVariants.Maker, Level.TheVariants.Owner, Mark.Mark, Mark.TheVariants.Cal, Mark.TheVariants.Id, Mark.TheVariants.Usr}
pub use Rattle.templates.specs.declared.{Pair.Pair, Segment.Segment, Template.Template, Template.TheVariants.Bridge, Template.TheVariants.Resistance, Term.Term}
unfoldable pub use Rattle.templates.specs.{Calibration.follows, Lines.basic, Lines.lines_of, Lines.template32, Lines.template33}
pub use Rattle.texts.proofs.{Calendar.counted, Calendar.date-37314, Calendar.date-65534, Calendar.date-7306, Calendar.date-789, Calendar.real-date, Turning.code-back, Turning.text-back}
pub use Rattle.texts.specs.{Dates.Date, Dates.days_of_year, Dates.leap, Text.texted}
unfoldable pub use Rattle.texts.specs.{Dates.date_of, Text.code_of, Text.text_of, Text.whose_text}
pub use Rattle.layout.proofs.Accepted.{Accepted, accepted-at, agree, contents-accepted, written-contents}
pub use Rattle.layout.proofs.Calibrations.{CalibrationAt, PairAt, PairsAt, calibration-needed, calibration_pieces, found_pairs_pieces}
pub use Rattle.layout.proofs.CurveTerms.{coefficient-is, exponent-back, exponent-is, exponent-power, terms-rise}
pub use Rattle.layout.proofs.Curves.{SegmentAt, SegmentsAt, TermAt, TermsAt, segments_pieces, terms_pieces}
pub use Rattle.layout.proofs.Endings.{Characters, characters_from, end_pieces, text-needed, zero-needed, zero-pack, zero_if}
pub use Rattle.layout.proofs.Fields.{FieldAt, Laid, found, laid-length, piece_of, plain-field, recoded, row_is, width_is}
pub use Rattle.layout.proofs.{Choices.Steady, Choices.basic-settled, Choices.bits-append, Choices.template-steady, Formats.Parses, Formats.parses-fit, Numbers.parse-other, Numbers.sheet-others, PlaceSteps.fields-end}
pub use Rattle.layout.proofs.{Places.field-at, Places.fields-count, Places.fields-rows, Puts.with_field, Sheets.Formed, Sheets.sheet-needed, Sheets.sheet-parses, Sheets.sheet_pieces}
pub use Rattle.layout.specs.Contents.{Calibration, Contents, Found, FoundPair, FoundSegment, FoundTerm, Passed, bare, behind_segment, codes_in, curve, curve as curve_found, nothing_passed, paired, table, table as table_found}
pub use Rattle.layout.specs.Format.{Format, Parsed, ends, looks, parse, stops, takes}
pub use Rattle.layout.specs.Image.{all_terms, field, figure, float, layout_of, nothing, numbered, pair_in, pairs_in, points, segment_in, segments, segments_in, stream_in, term_in, terms}
pub use Rattle.layout.specs.Pieces.{block_pieces, end_code}
pub use Rattle.layout.specs.Places.{behind_fields, block_bits, curve_bits, first_selector, table_bits}
unfoldable pub use Rattle.layout.specs.Contents.{block_at, calibration_of, characters_of, ending_of, field_of, fields_of, first_block, pair_of, pairs_of, selector_of, sheet_of, table_of}
unfoldable pub use Rattle.layout.specs.{Image.contents, Places.field_place}
pub use Rattle.sheet.proofs.{CurvePlaces.curve-few, ReadLaws.accepted-reads, ReadLaws.fields-are, ReadLaws.refused-reads}
pub use Rattle.sheet.specs.declared.{Summary.Summary}
pub use Rattle.sheet.specs.{Check.domain_in, Check.indexed, Check.summary, Opened.Opens, Opened.opened_as, Reads.ReadsEach, Reads.ReadsNone}
unfoldable pub use Rattle.sheet.specs.Check.{check, read_character, read_field, read_pair, read_segment, read_term}
pub use Rattle.index.proofs.EntryLaws.{entry-rises, lies, of_pair}
pub use Rattle.index.proofs.{FetchLaws.fetch-turned, FetchLaws.fetch-unsized, Fetched.fetched-own, Fetched.read_back, IndexLaws.index_of, IndexLaws.index_same, IndexLaws.index-unread, Laying.bytes_count}
pub use Rattle.index.specs.{Index.choices, Index.entries, Index.entry_at, Index.entry_bytes, Index.field_entry, Index.of_length, Index.pair_entry, Index.row_of_length, Index.template_at, Laid.entry_of, declared.Entry.Entry}
unfoldable pub use Rattle.index.specs.Index.{bits_at, fetch, fetch_in, index}
pub use Rattle.change.proofs.CommitLaws.{Committed, commit-is, commit-unread, committed, propose-unread, stands-fits}
pub use Rattle.change.proofs.Commits.{commit-allowed, commit-bytes, commit-length, commit-made, commit-other, committed-contents, means-stands, propose-is, stands-means}
pub use Rattle.change.proofs.PartLaws.{lent-real}
pub use Rattle.change.proofs.Recoding.{Changeable, change-is, change-made, change-unread, changeable-good, code-found, field-inside, field-sound, made_bytes, made-length, same-value, stored-contents}
pub use Rattle.change.specs.{Change.recoded_in, declared.Proposal.Proposal}
unfoldable pub use Rattle.change.specs.Change.{change, changeable, code_for, commit, may_commit, may_stand, propose, rewritten}
pub use Rattle.build.proofs.{CurvePlans.block-planned, CurvePlans.no-segment, CurvePlans.no-term, CurvePlans.segments-planned, CurvePlans.terms-planned, EndingPlans.fit-characters, EndingPlans.stray_text}
pub use Rattle.build.proofs.{PairPlans.PairPlanned, PairPlans.codes-planned, PairPlans.no-pair, PairPlans.no_table, PairPlans.pairs-length, PairPlans.pairs-planned, PairPlans.table-planned, SegmentPlans.start-planned}
pub use Rattle.build.specs.Build.{Table, as_far_as_64_bits, behind_pieces, build, by_curve, ending_pieces, lent, list_tested, listed, pairs_lent, slot, template_in, unfit}
pub use Rattle.build.specs.declared.{Sheet.Sheet, Slot.Slot}
unfoldable pub use Rattle.build.specs.Build.{build_with, built_in, codes_for, count_tested, curve_pieces, ending_tested, field_pieces, line_pieces, pair_codes, pair_pieces, plan, segment_pieces, start_code, table_pieces, term_pieces}
pub use Rattle.writing.proofs.CallLaws.{Called, called, calls, kind-pages}
pub use Rattle.writing.proofs.StepLaws.{done-there, left-most, left-none, left-two, step-bytes, step-changes, step_fits, step-nearer, step-torn, step-whole, there-done}
pub use Rattle.writing.specs.{Answers.Fits, Chip.Refuses, Chip.Torn, Chip.WantedOrRefused, Chip.after, Numbers.count, Steps.Step, Steps.differing as differing_rows, Steps.differs, Steps.next_row, Steps.step, Steps.write}
pub use Rattle.correction.proofs.Distances.{above-parts, less, near-abs, scaled}
pub use Rattle.correction.proofs.{Bound.bound, Bound.close-conforms, Crossings.crosses, Monotone.crossing-never-falls, Monotone.deviated-never-falls, Order.AtMost, Order.at_most, Order.by_order}
pub use Rattle.correction.proofs.{Sizes.Deviations, Sizes.crossing-within, Sizes.deviation-within, Sizes.nearest-small, Weights.at, Weights.run-some, Weights.weights-num, Weights.weights-run}
pub use Rattle.correction.specs.{Certificate.Close, Certificate.Rises, Certificate.Slopes, Conformity.WithinOf, Crossing.SumsRise, Curve.fraction_of, Line.Correction, Line.at_end}
unfoldable pub use Rattle.correction.specs.Line.{between, certificate_line, correction, correction_after, deviation}
unfoldable pub use Rattle.correction.specs.{Crossing.crossing, Crossing.crossing_after, Crossing.crossing_between, Curve.argument, Curve.coefficients, Curve.fraction_by, Curve.nested}
pub use Rattle.figures.proofs.FigureLaws.{end-within, figure-close, figure-finite, figure-follows, fraction-finite, fraction-rises, value-finite}
pub use Rattle.figures.proofs.{FractionLaws.near-fraction, LineLaws.figure-near-line, Sizes.Within, Sizes.add-within, Sizes.div-within, Sizes.mul-within, Sizes.sub_within, Sizes.whole-within, Sizes.within_more}
pub use Rattle.figures.specs.{Figure.float_fraction, Figures.End, Figures.units}
unfoldable pub use Rattle.figures.specs.Figure.{physical_figure}
pub use Rattle.reading.proofs.Opening.{bridge, calibration-rises, calibration-table, pairs-table}
pub use Rattle.reading.proofs.{Fractions.by-crossing, Fractions.by-deviation, Fractions.fraction-small, Orders.shown, Positions.position-rises, Positions.position-small, Spans.span-ready, Spans.spanned}
pub use Rattle.reading.specs.Reading.{fraction, greatest, is_missing, is_outside, is_resistance, least, physical_fraction, refuse_first, serving_terms, too_far, too_many}
pub use Rattle.reading.specs.declared.{Dash.Dash, Reading.Reading, span.Span.Span}
unfoldable pub use Rattle.reading.specs.Reading.{position, reading_at, serving, span_of, take_reading}
pub use Rattle.distance.proofs.Accepted.{distance-told, least-slope, no-slope, taking, told-by}
pub use Rattle.distance.specs.{Distance.by_slope, Distance.steepest, declared.CertificateBound.CertificateBound}
unfoldable pub use Rattle.distance.specs.Distance.{distance}
pub use Rattle.conformity.proofs.{Bounds.greatest-attained, Bounds.greatest-least, Bounds.greatest-within, Orders.compared-from, Orders.compares, Orders.compares-refused, Orders.straight-points}
pub use Rattle.conformity.specs.Conformity.{compared, compared_with, greatest_difference, straight_table}
unfoldable pub use Rattle.conformity.specs.Conformity.{conformity}
pub use Rattle.recordings.specs.Recordings.{unlike}
unfoldable pub use Rattle.recordings.specs.Recordings.{compare}
pub use Rattle.promises.specs.Again.{BitsNeeded, BridgeBits, InDomain, RebuiltFromReads, RebuiltSameBytes, ResistanceBits, SameSheet, TableReadOff, WrittenAndReadAgain, ZeroEndsText, behind_bits, domain_lent}
pub use Rattle.promises.specs.Again.{kept_all, kept_domain, kept_pair, kept_points, kept_segment, kept_segments, kept_terms, segments_lent, sheet_read, table_read, terms_in, terms_lent, turns}
pub use Rattle.promises.specs.Alterations.{AfterAlterations, Alteration, AltersNoOther, Change, ChangeAltersNoOther, ChangedToTheSame, Commit, CommitAltersNoOther, RealAlteration, RealAlterations, altered}
pub use Rattle.promises.specs.Alterations.{altered_by, change_in, changed_by, changes, commit_in, commits, committed_by, held, held_by, left, replaced}
pub use Rattle.promises.specs.AlterationsLent.{EveryListLent, alteration_lent, alteration_of, alterations_before, alterations_lent, change_of, commit_of, content_at, field_in, kind_in, level_in, level_lent, level_number}
pub use Rattle.promises.specs.AlterationsLent.{new_in, present_in, single_in, single_of, sort_in, sort_of, target_at, value_at, value_of_sort, whole_in, whole_of}
pub use Rattle.promises.specs.Certificate.{CertificateDistance, DifferenceAbove, EndsRise, LentPointsRise, Straight, greatest_in, least_in, line_for, whole}
pub use Rattle.promises.specs.Conformity.{BeforehandIsKept, BoundTight, Conforms, FigureConforms, NoAlterationMoves}
pub use Rattle.promises.specs.Deviations.{AllWithin, DeviationWithin, FirstHolds, LastHolds}
pub use Rattle.promises.specs.Figure.{CertificateFigure, CurveShownNear, DistanceFigure, FigureStraysAtMost, FigureWithin, FractionAtMost, NoCurve, ShownFinite, ShownFollows, ShownNear, ShownRises}
pub use Rattle.promises.specs.Figure.{ShownRisesByPhysicalPoint, greatest_fraction, high, high_in, low, low_in, single}
pub use Rattle.promises.specs.Index.{FetchedAfterChanges, FetchedAsRead, IndexFits, IndexKept, IndexSorted, RefusedAlike}
pub use Rattle.promises.specs.Levels.{BuildAsksNoLevel, FieldsOfLevels, HigherMayToo, LevelsNest, LowerRefused, MakerAsBefore, NotHeld, RefusedOnlyThere, RefusedTo, at_level}
pub use Rattle.promises.specs.Proposals.{CommitAfterAnother, CommitStores, ProposalRefused, ProposedThenCommitted}
pub use Rattle.promises.specs.Refusals.{NeverFifteen, NeverZero, ReadsByOrder, RefusedByOrder, WritesByOrder}
pub use Rattle.promises.specs.Writing.{DoneExactly, Ends, Reached, RefusedBySums, Resumes, Safe, Sparing, carried_out, differing, enough, next, start, torn, writes}
pub use Rattle.promises.specs.{Attained.ConformityAttained, Attained.NearlyAttained, Beforehand.DistanceBeforehand, Beforehand.StraysAtMost, Beforehand.ToldWhereBuilt, Blank.AllBlank, Blank.NamedBlank}
pub use Rattle.promises.specs.{Calls.Answered, Calls.made, Crossing.CrossingFromLent, Crossing.CrossingShown, Crossing.OnlyCrossing, Crossing.position_in}
pub use Rattle.promises.specs.{Curves.AllAbove, Curves.LastSegmentServes, Curves.Serves, Curves.StartsRise, Curves.start_of, Edges.Edges, Edges.Examples, Geometric.EncodedByRatio, Grammar.OneGrammar, Grammar.laid}
pub use Rattle.promises.specs.{Images.ImageToStream, Images.StreamSizes, Images.StreamToImage, Lent.AllReal, Lent.AllRealTerms, Lent.Lendable, Lent.LendableCurve, Lent.LendableTable}
pub use Rattle.promises.specs.{Monotone.MonotoneByPhysicalPoint, Monotone.NeverDrops, Monotone.NeverFalls, Monotone.ReadingMonotone, Readings.SmallShowsLarge, Readings.SmallTakesFew}
pub use Rattle.promises.specs.{Reads.BitsBehindNotJudged, Reads.ReadByIndex, Rounding.DeviationHalvesUp, Rounding.HalvesUp, Rounding.NearestHalvesUp, Rounding.PositionHalvesUp}
pub use Rattle.promises.specs.{Singles.NanovoltsOfBits, Singles.digits, Singles.exponent_field, Singles.is_negative, Singles.units_of, Stream.FirstBitLowest, Stream.Puts, Stream.StreamBit}
pub use Rattle.promises.specs.{Texts.Calendar, Texts.Day, Texts.LeapYears, Texts.TextAndCode, declared.Answers.Answers, declared.lent.Content.Content, declared.lent.Target.Target}
unfoldable pub use Rattle.promises.specs.Levels.{change_as_before}
pub use Rattle.refusal.specs.Rows.{row_number}
