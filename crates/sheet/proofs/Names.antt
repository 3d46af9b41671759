-- What the proofs of this crate take from the kit, from the crates below and from its own definitions.
pub use Prim.Native.Nat.{◌%◌, ◌*◌, ◌+◌, ◌-◌, ◌/◌, ◌<◌, ◌^◌, ◌≤◌, suc, zero, ℕ}
pub use mathlib.Core.Path.{◌∙◌, ◌≡◌, ap, ap₂, refl, subst, sym}
pub use mathlib.Core.{Bool.Bool, Bool.cond, Bool.false, Bool.not, Bool.true, List.List, List.[], List.◌++◌, List.◌∷◌, List.map, Logic.◌⊎◌, Logic.inl, Logic.inr, Logic.⊎_elim}
pub use Rattle.std.specs.declared.option.Option.{Option, TheVariants.None, TheVariants.Some}
pub use native.Mathlib.{Decide.dec_lt, Omega.arith}
pub use lib.ListN.{get_or-map, drop, get_or, length, length-append, length-map, take}
pub use lib.{Bits.and_mask, Bits.mask_lt, Dec.eqb, Dec.leb, Dec.ltb, Ieee.Float, IntN.nat_abs, IntN.pos, IntN.ℤ, Pow.high, Pow.low, Seq.drop_at, Seq.drop-cons, Seq.take_at}
pub use mir.{Facts.to_z-of_z, Syntax.w64}
pub use borrow.Author.{Rules.rules, Tests.eq-eqb, Tests.le-leb, Tests.le-ltb, Tests.leb-false, Tests.leb-true, Tests.lt-leb, Tests.lt-ltb, Tests.ltb-false, Tests.ne_eqb}
pub use Rattle.refusal.proofs.Outcomes.{bind_assoc, bind-same, good-bind, good-same, no_value_lem, said_of, same_of, then-good, then-refused}
pub use Rattle.refusal.specs.declared.Refusal.TheVariants.{BlankChip, NoSuch, PastEnd, TooManyTerms, WrongBlock, WrongCurve, WrongImage, WrongSum}
pub use Rattle.refusal.specs.{Outcome.Outcome, Outcome.Ok, Outcome.Err, declared.Refusal.Refusal}
pub use Rattle.memory.proofs.{Chips.sizes-chip, Chips.sizes-whole, FieldLaws.field-add, FieldLaws.field_lt}
pub use Rattle.memory.specs.declared.{Sizes.Sizes}
pub use Rattle.memory.specs.{Answers.WholeImage, Bits.field_at, Image.image_bytes, Image.sizes_of, Image.stream_bits, Image.stream_number, Image.sums}
unfoldable pub use Rattle.memory.specs.Image.{image_sizes}
pub use Rattle.stream.specs.{Answers.Step, Answers.taken_said, declared.cursor.Cursor.Cursor}
unfoldable pub use Rattle.stream.specs.Answers.{taken_at}
pub use Rattle.codes.proofs.{DecodeLaws.stood, DecodeLaws.turned, FloatLaws.no_number}
pub use Rattle.codes.specs.declared.{Row.Row, Rule.TheVariants.Stepped, Value.Value, Value.TheVariants.Missing}
pub use Rattle.codes.specs.{Rules.all_ones, Rules.decode, Rules.stepped_value, Stored.Sound, Unscaled.Unscaled, Validity.Open, Validity.judge}
pub use Rattle.templates.proofs.RowLaws.{coefficient-sound, count-sound, curve-domain-sound, deviation-sound, domain-sound, exponent-sound, point-sound, row-sound, segment-count-sound, start-sound, term-count-sound}
pub use Rattle.templates.proofs.{CalibrationLaws.sum_above, CurveLaws.terms-most, RuleLaws.stepped-whole, TemplateFacts.basic-most, TemplateFacts.last-most, TemplateFacts.span_lines, TemplateFacts.span-listed}
pub use Rattle.templates.specs.Calibration.{D, R, cal_deviation, cal_domain, cal_point, codes_of, domain_of, follows, least_deviation, no_pair, point_count}
pub use Rattle.templates.specs.Curves.{coefficient, curve_domain, exponent, is_segment_count, is_term_count, most_terms, no_segment, no_term, segment_count, segment_start, start_follows, term_count}
pub use Rattle.templates.specs.Lines.{Line, basic, chose, last_field, line_of, no_line, row_of, template_lines}
pub use Rattle.templates.specs.declared.Template.{Template, TheVariants.Bridge, TheVariants.Resistance}
pub use Rattle.templates.specs.declared.curves.CurveField.{CurveField, TheVariants.Exponent, TheVariants.SegmentCount, TheVariants.Start, TheVariants.TermCount}
pub use Rattle.templates.specs.declared.{Codes.Codes, Domain.Domain, Domain.TheVariants.Physical, Layout.Layout, Term.Term}
pub use Rattle.templates.specs.{CurveRules.curve_row, CurveRules.curve_rule, Open.OpenBehind, Rows.always, Rows.bridge_end}
unfoldable pub use Rattle.templates.specs.Lines.{lines_of}
pub use Rattle.layout.proofs.Curves.{SegmentsAt, drawn, rises, segment, taken_by, term, with_coefficient, with_count, with_terms}
pub use Rattle.layout.proofs.Judging.{JudgedUpTo, basic-end, basic-judged, behind-open, block-named, block-unknown, choice-place, come-halt, come-inside, come-next, come-open, front-end, last-open, last-sets, own-judged}
pub use Rattle.layout.proofs.Judging.{wrong-selector}
pub use Rattle.layout.proofs.Rising.{Admits, admits-first, admits-next, codes_from, not-physical, pair-rises, pair_from}
pub use Rattle.layout.proofs.Standing.{PairStands, character-here, field-stands, pair-here, stands-parse}
pub use Rattle.layout.proofs.{Accepted.Holding, Accepted.accepted-at, Accepted.contents-accepted, Calibrations.CalibrationAt, Calibrations.following, Choices.basic-last, Choices.last-append}
pub use Rattle.layout.proofs.{CurvePlaces.CurveStands, CurvePlaces.SegmentStands, CurvePlaces.TermStands, CurvePlaces.curve-here, Fields.found, Fields.laid-length, Fields.laid-pieces}
pub use Rattle.layout.proofs.{Formats.parse-bind, Formats.parse-next, Formats.parse-refused, Formats.parse-split, Formats.parsed, Formats.parsed-by, PlaceSteps.end-few, PlaceSteps.table-least}
pub use Rattle.layout.proofs.{Places.fields-count, Places.get-back, Places.get-front, Sheets.after_basics, Sheets.after_block, Sheets.after_calibration, Sheets.after_own, Sheets.made}
pub use Rattle.layout.specs.Contents.{Calibration, Contents, Ending, Found, FoundPair, FoundSegment, FoundTerm, Passed, bare, behind_segment, behind_term, block_of, codes_in, curve, first_block, nothing_passed, paired, table}
pub use Rattle.layout.specs.Format.{Format, Parsed, Stream, ◌>>=◌, ◌>>◌, bits, ends, given, parse, place, reject◌if◌, remaining, stops}
pub use Rattle.layout.specs.Image.{all_terms, field, figure, float, last_choice, layout_of, no_found, nothing, pair_in, pairs_in, points, segment_in, segments, segments_in, stream_in, term_in, terms}
pub use Rattle.layout.specs.Judgement.{front_lines, judged}
pub use Rattle.layout.specs.Places.{behind_block, behind_fields, character_place, curve_bits, field_place, first_selector, pair_bits, pair_place, table_bits, table_start, term_bits}
unfoldable pub use Rattle.layout.specs.Contents.{block_at, calibration_of, characters_of, curve_of, ending_of, field_of, fields_of, pair_of, pairs_of, ruled_of, segment_of, segments_of, selector_of, sheet_of, table_of, term_of, terms_of}
unfoldable pub use Rattle.layout.specs.Format.{repeated}
unfoldable pub use Rattle.layout.specs.Image.{contents}
pub use Rattle.sheet.specs.Check.{domain_in, indexed, summary}
pub use Rattle.sheet.specs.Opened.{Held, Opens, counted, opened_as, opened_at}
pub use Rattle.sheet.specs.Reads.{ReadsEach, ReadsNone}
pub use Rattle.sheet.specs.Walk.{Coded, EndCount, Roomy, TermCodes, basic_choice, behind, behind_segments, block_opened, step_said, calibration_opened, choice_on, code_said, coded, count_behind}
pub use Rattle.sheet.specs.Walk.{step_said, counts_of, end_count, end_said, ending_opened, keeping, layout_at, mark_of, mark_said, number_in, only_block, opened_of, own_choice, own_judged, own_opened}
pub use Rattle.sheet.specs.Walk.{own_start, passed, passed_by, segment_at, segment_end, segment_step_said, stood_to, table_from, template_step_said, term_at, term_place, terms_behind, value_in, walked}
pub use Rattle.sheet.specs.declared.block.{Counts.Counts}
pub use Rattle.sheet.specs.declared.opening.{Item.Item, Item.TheVariants.Character, Item.TheVariants.Pair, Item.TheVariants.Segment, Opened.Opened}
unfoldable pub use Rattle.sheet.specs.{Check.check, Check.read_character, Check.read_field, Check.read_pair, Check.read_segment, Check.read_term, Opened.opened}
