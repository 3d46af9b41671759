-- What the proofs of this crate take from the kit, from the crates below and from its own definitions.
pub use Prim.Native.Nat.{◌%◌, ◌*◌, ◌+◌, ◌-◌, ◌/◌, ◌<◌, ◌^◌, ◌≤◌, suc, zero, ℕ}
pub use mathlib.Core.{Bool.Bool, Bool.◌&&◌, Bool.◌||◌, Bool.false, Bool.not, Bool.true, List.List, List.[], List.◌++◌, List.◌∷◌, List.map-append, List.append_assoc, List.append-nil, List.map, Logic.◌≢◌, Logic.⊎_elim}
pub use mathlib.Core.{Path.◌∙◌, Path.◌≡◌, Path.ap, Path.ap₂, Path.refl, Path.subst, Path.sym}
pub use Rattle.std.specs.declared.option.Option.{Option, TheVariants.None, TheVariants.Some}
pub use native.Mathlib.{Decide.dec_le, Decide.ℕ_discrete, Nat.add_comm, Nat.lt_of_not-le, Nat.lt_of_lt_of_le, Nat.mul_assoc, Nat.zero-mul, Numerals.add-one, Omega.arith}
pub use lib.Bits.{and_mask, bit_and, bit_or, or_shifted, or_shifted_r}
pub use lib.ListN.{get_or-append, get_or-map, drop, drop_of_length-le, get_or, get_or-replicate, length, length-append, length-drop, length-map, length-replicate, length-set, replicate, set, take, take-append-drop}
pub use lib.Seq.{drop-append-le, drop-cons, drop-drop, get_or-append-add, get_or-drop, get_or-set_other, get_or-set_same, get_or-take, length-take-le, slice, slice-cons, slice_empty, take_all, take-append-add, take-append-le, take-take}
pub use lib.{Arith.digits_lt, Dec.eqb, Dec.leb, Dec.ltb, Ieee.Float, Ieee.nan, IntN.◌*ℤ◌, IntN.pos, IntN.ℤ, Pow.pow-add, Pow.pow_mono, Pow.shl_exact, Signed.lt_z}
pub use mir.{Facts.to_z-of_z, Syntax.w64, Val.SFits, Val.bool_byte, Val.of_z, Val.to_z}
pub use borrow.Author.{Rules.rules, Tests.eq-eqb, Tests.eqb-false, Tests.le-ltb, Tests.leb-true, Tests.lt-ltb, Tests.ltb-false, Tests.ltb-true, Tests.ne_eqb, Tests.not-false}
pub use Rattle.refusal.proofs.Outcomes.{bind_assoc, bind-good, bind-refused, bind-same, both, good-bind, good-same, good-then, neither, no_value_lem, not-refused, passed, said_of, same_of, then-good, then-refused}
pub use Rattle.refusal.proofs.WrittenLaws.{written-done, written-refused}
pub use Rattle.refusal.specs.Outcome.{Outcome, ◌>>=◌, ◌>>◌, Ok, refuse◌if◌, Err}
pub use Rattle.refusal.specs.{declared.Refusal.TheVariants.OutOfRange, declared.Refusal.TheVariants.TooLong, declared.Refusal.TheVariants.TooManyTerms, declared.Refusal.TheVariants.WrongCurve, declared.Refusal.TheVariants.WrongList, declared.Refusal.TheVariants.WrongSort, declared.Refusal.Refusal}
pub use Rattle.memory.proofs.PieceLaws.{needed-append, pack-append, pack-lt}
pub use Rattle.memory.proofs.{Chips.sizes-chip, Chips.sizes-whole, Streams.stream_at, Streams.stream-length, Written.put-bytes, Written.put-stream, Written.put_whole}
pub use Rattle.memory.specs.Image.{image_bytes, image_of, image_sizes, stream_bits, stream_number, stream_of}
pub use Rattle.memory.specs.{Answers.stream_index, Bits.number, Laid.put_in, Pieces.Piece, Pieces.needed, Pieces.pack, Pieces.piece, declared.Sizes.Sizes}
pub use Rattle.stream.{proofs.Laying.put-free, specs.Answers.InStream, specs.declared.cursor.Cursor.Cursor}
pub use Rattle.codes.proofs.{CodeLaws.below-2^32, Lent.lent-real, StoredLaws.reads-back}
pub use Rattle.codes.specs.declared.Value.{Value, TheVariants.Missing, TheVariants.Single, TheVariants.Whole}
pub use Rattle.codes.specs.declared.{Row.Row}
pub use Rattle.codes.specs.{DirectCode.DirectCode, Rules.encode, Stored.AllSound, Stored.Real, Stored.Sound}
pub use Rattle.templates.proofs.CalibrationLaws.{domain-most}
pub use Rattle.templates.proofs.CurveLaws.{above-five, below-zero, between, exponent-coded, terms-most}
pub use Rattle.templates.proofs.RowLaws.{coefficient-sound, deviation-sound, exponent-sound, point-sound, row-sound, rows-sound, start-sound}
pub use Rattle.templates.proofs.TemplateFacts.{back-listed, back-same, basic-five, basic-most, front-most, front_same, last-most, number_lt, span-listed}
pub use Rattle.templates.specs.Calibration.{cal_deviation, cal_point, codes_of, domain_code, follows}
pub use Rattle.templates.specs.Curves.{coefficient, exponent, exponent_code, exponent_follows, is_exponent, is_segment_count, is_term_count, most_terms, segment_count, segment_start, start_follows, tenths_before, tenths_of}
pub use Rattle.templates.specs.Curves.{term_count}
pub use Rattle.templates.specs.Lines.{Line, bits_before, chose, ending, last_field, line_of, no_line, number_of, row_of, rows_of, template_lines}
pub use Rattle.templates.specs.declared.{Codes.Codes, Curve.Curve, Domain.Domain, Layout.Layout, Level.Level, Pair.Pair, Segment.Segment, Template.Template, Template.TheVariants.Bridge, Term.Term}
unfoldable pub use Rattle.templates.specs.Lines.{basic, lines_of}
pub use Rattle.layout.{proofs.Choices.Steady, proofs.Choices.lines-steady, proofs.Endings.Characters, proofs.Endings.text-needed, specs.Pieces.block_pieces, specs.Pieces.end_code, specs.Places.table_bits}
pub use Rattle.build.specs.Build.{Table, as_far_as_64_bits, behind_pieces, by_curve, ending_pieces, lent, list_tested, listed, pairs_lent, slot, template_in, unfit}
pub use Rattle.build.specs.Filled.{Begun, Filled, Free, Room}
pub use Rattle.build.specs.Listed.{BitString, BlockPlanned, Fit, Fitting, Ready, bit_string, blank, both_listed, coded_list, coded_sheet, field_piece, finished, first_codes, unpack, unpacked}
pub use Rattle.build.specs.Tested.{CodedTo, Encodes, FieldsCoded, FieldsPlanned, FrontPlanned, LentLengths, PairCoded, Quick, SheetPlanned, SplitValues, by_sort, coded, coded_from, fields_lent, pair_at}
pub use Rattle.build.specs.Tested.{sheet_lent, slots_lent, tested, two_said, value_lent, whole_curve}
pub use Rattle.build.specs.declared.list.{CodedField.CodedField, Listed.Listed}
pub use Rattle.build.specs.declared.{Options.Options, Sheet.Sheet, Slot.Slot}
unfoldable pub use Rattle.build.specs.Build.{build_with, built_in, codes_for, count_tested, curve_pieces, ending_tested, field_pieces, line_pieces, pair_codes, pair_pieces, plan, segment_pieces, start_code, table_pieces}
unfoldable pub use Rattle.build.specs.Build.{term_pieces}
unfoldable pub use Rattle.build.specs.{Listed.block_head, Listed.fitted, Tested.segment_fields, Tested.term_fields}
