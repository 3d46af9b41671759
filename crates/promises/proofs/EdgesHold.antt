-- Proof of the cases of "Edges": by computation, and the dates by the law of the calendar.
use Rattle.promises.proofs.Names.{refl, lit≤, of_int, to_bits, of_bits, nan_bits, of_fields, round, odd, span, climb, neg, nearest, image_sizes, page_test, blank_from, sums_from, stream_of, image_of, decode, encode}
use Rattle.promises.proofs.Names.{geometric_value, goes_up, stored_at, basic, template33, template32, lines_of, follows, outside_two, nanovolts, field_of, fields_of, selector_of, first_block, pair_of, pairs_of, table_of}
use Rattle.promises.proofs.Names.{block_at, calibration_of, characters_of, ending_of, sheet_of, contents, codes_for, line_pieces, field_pieces, ending_tested, pair_codes, pair_pieces, table_pieces, plan, built_in, build_with}
use Rattle.promises.proofs.Names.{changeable, code_for, rewritten, change, may_stand, may_commit, commit, crossing, crossing_after, crossing_between, between, correction_after, correction, deviation, certificate_line}
use Rattle.promises.proofs.Names.{span_of, position, reading_at, take_reading, distance, conformity, date-789, date-7306, date-37314, date-65534, Edges, Examples, NearlyAttained, ConformityAttained}
use lib.Ieee.{units, size, add, sub, mul, div, sum}
use Rattle.build.specs.Build.{term_pieces, count_tested, start_code, segment_pieces, curve_pieces}
use Rattle.layout.specs.Format.{repeated}
use Rattle.layout.specs.Contents.{ruled_of, term_of, terms_of, segment_of, segments_of, curve_of}
use Rattle.correction.specs.Curve.{coefficients, nested, argument, fraction_by}
use Rattle.figures.specs.Figure.{physical_figure}
use Rattle.reading.specs.Reading.{serving}

pub edges : Edges
unfolding encode decode nearest line_pieces basic position deviation correction correction_after between
edges = (refl, (refl, (refl, (refl, (refl, (date-789, (date-7306, (date-37314, (date-65534, (refl, (refl, (refl, (refl, (refl, tt))))))))))))))

pub examples : Examples
unfolding encode decode nearest geometric_value goes_up stored_at line_pieces field_pieces basic template33 template32 lines_of follows position deviation correction correction_after between crossing crossing_after crossing_between build_with built_in plan ending_tested pair_codes pair_pieces codes_for table_pieces image_sizes image_of changeable code_for rewritten change may_stand may_commit commit contents page_test blank_from sums_from stream_of field_of fields_of selector_of first_block pair_of pairs_of table_of block_at calibration_of characters_of ending_of sheet_of outside_two nanovolts span_of reading_at take_reading of_int to_bits of_bits nan_bits of_fields round units odd span climb size neg term_pieces count_tested start_code segment_pieces curve_pieces ruled_of term_of terms_of segment_of segments_of curve_of repeated serving coefficients nested argument fraction_by physical_figure add sub mul div sum
examples = (refl, (refl, (refl, (refl, (refl, (refl, (refl, (refl, (refl, (refl, (refl, (refl, (refl, (refl, (refl, (refl, (refl, (refl, tt))))))))))))))))))

pub nearly-attained : NearlyAttained
unfolding certificate_line correction correction_after between
nearly-attained = ((lit≤ tt, tt), lit≤ tt)

pub conformity-attained : ConformityAttained
unfolding encode decode nearest geometric_value goes_up stored_at line_pieces field_pieces basic template33 template32 lines_of follows position deviation correction correction_after between crossing crossing_after crossing_between build_with built_in plan ending_tested pair_codes pair_pieces codes_for table_pieces image_sizes image_of changeable code_for rewritten change may_stand may_commit commit contents page_test blank_from sums_from stream_of field_of fields_of selector_of first_block pair_of pairs_of table_of block_at calibration_of characters_of ending_of sheet_of outside_two nanovolts span_of reading_at take_reading of_int to_bits of_bits nan_bits of_fields round units odd span climb size neg certificate_line conformity distance
conformity-attained = (refl, refl, lit≤ tt)
