-- What the proofs of this crate take from the kit, from the crates below and from its own definitions.
pub use Prim.Native.Nat.{◌%◌, ◌*◌, ◌+◌, ◌-◌, ◌/◌, ◌<◌, ◌^◌, ◌≤◌, suc, zero, ℕ}
pub use mathlib.Core.{Bool.Bool, Bool.◌&&◌, Bool.◌||◌, Bool.cond, Bool.false, Bool.not, Bool.true, Bool.true≢false, List.List, List.[], List.◌++◌, List.◌∷◌, List.append_assoc, List.append-nil, List.map}
pub use mathlib.Core.{Path.◌∙◌, Path.◌≡◌, Path.ap, Path.ap₂, Path.refl, Path.subst, Path.subst₂, Path.sym}
pub use Rattle.std.specs.declared.option.Option.{Option, TheVariants.None, TheVariants.None as none_before, TheVariants.Some}
pub use native.Mathlib.{Decide.dec_lt, Nat.zero-add, Omega.arith}
pub use lib.ListN.{drop, get_or, length, length-append, set, take}
pub use lib.{Dec.eqb, Dec.leb, Dec.leb-suc-suc as leb-suc-suc, Dec.ltb, Ieee.binary32, Ieee.of_bits, IntN.◌*ℤ◌, IntN.nat_abs, IntN.pos, IntN.ℤ, Pow.high, Pow.low, Signed.le_z}
pub use borrow.Author.{Rules.rules, Tests.eq-eqb, Tests.eqb-false, Tests.eqb-true, Tests.le-leb, Tests.le-ltb, Tests.leb-true, Tests.lt-leb, Tests.lt-ltb, Tests.ltb-false, Tests.ne_eqb, Tests.not-false}
pub use Rattle.refusal.proofs.Outcomes.{Elsewhere, Other, bind_assoc, both, good-bind, good-same, good-then, other-cond, other_test, other-then, passed, said_of, same_of, then-good, then-refused}
pub use Rattle.refusal.specs.declared.Refusal.TheVariants.{NotFinite, NotRising, OutsideTable, PastEnd, SumsNotRising, TooManyTerms, WrongBlock, WrongCurve}
pub use Rattle.refusal.specs.{Outcome.Outcome, Outcome.Ok, Outcome.Err, declared.Refusal.Refusal}
pub use Rattle.memory.proofs.PieceLaws.{Fit, Holds, fit-split, holds-back, holds-cons, holds-front, holds-mod, holds-nil, holds-piece, holds-put, holds-uncons, needed-append, pack-append}
pub use Rattle.memory.proofs.{Chips.sizes-chip, FieldLaws.field-add, FieldLaws.field-bit, FieldLaws.field_lt, Images.image-length, Images.image-number-lt, Images.image-passes}
pub use Rattle.memory.specs.Image.{image_of, image_sizes, stream_bits, stream_number, sums}
pub use Rattle.memory.specs.{Bits.bit, Bits.field_at, Bits.put_at, Pieces.Piece, Pieces.needed, Pieces.pack, Pieces.piece, declared.Sizes.Sizes}
pub use Rattle.codes.specs.declared.Rule.{Rule, TheVariants.Geometric, TheVariants.Plain, TheVariants.Single, TheVariants.Stepped}
pub use Rattle.codes.specs.declared.{Row.Row, Value.Value, Value.TheVariants.Whole}
pub use Rattle.codes.specs.{Rules.all_ones, Rules.finite, Rules.meaning, Rules.stepped_value, Rules.top_code, Validity.Open, Validity.judge}
unfoldable pub use Rattle.codes.specs.Rules.{decode}
pub use Rattle.templates.proofs.CalibrationLaws.{code-domained, domain-coded, domain-most, sum-climbs, sum_above}
pub use Rattle.templates.proofs.CurveLaws.{follows-some, power, power-back, power-is, power-rises}
pub use Rattle.templates.proofs.TemplateFacts.{bits-few, known-number, last-most, number-known, number_lt}
pub use Rattle.templates.proofs.{OpenLaws.row_open, RuleLaws.plain-bounds, RuleLaws.plain-good, RuleLaws.stepped-whole}
pub use Rattle.templates.specs.Calibration.{D, R, cal_deviation, cal_domain, cal_point, codes_of, domain_code, domain_of, is_physical, least_deviation, point_count, stored_sum}
pub use Rattle.templates.specs.Lines.{Line, bits_before, chose, ending, last_field, line_of, no_line, number_of, row_of, rows_of, template_lines, template_of}
pub use Rattle.templates.specs.declared.Template.{Template, TheVariants.Bridge, TheVariants.Resistance}
pub use Rattle.templates.specs.declared.{Codes.Codes, Domain.Domain, Domain.TheVariants.Electrical, Domain.TheVariants.Physical, Layout.Layout, Term.Term}
pub use Rattle.templates.specs.{Curves.coefficient, Curves.curve_domain, Curves.exponent, Curves.exponent_follows, Curves.is_exponent, Curves.is_segment_count, Curves.is_term_count, Curves.least_exponent}
pub use Rattle.templates.specs.{Curves.most_terms, Curves.segment_count, Curves.segment_start, Curves.start_follows, Curves.tenths_before, Curves.tenths_of, Curves.term_count, Rows.always}
unfoldable pub use Rattle.templates.specs.{Calibration.follows, Lines.basic, Lines.lines_of, Lines.template32, Lines.template33}
pub use Rattle.layout.specs.Contents.{Calibration, Contents, Ending, Found, FoundPair, FoundSegment, FoundTerm, Passed, bare, behind_segment, behind_term, block_of, codes_in, curve, named, nothing_passed, paired, table}
pub use Rattle.layout.specs.Format.{Format, Parsed, Stream, ◌>>=◌, ◌>>◌, bits, ends, given, looks, parse, place, reject◌if◌, stops, takes}
pub use Rattle.layout.specs.Image.{all_terms, field, figure, float, last_choice, layout_of, nothing, pairs_in, segments_in, stream_in, term_in}
pub use Rattle.layout.specs.Judgement.{front_lines, judged}
pub use Rattle.layout.specs.Pieces.{block_pieces, end_code}
pub use Rattle.layout.specs.Places.{behind_block, behind_fields, block_bits, curve_bits, first_number, first_selector, pair_bits, pair_place, table_bits}
unfoldable pub use Rattle.layout.specs.Contents.{block_at, calibration_of, characters_of, curve_of, ending_of, field_of, fields_of, first_block, pair_of, pairs_of, ruled_of, segment_of, segments_of, selector_of, sheet_of}
unfoldable pub use Rattle.layout.specs.Contents.{table_of, term_of, terms_of}
unfoldable pub use Rattle.layout.specs.{Format.repeated, Image.contents, Places.field_place}
pub use Rattle.refusal.specs.Rows.{row_number}
