-- include/dartelm.h, call by call: which call of documents
-- 01 and 02 it is, and the struct for its outcome.
use Rattle.std.specs.Prelude.{Bool, true, false, cond, List, [], ℕ, ℤ, pos}
use Rattle.refusal.specs.Outcome.{Outcome, Ok, Err}
use Rattle.memory.specs.declared.Sizes.{Sizes}
use Rattle.memory.specs.Image.{image_sizes, page_bytes}
use Rattle.codes.specs.declared.Value.TheVariants.{Whole}
use Rattle.templates.specs.declared.Curve.{Curve}
use Rattle.templates.specs.Calibration.{domain_of}
use Rattle.texts.specs.Text.{text_of, code_of}
use Rattle.sheet.specs.Check.{check, read_field, read_pair, read_segment, read_term, read_character}
use Rattle.index.specs.Index.{index, fetch}
use Rattle.build.specs.Build.{build, build_curve}
use Rattle.change.specs.Change.{change, propose, commit}
use Rattle.reading.specs.Reading.{take_reading}
use Rattle.recordings.specs.Recordings.{compare}
use Rattle.distance.specs.Distance.{distance}
use Rattle.conformity.specs.Conformity.{conformity}
use Rattle.writing.specs.Steps.{next_row}
use Rattle.dartelm.specs.declared.values.DartelmValue.{DartelmValue}
use Rattle.dartelm.specs.declared.values.DartelmFields.{DartelmFields}
use Rattle.dartelm.specs.declared.answers.DartelmCheckAnswer.{DartelmCheckAnswer}
use Rattle.dartelm.specs.declared.answers.DartelmFieldAnswer.{DartelmFieldAnswer}
use Rattle.dartelm.specs.declared.answers.DartelmPairAnswer.{DartelmPairAnswer}
use Rattle.dartelm.specs.declared.answers.DartelmSegmentAnswer.{DartelmSegmentAnswer}
use Rattle.dartelm.specs.declared.answers.DartelmTermAnswer.{DartelmTermAnswer}
use Rattle.dartelm.specs.declared.answers.DartelmCharacterAnswer.{DartelmCharacterAnswer}
use Rattle.dartelm.specs.declared.answers.DartelmProposalAnswer.{DartelmProposalAnswer}
use Rattle.dartelm.specs.declared.answers.DartelmReadingAnswer.{DartelmReadingAnswer}
use Rattle.dartelm.specs.declared.answers.DartelmComparedAnswer.{DartelmComparedAnswer}
use Rattle.dartelm.specs.declared.answers.DartelmDistanceAnswer.{DartelmDistanceAnswer}
use Rattle.dartelm.specs.declared.answers.DartelmConformityAnswer.{DartelmConformityAnswer}
use Rattle.dartelm.specs.declared.answers.DartelmRowAnswer.{DartelmRowAnswer}
use Rattle.dartelm.specs.declared.answers.DartelmTextAnswer.{DartelmTextAnswer}
use Rattle.dartelm.specs.declared.answers.DartelmCodeAnswer.{DartelmCodeAnswer}
use Rattle.dartelm.specs.declared.answers.DartelmPageAnswer.{DartelmPageAnswer}
use Rattle.dartelm.specs.Values.{level_of, dash_by, value_of, sheet_of}
use Rattle.dartelm.specs.Answers.{struct_by, struct_of, numbers, no_numbers, check_answer, field_answer, pair_answer, no_pair, segment_answer, no_segment, term_answer, no_term, character_answer, proposal_answer, no_proposal}
use Rattle.dartelm.specs.Answers.{reading_answer, no_reading, compared_answer, no_comparison, distance_answer, no_distance, conformity_answer, no_conformity, text_answer, code_answer, page_answer, row_answer, no_row}

-- The version of this archive and its header.
abbrev pub version : ℕ
version = 8

-- ---- kinds

-- The number for no kind: every call refuses it, as any other that is not 0 to 2.
abbrev pub no_kind : ℕ
no_kind = 255

abbrev pub are_sizes : Outcome Sizes → Bool
are_sizes (Ok z) = true
are_sizes (Err r) = false

-- The kind of the images with this many bytes.
unfoldable pub kind_of : ℕ → ℕ
kind_of bytes =
    cond (are_sizes (image_sizes 0 bytes)) 0 (cond (are_sizes (image_sizes 1 bytes)) 1 (cond (are_sizes (image_sizes 2 bytes)) 2 no_kind))

-- ---- check and read

abbrev pub check_call : ℕ → List ℕ → DartelmCheckAnswer
check_call kind image = struct_by check_answer numbers no_numbers (check kind image)

abbrev pub field_call : ℕ → List ℕ → ℕ → DartelmFieldAnswer
field_call kind image field = struct_of field_answer (Whole (pos 0)) (read_field kind image field)

abbrev pub fetch_call : ℕ → List ℕ → List ℕ → ℕ → DartelmFieldAnswer
fetch_call kind image made field = struct_of field_answer (Whole (pos 0)) (fetch kind image made field)

abbrev pub pair_call : ℕ → List ℕ → ℕ → DartelmPairAnswer
pair_call kind image index = struct_of pair_answer no_pair (read_pair kind image index)

abbrev pub segment_call : ℕ → List ℕ → ℕ → DartelmSegmentAnswer
segment_call kind image index = struct_of segment_answer no_segment (read_segment kind image index)

abbrev pub term_call : ℕ → List ℕ → ℕ → DartelmTermAnswer
term_call kind image index = struct_of term_answer no_term (read_term kind image index)

abbrev pub character_call : ℕ → List ℕ → ℕ → DartelmCharacterAnswer
character_call kind image index = struct_of character_answer 0 (read_character kind image index)

-- ---- build, change, commit and index: the answer,
-- and every byte of the image or buffer afterwards

-- Domain 0 is electrical, any other physical.
abbrev pub build_call : ℕ → List ℕ → DartelmFields → List ℕ → ℕ → List ℤ → Outcome (List ℕ)
build_call kind image fields text domain points = build kind image (sheet_of fields) text (domain_of domain) points

abbrev pub build_curve_call : ℕ → List ℕ → DartelmFields → List ℕ → Curve → Outcome (List ℕ)
build_curve_call kind image fields text curve = build_curve kind image (sheet_of fields) text curve

abbrev pub change_call : ℕ → List ℕ → ℕ → ℕ → DartelmValue → Outcome (List ℕ)
change_call kind image level field value = change kind image (level_of level) field (value_of value)

abbrev pub index_call : ℕ → List ℕ → List ℕ → Outcome (List ℕ)
index_call kind image buffer = index kind image buffer

abbrev pub commit_call : ℕ → List ℕ → ℕ → ℕ → ℕ → ℕ → Outcome (List ℕ)
commit_call kind image level field present new = commit kind image (level_of level) field present new

-- ---- a proposal

abbrev pub propose_call : ℕ → List ℕ → ℕ → ℕ → DartelmValue → DartelmProposalAnswer
propose_call kind image level field value = struct_of proposal_answer no_proposal (propose kind image (level_of level) field (value_of value))

-- ---- a reading, recordings, a distance, a conformity, a row, texts, a page

abbrev pub reading_call : ℕ → List ℕ → ℤ → ℕ → DartelmReadingAnswer
reading_call kind image input dash = struct_of reading_answer no_reading (take_reading kind image input (dash_by dash))

abbrev pub compare_call : ℕ → List ℕ → List ℤ → List ℤ → DartelmComparedAnswer
compare_call kind image slow fast = struct_of compared_answer no_comparison (compare kind image slow fast)

abbrev pub distance_call : List ℤ → DartelmDistanceAnswer
distance_call points = struct_of distance_answer no_distance (distance points)

abbrev pub conformity_call : ℕ → List ℕ → List ℤ → DartelmConformityAnswer
conformity_call kind image points = struct_of conformity_answer no_conformity (conformity kind image points)

abbrev pub row_call : ℕ → List ℕ → List ℕ → DartelmRowAnswer
row_call kind present wanted = struct_of row_answer no_row (next_row kind present wanted)

abbrev pub text_call : ℕ → ℕ → DartelmTextAnswer
text_call field code = struct_of text_answer [] (text_of field code)

abbrev pub code_call : ℕ → List ℕ → DartelmCodeAnswer
code_call field text = struct_of code_answer 0 (code_of field text)

abbrev pub page_call : ℕ → List ℕ → ℕ → DartelmPageAnswer
page_call kind image page = page_answer (page_bytes kind image page)
