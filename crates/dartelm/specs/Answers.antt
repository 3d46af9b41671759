-- include/dartelm.h: the struct that a call returns, from its
-- outcome. Each struct has a number, a place and the call's values.
use Rattle.std.specs.Prelude.{Option, None, Some}
use Rattle.std.specs.Prelude.{List, ◌++◌, ℕ, ◌-◌, ◌*◌, pos, length, replicate}
use Rattle.std.specs.Float.{binary32, binary64}
use Rattle.refusal.specs.Outcome.{Outcome, Ok, Err}
use Rattle.refusal.specs.Rows.{row_number, row_place}
use Rattle.codes.specs.declared.Value.{Value}
use Rattle.codes.specs.declared.Value.TheVariants.{Whole}
use Rattle.templates.specs.Lines.{number_of}
use Rattle.templates.specs.Calibration.{domain_code}
use Rattle.sheet.specs.declared.Summary.{Summary}
use Rattle.templates.specs.declared.Domain.{Domain}
use Rattle.templates.specs.declared.Pair.{Pair}
use Rattle.templates.specs.declared.Segment.{Segment}
use Rattle.templates.specs.declared.Term.{Term}
use Rattle.layout.specs.Pieces.{end_code}
use Rattle.change.specs.declared.Proposal.{Proposal}
use Rattle.reading.specs.declared.Reading.{Reading}
use Rattle.recordings.specs.declared.Compared.{Compared}
use Rattle.recordings.specs.declared.Compared.TheVariants.{Agree, Tick}
use Rattle.distance.specs.declared.CertificateBound.{CertificateBound}
use Rattle.writing.specs.Steps.{Step, done, write}
use Rattle.dartelm.specs.declared.answers.DartelmCheckAnswer.{DartelmCheckAnswer}
use Rattle.dartelm.specs.declared.answers.DartelmFieldAnswer.{DartelmFieldAnswer}
use Rattle.dartelm.specs.declared.answers.DartelmPairAnswer.{DartelmPairAnswer}
use Rattle.dartelm.specs.declared.answers.DartelmSegmentAnswer.{DartelmSegmentAnswer}
use Rattle.dartelm.specs.declared.answers.DartelmTermAnswer.{DartelmTermAnswer}
use Rattle.dartelm.specs.declared.answers.DartelmCharacterAnswer.{DartelmCharacterAnswer}
use Rattle.dartelm.specs.declared.answers.DartelmWriteAnswer.{DartelmWriteAnswer}
use Rattle.dartelm.specs.declared.answers.DartelmProposalAnswer.{DartelmProposalAnswer}
use Rattle.dartelm.specs.declared.answers.DartelmReadingAnswer.{DartelmReadingAnswer}
use Rattle.dartelm.specs.declared.answers.DartelmComparedAnswer.{DartelmComparedAnswer}
use Rattle.dartelm.specs.declared.answers.DartelmDistanceAnswer.{DartelmDistanceAnswer}
use Rattle.dartelm.specs.declared.answers.DartelmConformityAnswer.{DartelmConformityAnswer}
use Rattle.dartelm.specs.declared.answers.DartelmRowAnswer.{DartelmRowAnswer}
use Rattle.dartelm.specs.declared.answers.DartelmTextAnswer.{DartelmTextAnswer}
use Rattle.dartelm.specs.declared.answers.DartelmCodeAnswer.{DartelmCodeAnswer}
use Rattle.dartelm.specs.declared.answers.DartelmPageAnswer.{DartelmPageAnswer}
use Rattle.dartelm.specs.Values.{plus_zero, by_flags}

-- An accepted outcome has number 0, place 0 and its values;
-- a refusal has its number and place, and zeros for values.
abbrev pub struct_by : {A B S : Type 0} → (ℕ → ℕ → B → S) → (A → B) → B → Outcome A → S
struct_by answer inNumbers zeros (Ok a) = answer 0 0 (inNumbers a)
struct_by answer inNumbers zeros (Err r) = answer (row_number r) (row_place r) zeros

abbrev pub struct_of : {A S : Type 0} → (ℕ → ℕ → A → S) → A → Outcome A → S
struct_of answer zeros o = struct_by answer (λ a. a) zeros o

-- A list at the start of an array of n elements, and zeros in the rest.
abbrev pub padded : {A : Type 0} → ℕ → A → List A → List A
padded n zero list = list ++ replicate (n - length list) zero

-- ---- the structs, and their zeros

-- The check's summary, as numbers.
pub record Numbers : Type 0 where
  pub bits : ℕ
  pub points : ℕ
  pub characters : ℕ
  pub end_bit : ℕ
  pub template : ℕ
  pub domain : ℕ
  pub segments : ℕ
  pub terms : ℕ

-- The domain of a table; 255 if there is no table.
abbrev pub domain_number : Option Domain → ℕ
domain_number None = 255
domain_number (Some domain) = domain_code domain

abbrev pub numbers : Summary → Numbers
numbers s = record {
  bits = s.bits;
  points = s.points;
  characters = s.characters;
  end_bit = end_code s.end_bit;
  template = number_of s.template;
  domain = domain_number s.domain;
  segments = s.segments;
  terms = s.terms;
}

abbrev pub no_numbers : Numbers
no_numbers = record { bits = 0; points = 0; characters = 0; end_bit = 0; template = 0; domain = 0; segments = 0; terms = 0 }

abbrev pub check_answer : ℕ → ℕ → Numbers → DartelmCheckAnswer
check_answer n p s =
    record {
      number = n;
      place = p;
      bits = s.bits;
      points = s.points;
      characters = s.characters;
      end_bit = s.end_bit;
      template = s.template;
      domain = s.domain;
      segments = s.segments;
      terms = s.terms;
    }

abbrev pub field_answer : ℕ → ℕ → Value → DartelmFieldAnswer
field_answer n p v = record { number = n; place = p; value = by_flags v }

abbrev pub pair_answer : ℕ → ℕ → Pair → DartelmPairAnswer
pair_answer n p pair = record { number = n; place = p; point = pair.point; deviation = pair.deviation }

abbrev pub no_pair : Pair
no_pair = record { point = pos 0; deviation = pos 0 }

abbrev pub segment_answer : ℕ → ℕ → Segment → DartelmSegmentAnswer
segment_answer n p segment = record { number = n; place = p; start = segment.start; terms = segment.terms }

abbrev pub no_segment : Segment
no_segment = record { start = pos 0; terms = 0 }

abbrev pub term_answer : ℕ → ℕ → Term → DartelmTermAnswer
term_answer n p term = record { number = n; place = p; exponent = term.exponent; coefficient = term.coefficient }

abbrev pub no_term : Term
no_term = record { exponent = pos 0; coefficient = plus_zero binary32 }

abbrev pub character_answer : ℕ → ℕ → ℕ → DartelmCharacterAnswer
character_answer n p c = record { number = n; place = p; character = c }

-- The bytes of a written image are in the image itself.
abbrev pub write_answer : ℕ → ℕ → List ℕ → DartelmWriteAnswer
write_answer n p image = record { number = n; place = p }

abbrev pub proposal_answer : ℕ → ℕ → Proposal → DartelmProposalAnswer
proposal_answer n p q = record { number = n; place = p; present_code = q.present; new_code = q.new; value = by_flags q.value }

abbrev pub no_proposal : Proposal
no_proposal = record { present = 0; new = 0; value = Whole (pos 0) }

abbrev pub reading_answer : ℕ → ℕ → Reading → DartelmReadingAnswer
reading_answer n p r = record { number = n; place = p; fraction = r.fraction; figure = r.figure }

abbrev pub no_reading : Reading
no_reading = record { fraction = pos 0; figure = plus_zero binary64 }

-- Agreement is a flag; the tick beside it is 0 if the recordings agree.
abbrev pub agreement : Compared → ℕ
agreement Agree = 1
agreement (Tick t) = 0

abbrev pub failing : Compared → ℕ
failing Agree = 0
failing (Tick t) = t

abbrev pub compared_answer : ℕ → ℕ → Compared → DartelmComparedAnswer
compared_answer n p c = record { number = n; place = p; agrees = agreement c; tick = failing c }

abbrev pub no_comparison : Compared
no_comparison = Tick 0

abbrev pub distance_answer : ℕ → ℕ → CertificateBound → DartelmDistanceAnswer
distance_answer n p d = record { number = n; place = p; slope = d.slope; bound = d.bound }

abbrev pub no_distance : CertificateBound
no_distance = record { slope = 0; bound = 0 }

-- Whether there is a straight table is a flag; K and the bound beside it are 0 if there is none.
abbrev pub conformity_answer : ℕ → ℕ → Option CertificateBound → DartelmConformityAnswer
conformity_answer n p (Some d) = record { number = n; place = p; slope = d.slope; bound = d.bound; is_straight = 1 }
conformity_answer n p None = record { number = n; place = p; slope = 0; bound = 0; is_straight = 0 }

abbrev pub no_conformity : Option CertificateBound
no_conformity = None

-- Nothing more to write is a flag; the row beside it is 0 then.
abbrev pub row_answer : ℕ → ℕ → Step → DartelmRowAnswer
row_answer n p done = record { number = n; place = p; is_done = 1; offset = 0; bytes = replicate 8 0 }
row_answer n p (write r bytes) = record { number = n; place = p; is_done = 0; offset = 8 * r; bytes = bytes }

abbrev pub no_row : Step
no_row = write 0 (replicate 8 0)

-- A text ends with a zero, as C's strings do: it has at most ten characters.
abbrev pub text_answer : ℕ → ℕ → List ℕ → DartelmTextAnswer
text_answer n p text = record { number = n; place = p; length = length text; characters = padded 11 0 text }

abbrev pub code_answer : ℕ → ℕ → ℕ → DartelmCodeAnswer
code_answer n p code = record { number = n; place = p; code = code }

-- A page is never refused.
abbrev pub page_answer : List ℕ → DartelmPageAnswer
page_answer bytes = record { count = length bytes; bytes = padded 31 0 bytes }
