-- include/dartelm.h, dartelm_sheet: all fields of an image. The answer is the
-- check's and that of the reads of each field, though the image is checked once.
use Rattle.std.specs.Prelude.{◌≡◌, List, [], ◌∷◌, map, ℕ, zero, suc, pos, length}
use Rattle.refusal.specs.Outcome.{Outcome, Ok, ◌>>=◌}
use Rattle.codes.specs.declared.Value.{Value}
use Rattle.codes.specs.declared.Value.TheVariants.{Whole}
use Rattle.templates.specs.declared.Level.TheVariants.{Owner}
use Rattle.sheet.specs.declared.Summary.{Summary}
use Rattle.layout.specs.Image.{contents}
use Rattle.sheet.specs.Check.{summary, read_field}
use Rattle.build.specs.Build.{slot}
use Rattle.dartelm.specs.declared.values.DartelmFields.{DartelmFields}
use Rattle.dartelm.specs.declared.answers.DartelmSheetAnswer.{DartelmSheetAnswer}
use Rattle.dartelm.specs.Values.{template_flag, by_flags, no_value, sheet_of}
use Rattle.dartelm.specs.Answers.{struct_by, padded, Numbers, numbers, no_numbers}

-- The check's summary, and the values of all fields.
pub record AllFields : Type 0 where
  pub summary : Summary
  pub values : List Value

-- The reads of n fields from field f on.
unfoldable pub field_reads : ℕ → List ℕ → ℕ → ℕ → Outcome (List Value)
field_reads kind image zero f = Ok []
field_reads kind image (suc n) f = do
  value ← read_field kind image f
  rest ← field_reads kind image n (suc f)
  Ok (value ∷ rest)

-- The reads of all fields: the template determines how many there are.
unfoldable pub read_fields : ℕ → List ℕ → Outcome AllFields
read_fields kind image = do
  c ← contents kind image
  values ← field_reads kind image (length c.fields) 1
  Ok (record { summary = summary c; values = values })

-- ---- the struct

-- The check's summary, as numbers, the template's flag, and the values of all fields.
pub record FieldNumbers : Type 0 where
  pub numbers : Numbers
  pub resistance : ℕ
  pub values : List Value

abbrev pub field_numbers : AllFields → FieldNumbers
field_numbers s = record { numbers = numbers s.summary; resistance = template_flag s.summary.template; values = s.values }

abbrev pub no_fields : FieldNumbers
no_fields = record { numbers = no_numbers; resistance = 0; values = [] }

-- Field f is at index f − 1. A level is not stored: the owner's number is returned.
abbrev pub fields_struct : FieldNumbers → DartelmFields
fields_struct s =
    record {
      values = padded 21 no_value (map by_flags s.values);
      end_bit = s.numbers.end_bit;
      level = 0;
      unused = 0;
      is_resistance = s.resistance;
    }

abbrev pub sheet_answer : ℕ → ℕ → FieldNumbers → DartelmSheetAnswer
sheet_answer n p s =
    record {
      number = n;
      place = p;
      bits = s.numbers.bits;
      points = s.numbers.points;
      characters = s.numbers.characters;
      field_count = length s.values;
      fields = fields_struct s;
      domain = s.numbers.domain;
      segments = s.numbers.segments;
      terms = s.numbers.terms;
    }

abbrev pub sheet_call : ℕ → List ℕ → DartelmSheetAnswer
sheet_call kind image = struct_by sheet_answer field_numbers no_fields (read_fields kind image)

-- ---- passed to a build again

-- A returned sheet can be passed to a build: it is the sheet record of
-- these values. It has zeros after the template's last field, which a
-- build ignores, and the owner's level, which it does not test.
abbrev pub SheetAgain : Type 0
SheetAgain =
    (s : AllFields) → sheet_of (fields_struct (field_numbers s)) ≡
    record {
      template = s.summary.template;
      fields = padded 21 (slot (Whole (pos 0))) (map slot s.values);
      end_bit = s.summary.end_bit;
      level = Owner;
    }
