-- Only inner contracts need this: the check's functions, which parse the
-- stream by the formats of `layout` and keep only what a check returns.
use Rattle.std.specs.Prelude.{◌≡◌, Bool, true, not, cond, List, [], ◌∷◌, ℕ, zero, suc, ◌+◌, ◌-◌, ◌*◌, ◌/◌, ◌%◌, ◌^◌, ◌≤◌, eqb, ltb, pos, nat_abs, length}
use Rattle.std.specs.Prelude.{Option, None, Some}
use Rattle.refusal.specs.Outcome.{Outcome, Ok, Err}
use Rattle.refusal.specs.declared.Refusal.TheVariants.{WrongBlock, TooManyTerms}
use Rattle.memory.specs.declared.Sizes.{Sizes}
use Rattle.memory.specs.Image.{stream_bits}
use Rattle.memory.specs.Answers.{WholeImage}
use Rattle.stream.specs.declared.cursor.Cursor.{Cursor}
use Rattle.codes.specs.declared.Value.{Value}
use Rattle.codes.specs.declared.Value.TheVariants.{Missing}
use Rattle.templates.specs.declared.Template.{Template}
use Rattle.templates.specs.declared.Layout.{Layout}
use Rattle.templates.specs.declared.Domain.{Domain}
use Rattle.templates.specs.declared.Segment.{Segment}
use Rattle.templates.specs.declared.Term.{Term}
use Rattle.templates.specs.Curves.{segment_start, term_count, exponent, coefficient, is_term_count, most_terms, tenths_of, tenths_before, exponent_follows}
use Rattle.codes.specs.Validity.{judge}
use Rattle.templates.specs.Lines.{Line, basic, template_lines}
use Rattle.layout.specs.Format.{Format, ends, ◌>>=◌, ◌>>◌, bits, reject◌if◌, Stream, Parsed, parse}
use Rattle.layout.specs.Contents.{Found, Calibration, table, Passed, Ending, field_of, fields_of, selector_of, first_block, pairs_of, ruled_of, terms_of, block_at, calibration_of, ending_of, sheet_of}
use Rattle.layout.specs.Image.{stream_in, last_choice, pairs_in, segments_in, all_terms, figure, float}
use Rattle.layout.specs.Places.{block_bits, first_selector, behind_fields, segment_head, term_bits}
use Rattle.layout.specs.Judgement.{judged, front_lines}
use Rattle.sheet.specs.declared.opening.Opened.{Opened}
use Rattle.sheet.specs.declared.block.Counts.{Counts}
use Rattle.sheet.specs.Check.{domain_in}
use Rattle.sheet.specs.Opened.{opened_as}
use Rattle.refusal.specs.Outcome as outcome

-- ---- what is kept

-- A part of what was parsed, with the place after it.
abbrev pub keeping : {A B : Type 0} → (A → B) → Outcome (Parsed A) → Outcome (Parsed B)
keeping part (Ok x) = Ok (record { found = part x.found; next = x.next })
keeping part (Err r) = Err r

-- What is kept of a field: its first bit and its code.
pub record Coded : Type 0 where
  pub at : ℕ
  pub code : ℕ

abbrev pub coded : Found → Coded
coded x = record { at = x.at; code = x.code }

-- What is kept of the fields on lines: the latest choice.
abbrev pub choice_on : List Line → ℕ → List Found → ℕ
choice_on lines latest xs = last_choice lines xs latest

-- What is kept of a calibration: its domain and the numbers of its pairs, segments and terms.
abbrev pub counts_of : Calibration → Counts
counts_of c = record {
  domain = domain_in c;
  points = length (pairs_in c);
  segments = length (segments_in c);
  terms = length (all_terms (segments_in c));
}

-- What is kept of repeated formats: the state before the next one.
abbrev pub passed_by : {A B : Type 0} → (B → A → B) → B → List A → B
passed_by behind before [] = before
passed_by behind before (x ∷ xs) = passed_by behind (behind before x) xs

abbrev pub passed : Option ℕ → ℕ → Passed
passed start terms = record { start = start; terms = terms }

-- What is kept of an ending: the end bit and the number of its characters.
pub record EndCount : Type 0 where
  pub end_bit : Bool
  pub characters : ℕ

abbrev pub end_count : Ending → EndCount
end_count e = record { end_bit = e.end_bit; characters = length e.text }

-- What is kept of a sheet: its opened form.
abbrev pub walked : Sizes → List ℕ → Outcome Opened
walked z image = outcome.◌>>=◌ (parse (stream_in z image) sheet_of 0) (λ x. Ok (opened_as z x.found))

-- The opened form of a sheet, from the parts that are kept.
abbrev pub opened_of : Sizes → Layout → ℕ → Counts → EndCount → ℕ → Opened
opened_of z layout behind counts ending end = record {
  sizes = z;
  layout = layout;
  behind = record { at = behind };
  summary = record {
    bits = end;
    points = counts.points;
    end_bit = ending.end_bit;
    characters = ending.characters;
    template = layout.template;
    domain = counts.domain;
    segments = counts.segments;
    terms = counts.terms;
  };
}

-- The value of a parsed field.
abbrev pub value_in : Outcome (Parsed Found) → Value
value_in (Ok x) = x.found.value
value_in (Err r) = Missing

-- The code of parsed bits.
abbrev pub number_in : Outcome (Parsed ℕ) → ℕ
number_in (Ok x) = x.found
number_in (Err r) = 0

-- ---- what is parsed

-- The latest choice after Basic, and after a template's own fields, which follow the first block.
abbrev pub basic_choice : Stream → Outcome (Parsed ℕ)
basic_choice s = keeping (choice_on basic 0) (parse s (fields_of basic 0) 0)

abbrev pub own_start : ℕ
own_start = first_selector + block_bits

abbrev pub own_choice : Stream → Template → Outcome (Parsed ℕ)
own_choice s template = keeping (choice_on (template_lines template) 0) (parse s (fields_of (template_lines template) 0) own_start)

abbrev pub layout_at : Template → ℕ → Layout
layout_at template precision = record { template = template; precision = precision }

-- A layout's own fields but the last, judged at their places.
abbrev pub own_judged : Stream → Layout → Outcome (Unit {0})
own_judged s layout = judged s (front_lines layout.template) layout.precision own_start

-- An image whose stream has at least 312 bits, as every
-- kind's has: all fields but the last are inside it.
pub record Roomy (z : Sizes) (image : List ℕ) : Type 0 where
  pub whole : WholeImage z image
  pub room : 312 ≤ stream_bits z

-- Row 4: a code that has to be the expected one, in the block whose selector is at a place.
abbrev pub mark_of : ℕ → ℕ → ℕ → Format (Unit {0})
mark_of width wanted at = bits width >>= λ code. reject WrongBlock at if not (eqb code wanted)

-- A table of n pairs, in its domain.
abbrev pub table_from : Domain → ℕ → Format Calibration
table_from domain n = pairs_of domain n None >>= λ pairs. ends (table domain pairs)

-- The block whose selector 0 was read at a place, and selector 3 after it.
abbrev pub only_block : ℕ → Format Calibration
only_block at = block_at at >>= λ calibration. selector_of 3 >> ends calibration

-- ---- opening a sheet from a place on

-- From the ending on, after a calibration; from the calibration on, after the
-- fields of a layout; from a template's own fields on; from the first block on.
abbrev pub ending_opened : Sizes → Stream → Layout → Counts → ℕ → Outcome Opened
ending_opened z s layout counts at = outcome.◌>>=◌ (keeping end_count (parse s ending_of at)) (λ e. Ok (opened_of z layout (behind_fields layout) counts e.found e.next))

abbrev pub calibration_opened : Sizes → Stream → Layout → ℕ → Outcome Opened
calibration_opened z s layout at = outcome.◌>>=◌ (keeping counts_of (parse s calibration_of at)) (λ c. ending_opened z s layout c.found c.next)

abbrev pub own_opened : Sizes → Stream → Template → ℕ → Outcome Opened
own_opened z s template at =
    let lines = template_lines template in
    outcome.◌>>=◌ (keeping (choice_on lines 0) (parse s (fields_of lines 0) at)) (λ c. calibration_opened z s (layout_at template c.found) c.next)

abbrev pub block_opened : Sizes → Stream → ℕ → Outcome Opened
block_opened z s at = outcome.◌>>=◌ (parse s first_block at) (λ t. own_opened z s t.found t.next)

-- ---- a segment from a place on

-- The codes of a term as one number, the exponent's bits
-- lowest. Both are valid at a place after the term before.
pub record TermCodes (before : Option ℕ) (at both : ℕ) : Type 0 where
  pub power : judge exponent at (both % 2 ^ 7) ≡ Ok tt
  pub rising : exponent_follows (tenths_before before) (tenths_of (both % 2 ^ 7)) ≡ true
  pub factor : judge coefficient (at + 7) (both / 2 ^ 7) ≡ Ok tt

-- From its terms on, this many, which make a total; from their number on, after this many terms.
abbrev pub terms_behind : Stream → ℕ → ℕ → ℕ → ℕ → Outcome (Parsed Passed)
terms_behind s start total n at =
    outcome.◌>>◌ (outcome.refuse◌if◌ (TooManyTerms total) (ltb most_terms total))
    (keeping (λ terms. record { start = Some start; terms = total }) (parse s (terms_of n) at))

abbrev pub count_behind : Stream → ℕ → ℕ → ℕ → Outcome (Parsed Passed)
count_behind s start terms at =
    outcome.◌>>=◌ (keeping coded (parse s (ruled_of term_count is_term_count) at)) (λ c. terms_behind s start (terms + c.found.code) c.found.code c.next)

-- ---- the parts of a curve

-- The segment at a place, and the term at a place.
abbrev pub segment_at : Stream → ℕ → Segment
segment_at s at = record { start = figure (value_in (parse s (field_of segment_start) at)); terms = number_in (parse s (bits 7) (at + 13)) }

abbrev pub term_at : Stream → ℕ → Term
term_at s at = record {
  exponent = pos (nat_abs (figure (value_in (parse s (field_of exponent) at))) / 10);
  coefficient = float (value_in (parse s (field_of coefficient) (at + 7)));
}

-- The place after this many terms of a segment.
abbrev pub segment_end : ℕ → ℕ → ℕ
segment_end at terms = at + segment_head + term_bits * terms

-- The place after n segments from a place on.
abbrev pub behind_segments : Stream → ℕ → ℕ → ℕ
behind_segments s at zero = at
behind_segments s at (suc n) = behind_segments s (segment_end at (segment_at s at).terms) n

-- The place of term i of n segments from a place on.
abbrev pub term_place : Stream → ℕ → ℕ → ℕ → ℕ
term_place s at zero i = at
term_place s at (suc n) i =
    let own = (segment_at s at).terms in cond (ltb i own) (segment_end at i) (term_place s (segment_end at own) n (i - own))

-- ---- the answers: what is kept and the place after it, for each case

abbrev pub behind : {A : Type 0} → A → Cursor → Outcome (Parsed A)
behind a cursor = Ok (record { found = a; next = cursor.at })

-- What was read, and the place after it.
abbrev pub step_said : {A : Type 0} → Outcome (A × Cursor) → Outcome (Parsed A)
step_said (Ok x) = behind x.0 x.1
step_said (Err r) = Err r

-- The code of a field at a place.
abbrev pub code_said : ℕ → Outcome (ℕ × Cursor) → Outcome (Parsed Coded)
code_said at (Ok x) = behind (record { at = at; code = x.0 }) x.1
code_said at (Err r) = Err r

abbrev pub mark_said : Outcome Cursor → Outcome (Parsed (Unit {0}))
mark_said (Ok cursor) = behind tt cursor
mark_said (Err r) = Err r

-- A template's own fields end where the fields of the chosen layout do.
abbrev pub EndsBehind : Template → Outcome (ℕ × Cursor) → Type 0
EndsBehind template (Ok x) = x.1.at ≡ behind_fields (layout_at template x.0)
EndsBehind template (Err r) = Unit {0}

-- Fields judged at their places: the choice and the place after them, if all are valid.
abbrev pub stood_to : ℕ → ℕ → Outcome (Unit {0}) → Outcome (Parsed ℕ)
stood_to choice end (Ok u) = Ok (record { found = choice; next = end })
stood_to choice end (Err r) = Err r

abbrev pub template_step_said : Outcome Template → Outcome (Parsed Template)
template_step_said (Ok template) = Ok (record { found = template; next = own_start })
template_step_said (Err r) = Err r

abbrev pub segment_step_said : Outcome (Option ℕ × ℕ × Cursor) → Outcome (Parsed Passed)
segment_step_said (Ok x) = behind (passed x.0 x.1) x.2
segment_step_said (Err r) = Err r

abbrev pub end_said : Outcome (Bool × ℕ × Cursor) → Outcome (Parsed EndCount)
end_said (Ok x) = behind (record { end_bit = x.0; characters = x.1 }) x.2
end_said (Err r) = Err r
