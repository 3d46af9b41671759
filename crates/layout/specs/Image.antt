-- Document 01: the contents of an image, or why it is
-- refused. Every call that checks an image starts here.
use Rattle.std.specs.Prelude.{◌||◌, List, [], ◌∷◌, ◌++◌, map, ℕ, ◌-◌, ◌/◌, eqb, ltb, length, get_or, ℤ, pos, nat_abs, Float}
use Rattle.std.specs.Float.{nan}
use Rattle.refusal.specs.Outcome.{Outcome, Ok, ◌>>◌, ◌>>=◌, refuse◌if◌}
use Rattle.refusal.specs.declared.Refusal.TheVariants.{NoSuch}
use Rattle.memory.specs.declared.Sizes.{Sizes}
use Rattle.memory.specs.Image.{image_sizes, sums, stream_bits, stream_number}
use Rattle.codes.specs.declared.Value.{Value}
use Rattle.codes.specs.declared.Value.TheVariants.{Whole, Single, Missing}
use Rattle.templates.specs.declared.Layout.{Layout}
use Rattle.templates.specs.declared.Pair.{Pair}
use Rattle.templates.specs.declared.Segment.{Segment}
use Rattle.templates.specs.declared.Term.{Term}
use Rattle.templates.specs.Rows.{any}
use Rattle.templates.specs.Lines.{Line, chose, lines_of}
use Rattle.layout.specs.Format.{Stream, parse}
use Rattle.layout.specs.Contents.{Found, FoundPair, FoundTerm, FoundSegment, Calibration, bare, table, curve, Contents, sheet_of}

abbrev pub stream_in : Sizes → List ℕ → Stream
stream_in z image = record { bits = stream_bits z; number = stream_number z image }

-- "Check: 1, 2 by page, then the stream from its start"; Note 1 puts 17 after 1 and before 2.
unfoldable pub contents : ℕ → List ℕ → Outcome Contents
contents kind image = do
  z ← image_sizes kind (length image)
  sums z image
  parsed ← parse (stream_in z image) sheet_of 0
  Ok parsed.found

-- ---- parts of the contents

-- The field in place of one that is not there.
abbrev pub nothing : Found
nothing = record { row = any 0; at = 0; code = 0; value = Missing }

abbrev pub no_found : FoundPair
no_found = record { point = nothing; deviation = nothing }

-- Field f, counted from 1.
abbrev pub field : Contents → ℕ → Found
field c f = get_or c.fields (f - 1) nothing

-- Row 8: the field's number is one of the template's.
abbrev pub numbered : Contents → ℕ → Outcome Found
numbered c f = do
  refuse NoSuch f if eqb f 0 || ltb (length c.fields) f
  Ok (field c f)

-- The latest choice after these fields.
abbrev pub last_choice : List Line → List Found → ℕ → ℕ
last_choice [] xs latest = latest
last_choice (line ∷ lines) [] latest = latest
last_choice (line ∷ lines) (x ∷ xs) latest = last_choice lines xs (chose line.sets x.code latest)

-- What the rows of these contents depend on.
abbrev pub layout_of : Contents → Layout
layout_of c = record { template = c.template; precision = last_choice (lines_of c.template) c.fields 0 }

-- The points of the table; none without a table.
abbrev pub pairs_in : Calibration → List FoundPair
pairs_in bare = []
pairs_in (table domain pairs) = pairs
pairs_in (curve segments) = []

-- The segments of the curve, none without a curve; and the terms of all segments.
abbrev pub segments_in : Calibration → List FoundSegment
segments_in bare = []
segments_in (table domain pairs) = []
segments_in (curve segments) = segments

abbrev pub all_terms : List FoundSegment → List FoundTerm
all_terms [] = []
all_terms (s ∷ segments) = s.terms ++ all_terms segments

abbrev pub figure : Value → ℤ
figure (Whole z) = z
figure (Single x) = pos 0
figure Missing = pos 0

abbrev pub pair_in : FoundPair → Pair
pair_in p = record { point = figure p.point.value; deviation = figure p.deviation.value }

-- A Single's float.
abbrev pub float : Value → Float
float (Whole z) = nan
float (Single x) = x
float Missing = nan

-- A segment's start in billionths of the span, and the number of its terms.
abbrev pub segment_in : FoundSegment → Segment
segment_in s = record { start = figure s.start.value; terms = length s.terms }

-- A term's exponent, a whole number, and its coefficient.
abbrev pub term_in : FoundTerm → Term
term_in t = record { exponent = pos (nat_abs (figure t.exponent.value) / 10); coefficient = float t.coefficient.value }

abbrev pub points : Contents → List Pair
points c = map pair_in (pairs_in c.calibration)

abbrev pub segments : Contents → List Segment
segments c = map segment_in (segments_in c.calibration)

abbrev pub terms : Contents → List Term
terms c = map term_in (all_terms (segments_in c.calibration))
