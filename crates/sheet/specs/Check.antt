-- Document 01, and document 02, Notes 7 and 11: check an image; read a field,
-- a pair, a character, a segment, a term. Each starts from the image's
-- contents (`layout`), and a read then selects one item by its number.
use Rattle.std.specs.Prelude.{Some, None, Option, List, ℕ, leb, length, get_or}
use Rattle.refusal.specs.Outcome.{Outcome, Ok, ◌>>◌, ◌>>=◌, refuse◌if◌}
use Rattle.refusal.specs.declared.Refusal.TheVariants.{NoSuch}
use Rattle.codes.specs.declared.Value.{Value}
use Rattle.templates.specs.declared.Domain.{Domain}
use Rattle.templates.specs.declared.Pair.{Pair}
use Rattle.templates.specs.declared.Segment.{Segment}
use Rattle.templates.specs.declared.Term.{Term}
use Rattle.templates.specs.Calibration.{no_pair}
use Rattle.templates.specs.Curves.{no_segment, no_term}
use Rattle.layout.specs.Contents.{Calibration, bare, table, curve, Contents}
use Rattle.layout.specs.Image.{contents, numbered, points, segments, terms}
use Rattle.sheet.specs.declared.Summary.{Summary}

-- Note 9: "the check also gives the domain"; "an empty list has none", and so has a curve.
abbrev pub domain_in : Calibration → Option Domain
domain_in bare = None
domain_in (table domain pairs) = Some domain
domain_in (curve segments) = None

-- "An accepted check gives the bits up to the end (a zero that ends the text
-- counted), n (0 without block 40), the end bit and the number of characters". The
-- notes add the first template, the domain, and the numbers of segments and of terms.
abbrev pub summary : Contents → Summary
summary c = record {
  bits = c.bits;
  points = length (points c);
  end_bit = c.end_bit;
  characters = length c.text;
  template = c.template;
  domain = domain_in c.calibration;
  segments = length (segments c);
  terms = length (terms c);
}

unfoldable pub check : ℕ → List ℕ → Outcome Summary
check kind image = do
  c ← contents kind image
  Ok (summary c)

-- ---- reads. Order: check, 8

-- The item of an index from 0.
abbrev pub indexed : {A : Type 0} → List A → A → ℕ → Outcome A
indexed items none i = do
  refuse NoSuch i if leb (length items) i
  Ok (get_or items i none)

unfoldable pub read_field : ℕ → List ℕ → ℕ → Outcome Value
read_field kind image f = do
  c ← contents kind image
  x ← numbered c f
  Ok x.value

unfoldable pub read_pair : ℕ → List ℕ → ℕ → Outcome Pair
read_pair kind image i = do
  c ← contents kind image
  indexed (points c) no_pair i

unfoldable pub read_character : ℕ → List ℕ → ℕ → Outcome ℕ
read_character kind image i = do
  c ← contents kind image
  indexed c.text 0 i

unfoldable pub read_segment : ℕ → List ℕ → ℕ → Outcome Segment
read_segment kind image i = do
  c ← contents kind image
  indexed (segments c) no_segment i

unfoldable pub read_term : ℕ → List ℕ → ℕ → Outcome Term
read_term kind image i = do
  c ← contents kind image
  indexed (terms c) no_term i
