-- Demand 2, for both templates, with points in either domain or a curve:
-- written and read again; read and rebuilt; and the bits that a build needs.
use Rattle.std.specs.Prelude.{Some, None, Option, ◌≡◌, ◌&&◌, cond, List, [], ◌∷◌, ◌++◌, map, ℕ, zero, suc, ◌+◌, ◌-◌, ◌*◌, ◌^◌, ◌<◌, leb, ℤ, pos, length, get_or, take, replicate}
use Rattle.refusal.specs.Outcome.{Ok}
use Rattle.memory.specs.declared.Sizes.{Sizes}
use Rattle.memory.specs.Bits.{Bytes}
use Rattle.memory.specs.Image.{image_sizes, stream_bits, stream_number}
use Rattle.memory.specs.Pieces.{Piece, needed}
use Rattle.codes.specs.declared.Value.{Value}
use Rattle.codes.specs.declared.Value.TheVariants.{Whole, Missing}
use Rattle.codes.specs.declared.Row.{Row}
use Rattle.templates.specs.declared.Level.{Level}
use Rattle.templates.specs.declared.Template.TheVariants.{Bridge, Resistance}
use Rattle.templates.specs.declared.Pair.{Pair}
use Rattle.templates.specs.declared.Segment.{Segment}
use Rattle.templates.specs.declared.Term.{Term}
use Rattle.templates.specs.declared.Curve.{Curve}
use Rattle.templates.specs.declared.Domain.{Domain}
use Rattle.templates.specs.Lines.{lines_of, rows_of}
use Rattle.templates.specs.Calibration.{cal_point, cal_deviation, no_pair}
use Rattle.templates.specs.Curves.{segment_start, no_segment, no_term}
use Rattle.codes.specs.Stored.{kept}
use Rattle.layout.specs.Contents.{Calibration, bare, table as table_found, curve as curve_found, Contents}
use Rattle.layout.specs.Image.{contents, layout_of, figure, pair_in, points, segments, terms}
use Rattle.layout.specs.Places.{behind_fields, table_bits, curve_bits}
use Rattle.sheet.specs.declared.Summary.{Summary}
use Rattle.sheet.specs.Check.{domain_in, check, read_field, read_pair, read_character, read_segment, read_term}
use Rattle.build.specs.declared.Slot.{Slot}
use Rattle.build.specs.declared.Sheet.{Sheet}
use Rattle.build.specs.Build.{slot, lent, template_in, pairs_lent, Table, listed, by_curve, plan, build_with}
use Rattle.promises.specs.Lent.{Lendable, LendableTable}

abbrev pub values : Contents → List Value
values c = map (λ x. x.value) c.fields

-- ---- written and read again

-- Each value as its row keeps it.
abbrev pub kept_all : List Row → List Slot → List Value
kept_all [] slots = []
kept_all (row ∷ rows) [] = []
kept_all (row ∷ rows) (s ∷ slots) = kept row s.value ∷ kept_all rows slots

abbrev pub kept_pair : Pair → Pair
kept_pair p = record { point = figure (kept cal_point (Whole p.point)); deviation = figure (kept cal_deviation (Whole p.deviation)) }

-- The domain of lent points: "an empty list has none".
abbrev pub domain_lent : Domain → List Pair → Option Domain
domain_lent domain [] = None
domain_lent domain (p ∷ pairs) = Some domain

abbrev pub kept_segment : Segment → Segment
kept_segment s = record { start = figure (kept segment_start (Whole s.start)); terms = s.terms }

-- The segments of a lent curve, and the number of their terms.
abbrev pub segments_lent : Curve → List Segment
segments_lent curve = take curve.count curve.segments

abbrev pub terms_in : List Segment → ℕ
terms_in [] = 0
terms_in (s ∷ segments) = s.terms + terms_in segments

abbrev pub terms_lent : Curve → List Term
terms_lent curve = take (terms_in (segments_lent curve)) curve.terms

-- What is kept of the lent table or curve: the points of a list, in
-- their domain; the segments of a curve, and its terms unchanged.
abbrev pub kept_points : Table → List Pair
kept_points (listed domain points) = map kept_pair (pairs_lent points)
kept_points (by_curve curve) = []

abbrev pub kept_domain : Table → Option Domain
kept_domain (listed domain points) = domain_lent domain (pairs_lent points)
kept_domain (by_curve curve) = None

abbrev pub kept_segments : Table → List Segment
kept_segments (listed domain points) = []
kept_segments (by_curve curve) = map kept_segment (segments_lent curve)

abbrev pub kept_terms : Table → List Term
kept_terms (listed domain points) = []
kept_terms (by_curve curve) = terms_lent curve

-- The contents are the sheet, each stepped or geometric figure as its rule keeps it.
pub record SameSheet (sheet : Sheet) (text : List ℕ) (table : Table) (c : Contents) : Type 0 where
  pub same_template : c.template ≡ template_in sheet
  pub same_fields : values c ≡ kept_all (rows_of (lines_of c.template) (layout_of c).precision) sheet.fields
  pub same_points : points c ≡ kept_points table
  pub same_domain : domain_in c.calibration ≡ kept_domain table
  pub same_segments : segments c ≡ kept_segments table
  pub same_terms : terms c ≡ kept_terms table
  pub same_end : c.end_bit ≡ sheet.end_bit
  pub same_text : c.text ≡ text

abbrev pub WrittenAndReadAgain : Type 0
WrittenAndReadAgain =
    (kind : ℕ) (buffer : List ℕ) (sheet : Sheet) (text : List ℕ) (table : Table) (image : List ℕ) → Lendable sheet → LendableTable table →
    build_with kind buffer sheet text table ≡ Ok image →
    (c : Contents) × (contents kind image ≡ Ok c) × SameSheet sheet text table c

-- A check of it gives the bits needed; and 7 more if the end bit is 1 and 7 bits
-- remain: a build "ends text with a zero character wherever 7 bits remain".
abbrev pub ZeroEndsText : Type 0
ZeroEndsText =
    (kind : ℕ) (buffer : List ℕ) (sheet : Sheet) (text : List ℕ) (table : Table) (image : List ℕ) (z : Sizes) (pieces : List Piece) (c : Contents) →
    Lendable sheet → LendableTable table → image_sizes kind (length buffer) ≡ Ok z → plan sheet text table ≡ Ok pieces →
    build_with kind buffer sheet text table ≡ Ok image → contents kind image ≡ Ok c →
    c.bits ≡ needed pieces + cond (sheet.end_bit && leb (needed pieces + 7) (stream_bits z)) 7 0

-- ---- read and rebuilt

-- What an image reads, as a sheet. A template with fewer fields leaves
-- the last slots missing; the level is not stored, so any will do.
abbrev pub sheet_read : Contents → Level → Sheet
sheet_read c level = record {
  template = c.template;
  fields = map slot (values c) ++ replicate (21 - length c.fields) (slot Missing);
  end_bit = c.end_bit;
  level = level;
}

-- The points of an image, lent by turns, or its curve in a room for
-- 20 segments and 30 terms. A sheet without points gets any domain.
abbrev pub turns : List Pair → List ℤ
turns [] = []
turns (p ∷ pairs) = p.point ∷ p.deviation ∷ turns pairs

abbrev pub curve_read : Contents → Curve
curve_read c = record {
  count = length (segments c);
  segments = segments c ++ replicate (20 - length (segments c)) no_segment;
  terms = terms c ++ replicate (30 - length (terms c)) no_term;
}

abbrev pub table_of : Contents → Domain → Calibration → Table
table_of c domain bare = listed domain []
table_of c domain (table_found found pairs) = listed found (turns (map pair_in pairs))
table_of c domain (curve_found found) = by_curve (curve_read c)

abbrev pub table_read : Contents → Domain → Table
table_read c domain = table_of c domain c.calibration

-- An accepted image with zeros after its end, rebuilt from what it
-- reads at any level, is the same bytes, in any buffer of its length.
abbrev pub RebuiltSameBytes : Type 0
RebuiltSameBytes =
    (kind : ℕ) (image buffer : List ℕ) (level : Level) (z : Sizes) (c : Contents) (domain : Domain) → Bytes image → length buffer ≡ length image →
    image_sizes kind (length image) ≡ Ok z →
    contents kind image ≡ Ok c →
    stream_number z image < 2 ^ c.bits →
    build_with kind buffer (sheet_read c level) c.text (table_read c domain) ≡ Ok image

-- The domain that the check gives, or any if it gives none.
abbrev pub InDomain : Option Domain → Domain → Type 0
InDomain None domain = Unit {0}
InDomain (Some found) domain = found ≡ domain

-- What a caller lends who read the image through the calls. The sheet has the
-- template that the check gives and each field that is read. Text, points,
-- segments and terms have each item that is read, as many as the check gives,
-- in its domain. If it gives segments they are a curve, else points.
pub record ReadOff (kind : ℕ) (image : List ℕ) (s : Summary) (sheet : Sheet) (text : List ℕ) : Type 0 where
  pub template : template_in sheet ≡ s.template
  pub fields : (f : ℕ) (v : Value) → read_field kind image f ≡ Ok v → lent sheet f ≡ v
  pub end_bit : sheet.end_bit ≡ s.end_bit
  pub characters : length text ≡ s.characters
  pub character : (i x : ℕ) → read_character kind image i ≡ Ok x → get_or text i 0 ≡ x

pub record PointsReadOff (kind : ℕ) (image : List ℕ) (s : Summary) (domain : Domain) (pointsLent : List ℤ) : Type 0 where
  pub none : s.segments ≡ 0
  pub pairs : length pointsLent ≡ 2 * s.points
  pub pair : (i : ℕ) (p : Pair) → read_pair kind image i ≡ Ok p → get_or (pairs_lent pointsLent) i no_pair ≡ p
  pub in_domain : InDomain s.domain domain

pub record CurveReadOff (kind : ℕ) (image : List ℕ) (s : Summary) (curve : Curve) : Type 0 where
  pub some : 0 < s.segments
  pub count : curve.count ≡ s.segments
  pub segment : (i : ℕ) (x : Segment) → read_segment kind image i ≡ Ok x → get_or curve.segments i no_segment ≡ x
  pub term : (i : ℕ) (t : Term) → read_term kind image i ≡ Ok t → get_or curve.terms i no_term ≡ t

abbrev pub TableReadOff : ℕ → List ℕ → Summary → Table → Type 0
TableReadOff kind image s (listed domain points) = PointsReadOff kind image s domain points
TableReadOff kind image s (by_curve curve) = CurveReadOff kind image s curve

abbrev pub RebuiltFromReads : Type 0
RebuiltFromReads =
    (kind : ℕ) (image buffer : List ℕ) (z : Sizes) (s : Summary) (sheet : Sheet) (text : List ℕ) (table : Table) → Bytes image →
    length buffer ≡ length image → image_sizes kind (length image) ≡ Ok z → LendableTable table →
    check kind image ≡ Ok s → ReadOff kind image s sheet text → TableReadOff kind image s table →
    stream_number z image < 2 ^ s.bits →
    build_with kind buffer sheet text table ≡ Ok image

-- ---- row 11's bits

-- Block 40 if there are points, or block 41.
abbrev pub behind_bits : Table → ℕ
behind_bits (listed domain points) = table_bits (length (pairs_lent points))
behind_bits (by_curve curve) = curve_bits curve.count (terms_in (segments_lent curve))

-- The bits of the fields with the first block's selector and
-- number, the block after them, selector 3, end bit and text.
abbrev pub BitsNeeded : Type 0
BitsNeeded =
    (sheet : Sheet) (text : List ℕ) (table : Table) (precision : ℕ) (pieces : List Piece) → LendableTable table →
    lent sheet 9 ≡ Whole (pos precision) → plan sheet text table ≡ Ok pieces →
    needed pieces ≡ behind_fields (record { template = template_in sheet; precision = precision }) + behind_bits table + 3 + 7 * length text

-- "Template 33 with its number takes 209, 225 or 251 bits for
-- precision 0, 1, 2", after Basic's 64 bits and a selector.
abbrev pub bridge_bits : ℕ → ℕ
bridge_bits zero = 209
bridge_bits (suc zero) = 225
bridge_bits (suc (suc precision)) = 251

abbrev pub BridgeBits : Type 0
BridgeBits = (precision : ℕ) → behind_fields (record { template = Bridge; precision = precision }) ≡ 64 + 2 + bridge_bits precision

-- Template 32 with its number takes 172, 178, 190 or 222 bits for precision 0, 1, 2, 3.
abbrev pub resistance_bits : ℕ → ℕ
resistance_bits zero = 172
resistance_bits (suc zero) = 178
resistance_bits (suc (suc zero)) = 190
resistance_bits (suc (suc (suc precision))) = 222

abbrev pub ResistanceBits : Type 0
ResistanceBits = (precision : ℕ) → behind_fields (record { template = Resistance; precision = precision }) ≡ 64 + 2 + resistance_bits precision
