-- Document 01, "Edges": the small proved set of starred cases, "one table,
-- one statement over it". Beside it, under their own names: an example that
-- document 000 prints, and cases that meet the hypotheses of demand 3.
use Rattle.std.specs.Prelude.{◌≡◌, false, List, [], ◌∷◌, ◌++◌, map, ℕ, replicate, ℤ, pos, neg_ℤ}
use Rattle.std.specs.Float.{binary32, binary64}
use Rattle.std.specs.Float.Ieee.{of_int, of_bits}
use Rattle.refusal.specs.declared.Refusal.{Refusal}
use Rattle.refusal.specs.Outcome.{Ok, Err, ◌>>=◌}
use Rattle.refusal.specs.declared.Refusal.TheVariants.{WrongBlock}
use Rattle.memory.specs.Bits.{bytes_of}
use Rattle.memory.specs.Pieces.{pack}
use Rattle.codes.specs.declared.Value.{Value}
use Rattle.codes.specs.declared.Value.TheVariants.{Whole, Single, Missing}
use Rattle.codes.specs.declared.Row.{Row}
use Rattle.templates.specs.declared.Level.TheVariants.{CalibrationRoom, Maker}
use Rattle.templates.specs.declared.Domain.{Domain}
use Rattle.templates.specs.declared.Domain.TheVariants.{Electrical, Physical}
use Rattle.templates.specs.declared.Curve.{Curve}
use Rattle.templates.specs.declared.Template.TheVariants.{Bridge, Resistance}
use Rattle.codes.specs.Rules.{Progression, decode, encode, geometric_value}
use Rattle.templates.specs.Rows.{bridge_end, excitation}
use Rattle.templates.specs.Lines.{basic}
use Rattle.texts.specs.Dates.{date_of}
use Rattle.layout.specs.Places.{first_selector}
use Rattle.build.specs.declared.Sheet.{Sheet}
use Rattle.build.specs.Build.{slot, line_pieces, pairs_lent, build, build_curve}
use Rattle.correction.specs.Line.{deviation}
use Rattle.reading.specs.declared.Reading.{Reading}
use Rattle.reading.specs.declared.Dash.TheVariants.{Large, Small}
use Rattle.reading.specs.Reading.{position, take_reading}
use Rattle.promises.specs.Alterations.{Alteration, changes, commits, altered}

-- A sheet of template 33 at a precision, with the ends of its span.
abbrev pub sheet_with : ℕ → Value → Value → Sheet
sheet_with precision least greatest = record {
  template = Bridge;
  fields =
      map (λ n. slot (Whole (pos n))) (17 ∷ 1 ∷ 1 ∷ 0 ∷ 1 ∷ 0 ∷ []) ++
      (slot (Single (of_int binary32 (pos 0))) ∷ slot (Single (of_int binary32 (pos 10))) ∷ slot (Whole (pos precision)) ∷ slot least ∷ slot greatest ∷ slot (Whole (pos 2)) ∷ []) ++
      map slot (replicate 6 Missing) ++
      map (λ n. slot (Whole (pos n))) (0 ∷ 0 ∷ 0 ∷ []);
  end_bit = false;
  level = Maker;
}

abbrev pub sheet_at : ℕ → ℤ → ℤ → Sheet
sheet_at precision e f = sheet_with precision (Whole e) (Whole f)

-- A sheet of template 32.
abbrev pub resistance_at : ℕ → ℤ → ℤ → Sheet
resistance_at precision e f = record {
  template = Resistance;
  fields =
      map (λ n. slot (Whole (pos n))) (17 ∷ 1 ∷ 1 ∷ 0 ∷ 1 ∷ 0 ∷ []) ++
      (slot (Single (of_int binary32 (pos 0))) ∷ slot (Single (of_int binary32 (pos 10))) ∷ slot (Whole (pos precision)) ∷ slot (Whole e) ∷ slot (Whole f) ∷ slot (Whole (pos 2)) ∷ []) ++
      map slot (replicate 4 Missing) ++
      map (λ n. slot (Whole (pos n))) (0 ∷ 0 ∷ 0 ∷ []) ++
      map slot (replicate 2 Missing);
  end_bit = false;
  level = Maker;
}

pub data Case : Type 0 where
  -- Fields 1 to 5 are these bytes.
  basic_is : List ℤ → List ℕ → Case
  -- A figure, stored and read back by a row, becomes another.
  reads_back : Row → ℤ → ℤ → Case
  -- A code has a value by a row.
  means : Row → ℕ → Value → Case
  -- A code's value in a progression.
  scaled : Progression → ℕ → ℕ → Case
  -- A date's code, year, month and day.
  dated : ℕ → ℕ → ℕ → ℕ → Case
  -- e, f, v and p.
  placed : ℤ → ℤ → ℤ → ℤ → Case
  -- Points by turns, a place and the deviation there.
  deviates : List ℤ → ℤ → ℤ → Case
  -- A kind and its image's length, a sheet, a domain,
  -- points, alterations, v and q: built, altered and read.
  reads : ℕ → ℕ → Sheet → Domain → List ℤ → List Alteration → ℤ → ℤ → Case
  -- A kind and its image's length, a sheet, a curve, v and a reading: built and read.
  draws : ℕ → ℕ → Sheet → Curve → ℤ → Reading → Case
  -- A kind and its image's length, a sheet, v and a refusal: built, and its reading refused.
  unread : ℕ → ℕ → Sheet → ℤ → Refusal → Case

abbrev pub Holds : Case → Type 0
Holds (basic_is figures bytes) =
    (line_pieces (record { template = Bridge; fields = map (λ n. slot (Whole n)) figures; end_bit = false; level = Maker }) basic 0 1 >>= λ pieces. Ok (bytes_of 8 (pack pieces))) ≡ Ok bytes
Holds (reads_back row figure value) = (encode row 0 (Whole figure) >>= decode row 0) ≡ Ok (Whole value)
Holds (means row code value) = decode row 0 code ≡ Ok value
Holds (scaled progression code value) = geometric_value progression code ≡ value
Holds (dated code year month day) = date_of code ≡ record { year = year; month = month; day = day }
Holds (placed e f v p) = position v e f ≡ p
Holds (deviates points p d) = deviation (pairs_lent points) p ≡ d
Holds (reads kind bytes sheet domain points alterations v q) =
    (build kind (replicate bytes 0) sheet [] domain points >>= λ image. take_reading kind (altered image alterations) v Small >>= λ r. Ok r.fraction) ≡ Ok q
Holds (draws kind bytes sheet curve v r) = (build_curve kind (replicate bytes 0) sheet [] curve >>= λ image. take_reading kind image v Small) ≡ Ok r
Holds (unread kind bytes sheet v r) = (build kind (replicate bytes 0) sheet [] Electrical [] >>= λ image. take_reading kind image v Large) ≡ Err r

-- The cases that document 01 stars.
abbrev pub starred : List Case
starred =
    basic_is (pos 17 ∷ pos 1 ∷ pos 1 ∷ pos 0 ∷ pos 1 ∷ []) (0x11 ∷ 0x40 ∷ 0x00 ∷ 0x20 ∷ 0x00 ∷ 0x01 ∷ 0x00 ∷ 0x00 ∷ []) ∷
    reads_back (bridge_end 0) (pos 2_499_999) (pos 2_000_000) ∷
    reads_back (bridge_end 0) (pos 2_500_000) (pos 3_000_000) ∷
    means excitation 510 (Whole (pos 511)) ∷
    means excitation 511 Missing ∷
    dated 789 2000 2 29 ∷
    dated 7_306 2018 1 2 ∷
    dated 37_314 2100 3 1 ∷
    dated 65_534 2177 6 5 ∷
    placed (pos 0) (pos 3_000_000) (pos 1_000_000) (pos 333_333_333) ∷
    placed (pos 0) (pos 3_000_000) (pos 2_000_000) (pos 666_666_667) ∷
    deviates (pos 0 ∷ pos 0 ∷ pos 400 ∷ neg_ℤ (pos 200) ∷ []) (pos 1) (pos 0) ∷
    deviates (pos 0 ∷ pos 0 ∷ pos 400 ∷ neg_ℤ (pos 200) ∷ []) (pos 500) (neg_ℤ (pos 200)) ∷
    deviates (pos 0 ∷ pos 0 ∷ pos 400 ∷ pos 200 ∷ []) (pos 1) (pos 1) ∷
    []

-- Document 000's example of ConRelRes (7.4.5.3.4: the quality factor
-- in 10^-9), which is a field of no sheet here. Its examples of
-- ConRes are codes of stepped rows, and run in the program `printed`.
abbrev pub printed : List Case
printed = scaled (record { start = 300_000_000; tolerance = 3; parts = 100 }) 126 463_084_535_408 ∷ []

-- A change of field 11, and one of field 9, which is refused.
abbrev pub changed_to : ℕ → Value → List Alteration
changed_to kind greatest = changes (record { kind = kind; level = CalibrationRoom; field = 11; value = greatest }) ∷ changes (record { kind = kind; level = Maker; field = 9; value = Whole (pos 1) }) ∷ []

abbrev pub two_changes : ℕ → ℤ → List Alteration
two_changes kind f = changed_to kind (Whole f)

-- A commit of field 11 from 2,000,000 to 3,000,000 at precision 0,
-- and a second that still expects the first code, which is refused.
abbrev pub two_commits : ℕ → List Alteration
two_commits kind =
    commits (record { kind = kind; level = CalibrationRoom; field = 11; present = 1_002; new = 1_003 }) ∷
    commits (record { kind = kind; level = CalibrationRoom; field = 11; present = 1_002; new = 1_004 }) ∷
    []

-- Points half a step and deviations half a step off what a chip can hold, on a steep fall.
abbrev pub steep : List ℤ
steep = pos 7_650 ∷ pos 500 ∷ pos 22_950 ∷ neg_ℤ (pos 152_500) ∷ []

-- −2^−10, 2^−10 and the Single nearest to 0.002, in
-- V/V: −976,562.5, 976,562.5 and 2,000,000.09.. nV/V.
abbrev pub below : Value
below = Single (of_bits binary32 0xba80_0000)

abbrev pub above : Value
above = Single (of_bits binary32 0x3a80_0000)

abbrev pub other : Value
other = Single (of_bits binary32 0x3b03_126f)

-- The deviation falls by half of the physical figure.
abbrev pub halved : List ℤ
halved = pos 0 ∷ pos 0 ∷ pos 306_000 ∷ neg_ℤ (pos 153_000) ∷ []

-- Demand 3 and the crossing can be met. A build, changes or commits and an accepted
-- reading for each kind, at each precision that it has room for, and in domain 1.
abbrev pub met : List Case
met =
    reads 0 40 (sheet_at 0 (pos 0) (pos 2_000_000)) Electrical [] (two_changes 0 (pos 3_000_000)) (pos 1_000_000) (pos 333_333_333) ∷
    reads 0 40 (sheet_at 0 (pos 0) (pos 2_000_000)) Electrical [] (two_commits 0) (pos 1_000_000) (pos 333_333_333) ∷
    reads 0 40 (sheet_at 1 (pos 0) (pos 2_000_000)) Electrical [] (two_changes 0 (pos 3_000_000)) (pos 2_000_000) (pos 666_666_667) ∷
    reads 1 128 (sheet_at 0 (pos 0) (pos 2_000_000)) Electrical (pos 0 ∷ pos 5_000 ∷ []) (two_changes 1 (pos 3_000_000)) (pos 1_000_000) (pos 333_338_333) ∷
    reads 1 128 (sheet_at 1 (pos 0) (pos 2_000_000)) Electrical (pos 0 ∷ pos 5_000 ∷ []) (two_changes 1 (pos 3_000_000)) (pos 1_000_000) (pos 333_338_333) ∷
    reads 2 512 (sheet_at 0 (pos 0) (pos 2_000_000)) Electrical (pos 0 ∷ pos 5_000 ∷ []) (two_changes 2 (pos 3_000_000)) (pos 1_000_000) (pos 333_338_333) ∷
    reads 2 512 (sheet_at 1 (pos 0) (pos 2_000_000)) Electrical steep (two_changes 2 (pos 3_000_000)) (pos 61) (neg_ℤ (pos 28_997)) ∷
    reads 1 128 (sheet_with 2 below other) Electrical [] (changed_to 1 above) (pos 0) (pos 499_999_744) ∷
    reads 2 512 (sheet_with 2 below above) Electrical (pos 0 ∷ pos 5_000 ∷ []) (changed_to 2 other) (pos 1_000_000) (pos 664_046_938) ∷
    reads 0 40 (sheet_at 0 (pos 0) (pos 2_000_000)) Physical [] (two_changes 0 (pos 3_000_000)) (pos 1_000_000) (pos 333_333_333) ∷
    reads 1 128 (sheet_at 0 (pos 0) (pos 2_000_000)) Physical halved (two_changes 1 (pos 3_000_000)) (pos 300) (pos 200_000) ∷
    []

-- Document 02, Note 11: a curve of two segments, whose second starts at 49.2 % of the span;
-- 0.0625 × 50 − 2 is 1.125 there, so that half of the span shows 51.125 % of 10: 5.1125, by f64.
abbrev pub bent : Curve
bent = record {
  count = 2;
  segments = record { start = pos 0; terms = 1 } ∷ record { start = pos 492_000_000; terms = 2 } ∷ [];
  terms =
      record { exponent = pos 0; coefficient = of_bits binary32 0x3f80_0000 } ∷
      record { exponent = pos 0; coefficient = of_bits binary32 0xc000_0000 } ∷
      record { exponent = pos 1; coefficient = of_bits binary32 0x3d80_0000 } ∷
      [];
}

abbrev pub curved : List Case
curved =
    draws 1 128 (sheet_at 0 (pos 0) (pos 2_000_000)) bent (pos 1_000_000) (record { fraction = pos 500_000_000; figure = of_bits binary64 0x4014_7333_3333_3333 }) ∷ []

-- Document 02, Note 14: if points plus deviations fall, the needle drops back.
abbrev pub falling : List ℤ
falling = pos 0 ∷ pos 100_000 ∷ pos 15_300 ∷ neg_ℤ (pos 100_000) ∷ []

abbrev pub dropped : List Case
dropped =
    reads 1 128 (sheet_at 0 (pos 0) (pos 2_000_000)) Electrical falling [] (pos 0) (pos 100_000) ∷
    reads 1 128 (sheet_at 0 (pos 0) (pos 2_000_000)) Electrical falling [] (pos 31) (neg_ℤ (pos 84_500)) ∷
    []

-- Document 02, Note 7: a sheet of template 32 is built, at each
-- precision but the Singles', and no reading is taken from it.
abbrev pub resisted : List Case
resisted =
    unread 0 40 (resistance_at 0 (pos 0) (pos 1_000)) (pos 500) (WrongBlock first_selector) ∷
    unread 1 128 (resistance_at 1 (pos 0) (pos 1_000_000)) (pos 500) (WrongBlock first_selector) ∷
    unread 2 512 (resistance_at 2 (pos 0) (pos 65_534)) (pos 500) (WrongBlock first_selector) ∷
    []

abbrev pub AllHold : List Case → Type 0
AllHold [] = Unit {0}
AllHold (c ∷ cases) = Holds c × AllHold cases

-- The one statement over the starred cases.
abbrev pub Edges : Type 0
Edges = AllHold starred

-- Document 000's example, demand 3 met, a curve, a needle that drops back, and refused readings.
abbrev pub Examples : Type 0
Examples = AllHold (printed ++ (met ++ (curved ++ (dropped ++ resisted))))
