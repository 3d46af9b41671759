-- Document 01, "Turning down", row by row, and the answers of document 02's notes: the
-- number returned and its place. Place is document 01's term for where a call is refused.
use Rattle.std.specs.Prelude.{ℕ, min}
use Rattle.refusal.specs.declared.Refusal.{Refusal}
use Rattle.refusal.specs.declared.Refusal.TheVariants.{WrongImage, WrongSum, PastEnd, WrongBlock, OutsideTable, NotFinite, NotRising, NoSuch, WrongSort, OutOfRange, TooLong, ChangedAlone, NoSpan, OutsideSpan, WrongList, BlankChip, ShortIndex, OtherCode, LevelTooLow, EndOutside, SumsNotRising, TooManyPoints, WrongCurve, TooManyTerms, WrongTicks}

abbrev pub row_number : Refusal → ℕ
-- Kind not 0 to 2, or a wrong image length.
row_number WrongImage = 1
-- Page sum.
row_number (WrongSum page) = 2
-- A field, selector, template number or end bit would pass the stream's end.
row_number (PastEnd bit) = 3
-- Selector 1 or 2; first selector 3; first template not 32 or 33, second
-- not 40 or 41; selector 0 after that block; a reading of template 32.
row_number (WrongBlock selector_bit) = 4
-- Code outside the table; count of points 0; all ones in a point,
-- deviation, start, exponent or coefficient; domain 1 of a curve. In
-- a fetch, with the offset: an entry that the field can't have.
row_number (OutsideTable bit) = 5
-- Single infinite, or a NaN that isn't all ones.
row_number (NotFinite bit) = 6
-- Points not rising as codes. The place is the later point's bit, in a build its index from 0.
row_number (NotRising place) = 7
-- Field not 1 to the template's last, also in a fetch; pair, character,
-- segment or term index past the last; for text, field not 3, 18 or 19.
row_number (NoSuch given) = 8
-- Wrong sort of value; missing where it may not be; text
-- with end bit 0; date or letter text of wrong length.
row_number (WrongSort field) = 9
-- Figure out of range, Single not finite, closing text character
-- 0 or above 127; text or code that the field can't hold. The place
-- is the field, or the index from 0 of the point, segment or term.
row_number (OutOfRange place) = 10
-- More bits needed than the stream has. The place is
-- the bits needed, "65,535 if they are more than that".
row_number (TooLong needed) = 11
-- Field 9 changed alone: in both templates it is the choice that sets later widths.
row_number (ChangedAlone field) = 12
-- Reading: field 7, 8, 10 or 11 is missing, or e ≥ f.
-- The place is the first missing of 7, 8, 10, 11, else 11.
row_number (NoSpan field) = 13
-- Reading: v below −2,000,000,000 or above 2,000,000,000,
-- or more than a tenth of the span outside it.
row_number OutsideSpan = 14
-- Points list odd or over 254 long.
row_number (WrongList length) = 16
-- Note 1: every page is blank.
row_number BlankChip = 17
-- Note 2: the lent buffer is too short. The place is the bytes needed.
row_number (ShortIndex bytes) = 18
-- Note 5: commit: the present code differs.
row_number (OtherCode field) = 19
-- Note 6: the writer's level may not write the field.
row_number (LevelTooLow field) = 20
-- Note 8: reading: a Single outside −2 to 2 V/V. The place
-- is the first of fields 10 and 11 whose Single is outside.
row_number (EndOutside field) = 21
-- Note 9: points plus deviations not rising as stored, in domain
-- 1. The place is the later point's bit, in a build its index from 0.
row_number (SumsNotRising place) = 22
-- Note 10: reading: more points than the small dash takes. The place is the point count.
row_number (TooManyPoints points) = 23
-- Note 11: a segment or term count, exponent or segment start that
-- breaks the rules of a curve. The place is the field's bit; in a build
-- the index from 0 of the segment or term, or the segment count itself.
row_number (WrongCurve place) = 24
-- Note 11: more than 30 terms in a curve. The place is the total so far.
row_number (TooManyTerms total) = 25
-- Note 13: recordings: a list has an odd length, or the fast ticks
-- aren't six times the slow ones. The place is the fast list's whole ticks.
row_number (WrongTicks ticks) = 26

-- The place: what the row names, or 0.
abbrev pub row_place : Refusal → ℕ
row_place WrongImage = 0
row_place (WrongSum page) = page
row_place (PastEnd bit) = bit
row_place (WrongBlock selector_bit) = selector_bit
row_place (OutsideTable bit) = bit
row_place (NotFinite bit) = bit
row_place (NotRising at) = at
row_place (NoSuch given) = given
row_place (WrongSort field) = field
row_place (OutOfRange at) = at
row_place (TooLong needed) = min needed 65_535
row_place (ChangedAlone field) = field
row_place (NoSpan field) = field
row_place OutsideSpan = 0
row_place (WrongList length) = length
row_place BlankChip = 0
row_place (ShortIndex bytes) = bytes
row_place (OtherCode field) = field
row_place (LevelTooLow field) = field
row_place (EndOutside field) = field
row_place (SumsNotRising at) = at
row_place (TooManyPoints points) = points
row_place (WrongCurve at) = at
row_place (TooManyTerms total) = total
row_place (WrongTicks ticks) = ticks
