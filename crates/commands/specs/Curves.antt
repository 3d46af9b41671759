-- docs/CONSOLE.md: the curve of a build. SEGMENTS are start and term count by turns,
-- TERMS exponent and coefficient, both separated by commas (44), or a minus for none.
use Rattle.std.specs.Prelude.{cond, List, ℕ, ◌+◌, ◌*◌, ◌/◌, ◌%◌, eqb, ℤ, pos, replicate}
use Rattle.std.specs.Prelude.{Option, None, Some}
use Rattle.std.specs.Float.{binary32}
use Rattle.std.specs.Float.Ieee.{of_bits}
use Rattle.codes.specs.declared.Value.{Value}
use Rattle.codes.specs.declared.Value.TheVariants.{Whole, Single, Missing}
use Rattle.templates.specs.declared.Segment.{Segment}
use Rattle.templates.specs.declared.Term.{Term}
use Rattle.templates.specs.declared.Curve.{Curve}
use Rattle.templates.specs.Curves.{no_segment}
use Rattle.console_words.specs.Words.{is_minus, piece_count, piece_at}
use Rattle.console_words.specs.Said.{says◌if◌, every}
use Rattle.console_words.specs.Figures.{number, figure}
use Rattle.console_words.specs.Hexadecimal.{bytes}
use Rattle.console_words.specs.Values.{single}
use Rattle.commands.specs.Lists.{◌>>=◌, items, arrayed}

-- The number of pairs of a list: an odd number of pieces has none.
abbrev pub pairs : List ℕ → Option ℕ
pairs list = cond (is_minus list) (Some 0) (says piece_count 44 list / 2 if eqb (piece_count 44 list % 2) 0)

-- The pairs of a list, each as read, in an array that has room for this many.
abbrev pub listed : {A : Type 0} → List ℕ → (ℕ → Option A) → List A → Option (List A)
listed list item blank = do
  n ← pairs list
  arrayed (items item n 0) blank

-- ---- segments

abbrev pub segment_at : List ℕ → ℕ → Option Segment
segment_at list pair = do
  start ← figure (piece_at 44 (2 * pair) list)
  terms ← number (piece_at 44 (2 * pair + 1) list)
  Some (record { start = start; terms = terms })

-- At most 20; what the list leaves out is 0.
abbrev pub segments : List ℕ → Option (List Segment)
segments list = listed list (segment_at list) (replicate 20 no_segment)

-- ---- terms

abbrev pub term_by : ℤ → Value → Option Term
term_by exponent (Single x) = Some (record { exponent = exponent; coefficient = x })
term_by exponent (Whole z) = None
term_by exponent Missing = None

abbrev pub term_at : List ℕ → ℕ → Option Term
term_at list pair = do
  exponent ← figure (piece_at 44 (2 * pair) list)
  coefficient ← single (every (bytes (piece_at 44 (2 * pair + 1) list)))
  term_by exponent coefficient

-- At most 30; what the list leaves out is 0.
abbrev pub zero_term : Term
zero_term = record { exponent = pos 0; coefficient = of_bits binary32 0 }

abbrev pub terms : List ℕ → Option (List Term)
terms list = listed list (term_at list) (replicate 30 zero_term)

-- ---- the curve, of COUNT segments

abbrev pub curve : ℕ → List ℕ → List ℕ → Option Curve
curve count segmentList termList = do
  segments ← segments segmentList
  terms ← terms termList
  Some (record { count = count; segments = segments; terms = terms })
