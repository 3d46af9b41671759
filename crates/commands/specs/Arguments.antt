-- docs/CONSOLE.md: which words of a line are the kind and the image, and
-- which are the values of an edit. Words are counted from 0, the command.
use Rattle.std.specs.Prelude.{List, ℕ}
use Rattle.std.specs.Prelude.{Option, None, Some, option_map}
use Rattle.console_words.specs.Words.{word_at}
use Rattle.console_words.specs.Said.{Held, filled}
use Rattle.console_words.specs.Figures.{number}
use Rattle.console_words.specs.Hexadecimal.{bytes}
use Rattle.console_words.specs.Values.{value}
use Rattle.console_words.specs.Levels.{level}
use Rattle.commands.specs.declared.arguments.Chip.{Chip}
use Rattle.commands.specs.declared.edits.Edit.{Edit}
use Rattle.commands.specs.declared.edits.Exchange.{Exchange}
use Rattle.commands.specs.Kinds.{kind_of}
use Rattle.commands.specs.Lists.{◌>>=◌}

-- ---- KIND IMAGE, words 1 and 2

-- The chip, and the buffer that has its image at the start.
pub record Lent : Type 0 where
  pub chip : Option Chip
  pub room : List ℕ

abbrev pub chip_of : ℕ → Held ℕ → Lent
chip_of kind image = record { chip = option_map (λ (length : ℕ). record { kind = kind_of kind; length = length }) image.count; room = image.all }

-- If word 1 is no number, or word 2 no image, the buffer is unchanged.
abbrev pub lent_by : Option ℕ → List ℕ → List ℕ → Lent
lent_by None word room = record { chip = None; room = room }
lent_by (Some kind) word room = chip_of kind (filled (bytes word) room)

abbrev pub lent : List ℕ → List ℕ → Lent
lent line room = lent_by (number (word_at 1 line)) (word_at 2 line) room

abbrev pub lent_said : Option Chip → List ℕ → Lent
lent_said (Some chip) room = record { chip = Some chip; room = room }
lent_said None room = record { chip = None; room = room }

-- ---- FIELD VALUE LEVEL, words 3 to 5

abbrev pub edit : List ℕ → Option Edit
edit line = do
  field ← number (word_at 3 line)
  value ← value (word_at 4 line)
  level ← level (word_at 5 line)
  Some (record { field = field; value = value; level = level })

-- ---- FIELD PRESENT NEW LEVEL, words 3 to 6

abbrev pub exchange : List ℕ → Option Exchange
exchange line = do
  field ← number (word_at 3 line)
  present ← number (word_at 4 line)
  new ← number (word_at 5 line)
  level ← level (word_at 6 line)
  Some (record { field = field; present = present; new = new; level = level })
