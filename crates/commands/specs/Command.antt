-- docs/CONSOLE.md: which command a line is, by its first word and its number of words, the first counted.
use Rattle.std.specs.Prelude.{◌&&◌, cond, List, [], ◌∷◌, ℕ, eqb}
use Prim.Native.String.{String, [] as end, ◌∷◌ as ◌then◌}
use Prim.Native.Char.{code}
use Rattle.texts.specs.Text.{same}
use Rattle.console_words.specs.Words.{word_count, word_at}
use Rattle.commands.specs.declared.choosing.Command.{Command}
use Rattle.commands.specs.declared.choosing.Command.TheVariants.{Help, Distance, Text, Code, Check, Show, Page, Field, Pair, Segment, Term, Char, Index, Next, Conform, Fetch, Reading, Compare, Change, Propose, Commit, Build, Unknown}

-- The characters' numbers.
abbrev pub letters : String → List ℕ
letters end = []
letters (c then s) = code c ∷ letters s

pub record Row : Type 0 where
  pub name : String
  pub words : ℕ
  pub command : Command

abbrev pub row : String → ℕ → Command → Row
row name words command = record { name = name; words = words; command = command }

-- The lines of `help`. A build has 19 or 21 values, and besides them 9 words with points, 11 with a curve.
abbrev pub rows : List Row
rows =
    row "check" 3 Check
    ∷ row "page" 4 Page
    ∷ row "field" 4 Field
    ∷ row "pair" 4 Pair
    ∷ row "segment" 4 Segment
    ∷ row "term" 4 Term
    ∷ row "char" 4 Char
    ∷ row "reading" 5 Reading
    ∷ row "compare" 5 Compare
    ∷ row "show" 3 Show
    ∷ row "build" 28 Build
    ∷ row "build" 30 Build
    ∷ row "build" 32 Build
    ∷ row "distance" 2 Distance
    ∷ row "conform" 4 Conform
    ∷ row "change" 6 Change
    ∷ row "index" 4 Index
    ∷ row "fetch" 5 Fetch
    ∷ row "propose" 6 Propose
    ∷ row "commit" 7 Commit
    ∷ row "next" 4 Next
    ∷ row "text" 3 Text
    ∷ row "code" 3 Code
    ∷ row "help" 1 Help
    ∷ []

-- The row whose name is the first word, and whose number of words is the line's.
abbrev pub found : List Row → List ℕ → ℕ → Command
found [] name words = Unknown
found (row ∷ rows) name words = cond (eqb words row.words && same name (letters row.name)) row.command (found rows name words)

abbrev pub named : List ℕ → ℕ → Command
named name words = found rows name words

abbrev pub command_of : List ℕ → Command
command_of line = named (word_at 0 line) (word_count line)
