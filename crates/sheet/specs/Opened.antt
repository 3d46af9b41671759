-- Only inner contracts need this: an accepted sheet opened once, and what holds of it.
use Rattle.std.specs.Prelude.{◌≡◌, List, ℕ, leb, length}
use Rattle.refusal.specs.Outcome.{Outcome, Ok, ◌>>=◌, ◌>>◌, refuse◌if◌}
use Rattle.refusal.specs.declared.Refusal.TheVariants.{NoSuch}
use Rattle.memory.specs.declared.Sizes.{Sizes}
use Rattle.memory.specs.Image.{image_sizes}
use Rattle.layout.specs.Contents.{Contents}
use Rattle.layout.specs.Image.{contents, layout_of}
use Rattle.layout.specs.Places.{behind_fields}
use Rattle.sheet.specs.declared.Summary.{Summary}
use Rattle.sheet.specs.declared.opening.Item.{Item}
use Rattle.sheet.specs.declared.opening.Item.TheVariants.{Pair, Character, Segment, Term}
use Rattle.sheet.specs.declared.opening.Opened.{Opened}
use Rattle.sheet.specs.Check.{summary}

-- The sizes of an accepted image, what its rows depend on,
-- the place after its fields, and the check's summary.
abbrev pub opened_as : Sizes → Contents → Opened
opened_as z c = record { sizes = z; layout = layout_of c; behind = record { at = behind_fields (layout_of c) }; summary = summary c }

unfoldable pub opened : ℕ → List ℕ → Outcome Opened
opened kind image = do
  z ← image_sizes kind (length image)
  c ← contents kind image
  Ok (opened_as z c)

-- ---- an element of an accepted sheet by its index: check, then 8

abbrev pub counted : Item → Summary → ℕ
counted Pair s = s.points
counted Character s = s.characters
counted Segment s = s.segments
counted Term s = s.terms

abbrev pub opened_at : ℕ → List ℕ → Item → ℕ → Outcome Opened
opened_at kind image item i = do
  o ← opened kind image
  refuse NoSuch i if leb (counted item o.summary) i
  Ok o

-- ---- what holds of it

-- An image of a kind that was accepted and opened as o.
pub record Opens (kind : ℕ) (image : List ℕ) (o : Opened) (c : Contents) : Type 0 where
  pub sized : image_sizes kind (length image) ≡ Ok o.sizes
  pub accepted : contents kind image ≡ Ok c
  pub is : o ≡ opened_as o.sizes c

-- An accepted image that was opened as o, for any kind and contents.
pub record Held (o : Opened) (image : List ℕ) : Type 0 where
  pub kind : ℕ
  pub holds : Contents
  pub opens : Opens kind image o holds
