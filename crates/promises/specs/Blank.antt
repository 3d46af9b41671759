-- Document 02, Note 1: "An image whose pages are all blank,
-- whatever its register holds, is named blank", and no other is.
use Rattle.std.specs.Prelude.{◌≡◌, List, ℕ, ◌≤◌, ◌<◌, length, get_or}
use Rattle.refusal.specs.Outcome.{Ok, Err}
use Rattle.refusal.specs.declared.Refusal.TheVariants.{BlankChip}
use Rattle.memory.specs.declared.Sizes.{Sizes}
use Rattle.memory.specs.Image.{image_sizes, image_bytes}
use Rattle.layout.specs.Image.{contents}

-- Every byte after the register is hexadecimal FF.
abbrev pub AllBlank : Sizes → List ℕ → Type 0
AllBlank z image = (i : ℕ) → z.register ≤ i → i < image_bytes z → get_or image i 0 ≡ 0xFF

pub record BlankExactly (kind : ℕ) (image : List ℕ) (z : Sizes) : Type 0 where
  pub named : AllBlank z image → contents kind image ≡ Err BlankChip
  pub blank : contents kind image ≡ Err BlankChip → AllBlank z image

-- An image is named blank exactly if all its pages are.
abbrev pub NamedBlank : Type 0
NamedBlank = (kind : ℕ) (image : List ℕ) (z : Sizes) → image_sizes kind (length image) ≡ Ok z → BlankExactly kind image z
