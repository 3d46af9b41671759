-- Laws of a Single's parts, of the position of its decimal point, and of the field of a date.
use Rattle.listing.proofs.Names.{◌≡◌, ℕ, suc, ◌+◌, ◌-◌, ◌/◌, ◌%◌, ◌≤◌, ◌<◌, arith, ne_eqb, le-leb, lt-leb, lt-ltb, le-ltb, leb, binary32, odd, of_bits, of_fields, Shapes, Raised, Lowered, Whole, Split, Behind}
use Rattle.listing.proofs.Names.{Template, Bridge, Resistance, date_field, true, refl, Err, taken, Refusal}
use Rattle.refusal.specs.declared.Refusal.TheVariants.{WrongImage, WrongSum, PastEnd, WrongBlock, OutsideTable, NotFinite, NotRising, NoSuch, WrongSort, OutOfRange, TooLong, ChangedAlone, NoSpan, OutsideSpan, WrongList, BlankChip, ShortIndex, OtherCode, LevelTooLow, EndOutside, SumsNotRising, TooManyPoints, WrongCurve, TooManyTerms, WrongTicks}

-- ---- the parts

-- The fields of the bits: the exponent's, and the fraction's.
module _ (bits : ℕ) where
  pub subnormal : bits % 2_147_483_648 / 8_388_608 ≡ 0 → of_bits binary32 bits ≡ odd 24 (leb 2_147_483_648 bits) (bits % 8_388_608) 0 149
  unfolding of_bits of_fields
  subnormal e = rw e

  pub normal : (x : ℕ) → bits % 2_147_483_648 / 8_388_608 ≡ suc x → suc x < 255 → of_bits binary32 bits ≡ odd 24 (leb 2_147_483_648 bits) (8_388_608 + bits % 8_388_608) x 149
  unfolding of_bits of_fields
  normal x e h = rw (e, ne_eqb (suc x) 255 (λ f. omega arith))

-- ---- the point

module _ (count up point : ℕ) where
  module _ (p : point < up + count) where
    pub is-raised : 10 < up + count - point → Shapes count up point (Raised (up + count - point - 1))
    is-raised w = record { is = rw (lt-ltb point (up + count) p, lt-ltb 10 (up + count - point) w); worth = λ s. omega arith }

    module _ (w : up + count - point ≤ 10) where
      pub is_whole : count ≤ up + count - point → Shapes count up point (Whole (up + count - point - count))
      is_whole l = record { is = rw (lt-ltb point (up + count) p, le-ltb 10 (up + count - point) w, le-leb count (up + count - point) l); worth = λ s. omega arith }

      pub is-split : up + count - point < count → Shapes count up point (Split (up + count - point))
      is-split l = record { is = rw (lt-ltb point (up + count) p, le-ltb 10 (up + count - point) w, lt-leb count (up + count - point) l); worth = λ s. omega arith }

  module _ (p : up + count ≤ point) where
    pub is-lowered : 4 < point - (up + count) → Shapes count up point (Lowered (point - (up + count) + 1))
    is-lowered w = record { is = rw (le-ltb point (up + count) p, lt-ltb 4 (point - (up + count)) w); worth = λ s. omega arith }

    pub is-behind : point - (up + count) ≤ 4 → Shapes count up point (Behind (point - (up + count)))
    is-behind w = record { is = rw (le-ltb point (up + count) p, le-ltb 4 (point - (up + count)) w); worth = λ s. omega arith }

-- ---- the date

pub date-most : (template : Template) → date_field template ≤ 18
date-most Bridge = omega arith
date-most Resistance = omega arith

-- ---- the small dash

-- Every refusal but one has another number than too many points.
pub other_row : (r : Refusal) → ((points : ℕ) → r ≡ TooManyPoints points → ⊥) → taken (Err r) ≡ true
other_row WrongImage h = refl
other_row (WrongSum place) h = refl
other_row (PastEnd place) h = refl
other_row (WrongBlock place) h = refl
other_row (OutsideTable place) h = refl
other_row (NotFinite place) h = refl
other_row (NotRising place) h = refl
other_row (NoSuch place) h = refl
other_row (WrongSort place) h = refl
other_row (OutOfRange place) h = refl
other_row (TooLong place) h = refl
other_row (ChangedAlone place) h = refl
other_row (NoSpan place) h = refl
other_row OutsideSpan h = refl
other_row (WrongList place) h = refl
other_row BlankChip h = refl
other_row (ShortIndex place) h = refl
other_row (OtherCode place) h = refl
other_row (LevelTooLow place) h = refl
other_row (EndOutside place) h = refl
other_row (SumsNotRising place) h = refl
other_row (TooManyPoints place) h = absurd (h place refl)
other_row (WrongCurve place) h = refl
other_row (TooManyTerms place) h = refl
other_row (WrongTicks place) h = refl
