-- Laws of a returned sheet that is passed again, and of the kind of an image's length.
use Rattle.dartelm.proofs.Names.{◌≡◌, refl, ap, ◌∙◌, Bool, true, false, not, List, [], ◌∷◌, map, map-append, ℕ, zero, suc, ◌<◌, arith, ℤ, pos, Float, eqb, replicate, length-map, eqb-true, Ok, ◌>>◌}
use Rattle.dartelm.proofs.Names.{refuse◌if◌, WrongImage, Sizes, image_sizes, Value, Whole, Single, Missing, Template, Bridge, Resistance, number_of, slot, SplitValues, sheet_lent, split-sheet, end_code, Domain}
use Rattle.dartelm.proofs.Names.{Options, DartelmFields, yes, level_of, template_by, options_of, template_flag, value_of, by_flags, no_value, slot_of, sheet_of, kind_of, SheetAgain}

pub value-again : (v : Value) → value_of (by_flags v) ≡ v
value-again (Whole z) = refl
value-again (Single x) = refl
value-again Missing = refl

values-again : (vs : List Value) → map slot_of (map by_flags vs) ≡ map slot vs
values-again [] = refl
values-again (v ∷ vs) = rw (value-again v, values-again vs)

flag-again : (b : Bool) → yes (end_code b) ≡ b
flag-again true = refl
flag-again false = refl

zeros-again : (n : ℕ) → map slot_of (replicate n no_value) ≡ replicate n (slot (Whole (pos 0)))
zeros-again zero = refl
zeros-again (suc n) = ap (λ l. slot (Whole (pos 0)) ∷ l) (zeros-again n)

template-again : (t : Template) → template_by (template_flag t) ≡ t
template-again Bridge = refl
template-again Resistance = refl

-- A template's number is a byte.
pub number_small : (t : Template) {n : ℕ} → n ≡ number_of t → n < 256
number_small Bridge e = omega arith
number_small Resistance e = omega arith

pub sheet-again : SheetAgain
sheet-again s =
    rw (template-again s.summary.template, map-append, values-again s.values, zeros-again, flag-again s.summary.end_bit, length-map s.values by_flags, length-map s.values slot)

-- The sheet record that is passed is the one whose values are lent.
pub handed-sheet : (f : DartelmFields) {o : Options} {d : Domain} {tags : List ℕ} {wholes : List ℤ} {singles : List Float} → o ≡ options_of f.is_resistance f.end_bit d
    → SplitValues (map slot_of f.values) tags wholes singles → sheet_lent o.template o.end_bit (level_of f.level) tags wholes singles ≡ sheet_of f
handed-sheet f {tags = tags} {wholes} {singles} e s =
    ap (λ (x : Options). sheet_lent x.template x.end_bit (level_of f.level) tags wholes singles) e ∙ split-sheet (sheet_of f) s

-- ---- kinds

sized : (t : Bool) (y z : Sizes) → (refuse WrongImage if not t >> Ok y) ≡ Ok z → t ≡ true
sized true y z e = refl
sized false y z e = absurd (let n : ◌≡◌ {A = ℕ} 0 1 = cc in omega arith)

-- If an image's length is a kind's, the kind of that length is this one.
pub kind_fits : (kind bytes : ℕ) (z : Sizes) → image_sizes kind bytes ≡ Ok z → kind_of bytes ≡ kind
unfolding kind_of image_sizes
kind_fits zero bytes z e = rw (eqb-true bytes 40 (sized (eqb bytes 40) _ z e))
kind_fits (suc zero) bytes z e = rw (eqb-true bytes 128 (sized (eqb bytes 128) _ z e))
kind_fits (suc (suc zero)) bytes z e = rw (eqb-true bytes 512 (sized (eqb bytes 512) _ z e))
kind_fits (suc (suc (suc kind))) bytes z e = absurd (let n : ◌≡◌ {A = ℕ} 0 1 = cc in omega arith)
