-- What a caller can lend: a sheet record of 21 slots and a
-- curve of 20 segments and 30 terms, whose Singles are f32.
use Rattle.std.specs.Prelude.{◌≡◌, List, [], ◌∷◌, length}
use Rattle.codes.specs.declared.Value.TheVariants.{Single}
use Rattle.templates.specs.declared.Term.{Term}
use Rattle.templates.specs.declared.Curve.{Curve}
use Rattle.codes.specs.Stored.{Real}
use Rattle.build.specs.declared.Slot.{Slot}
use Rattle.build.specs.declared.Sheet.{Sheet}
use Rattle.build.specs.Build.{Table, listed, by_curve}

abbrev pub AllReal : List Slot → Type 0
AllReal [] = Unit {0}
AllReal (s ∷ slots) = Real s.value × AllReal slots

pub record Lendable (sheet : Sheet) : Type 0 where
  pub fields : length sheet.fields ≡ 21
  pub singles : AllReal sheet.fields

abbrev pub AllRealTerms : List Term → Type 0
AllRealTerms [] = Unit {0}
AllRealTerms (t ∷ terms) = Real (Single t.coefficient) × AllRealTerms terms

pub record LendableCurve (curve : Curve) : Type 0 where
  pub segments : length curve.segments ≡ 20
  pub terms : length curve.terms ≡ 30
  pub coefficients : AllRealTerms curve.terms

-- Any points list, or such a curve.
abbrev pub LendableTable : Table → Type 0
LendableTable (listed domain points) = Unit {0}
LendableTable (by_curve curve) = LendableCurve curve
