-- How a field's value is shown (docs/CONSOLE.md, `show`). A code is shown as text by the number of template
-- 33's field that has this text: the version letter 3, the calibration date 18, the initials 19.
use Rattle.std.specs.Prelude.{cond, ℕ, ◌+◌, eqb}
use Rattle.codes.specs.declared.Value.{Value}
use Rattle.codes.specs.declared.Value.TheVariants.{Whole, Single, Missing}
use Rattle.templates.specs.declared.Template.{Template}
use Rattle.templates.specs.declared.Template.TheVariants.{Bridge, Resistance}
use Rattle.listing.specs.declared.values.Form.{Form}
use Rattle.listing.specs.declared.values.Form.TheVariants.{Text, Named, Figure, Single as SingleForm, Missing as MissingForm}

-- The calibration date; the initials are the next field.
abbrev pub date_field : Template → ℕ
date_field Bridge = 18
date_field Resistance = 16

-- 0 if a field has no text.
abbrev pub text_field : Template → ℕ → ℕ
text_field template field =
    cond (eqb field 3) 3
    (cond (eqb field (date_field template)) 18
    (cond (eqb field (date_field template + 1)) 19 0))

-- A whole number has its text; without one field 12 has names, the bridge type's or the mapping method's, and any other a unit.
abbrev pub form_of : Template → ℕ → Value → Form
form_of template field (Whole figure) =
    cond (eqb (text_field template field) 0)
    (cond (eqb field 12) (Named figure) (Figure figure))
    (Text (text_field template field) figure)
form_of template field (Single x) = SingleForm x
form_of template field Missing = MissingForm
