-- Document 01, "Layout" and "Turning down": "Text and codes
-- are turned by value into each other." Order: 8, 9, 10.
use Rattle.std.specs.Prelude.{Bool, true, false, not, ◌&&◌, cond, List, [], ◌∷◌, ◌++◌, ℕ, zero, suc, ◌-◌, eqb, length, replicate, pos}
use Rattle.refusal.specs.Outcome.{Outcome, Ok, Err, ◌>>◌, ◌>>=◌, refuse◌if◌}
use Rattle.refusal.specs.declared.Refusal.TheVariants.{NoSuch, WrongSort, OutOfRange}
use Rattle.codes.specs.declared.Value.TheVariants.{Whole}
use Rattle.codes.specs.declared.Row.{Row}
use Rattle.codes.specs.Rules.{all_ones, encode}
use Rattle.templates.specs.Rows.{version_letter, cal_date, cal_initials}
use Rattle.texts.specs.declared.Text.{Text}
use Rattle.texts.specs.Letters.{letters_text}
use Rattle.texts.specs.Dates.{date_text}

-- A field that has a text: its row, the text's length, and the text of a code.
pub record Texted : Type 0 where
  pub row : Row
  pub length : ℕ
  pub text_of : ℕ → List ℕ

-- "one character for field 3, three for 19", ten for 18; no other field has a text.
abbrev pub texted : ℕ → Outcome Texted
texted field =
    cond (eqb field 3) (Ok (record { row = version_letter; length = 1; text_of = letters_text 1 }))
    (cond (eqb field 18) (Ok (record { row = cal_date; length = 10; text_of = date_text }))
    (cond (eqb field 19) (Ok (record { row = cal_initials; length = 3; text_of = letters_text 3 }))
    (Err (NoSuch field))))

-- The text of a code that the field can hold and that does not mean missing.
unfoldable pub text_of : ℕ → ℕ → Outcome (List ℕ)
text_of field code = do
  t ← texted field
  held ← encode t.row field (Whole (pos code))
  Ok (t.text_of held)

abbrev pub same : List ℕ → List ℕ → Bool
same [] [] = true
same [] (d ∷ m) = false
same (c ∷ l) [] = false
same (c ∷ l) (d ∷ m) = eqb c d && same l m

-- Of codes 0 to n, the one whose text this is.
unfoldable pub whose_text : (ℕ → List ℕ) → List ℕ → Outcome ℕ → ℕ → Outcome ℕ
whose_text text_of text none zero = cond (same (text_of 0) text) (Ok 0) none
whose_text text_of text none (suc n) = cond (same (text_of (suc n)) text) (Ok (suc n)) (whose_text text_of text none n)

-- The code whose text this is, if the field can hold it.
unfoldable pub code_of : ℕ → List ℕ → Outcome ℕ
code_of field text = do
  t ← texted field
  refuse WrongSort field if not (eqb (length text) t.length)
  code ← whose_text t.text_of text (Err (OutOfRange field)) (all_ones t.row.width)
  encode t.row field (Whole (pos code))

-- ---- the answers

-- The length, and the characters, then zeros; or the refusal.
abbrev pub text_said : Outcome (List ℕ) → Outcome Text
text_said (Ok text) = Ok (record { length = length text; characters = text ++ replicate (10 - length text) 0 })
text_said (Err r) = Err r
