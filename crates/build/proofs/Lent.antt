-- Laws of the lent values of a sheet: sorts, whole numbers and Singles.
use Rattle.build.proofs.Names.{◌≡◌, refl, ap, ap₂, ◌∙◌, Bool, List, [], ◌∷◌, ◌++◌, ℕ, zero, suc, ◌<◌, arith, ℤ, Float, length, get_or, Ok, ◌>>=◌, bind-same, piece, Missing, Template, Level, encode}
use Rattle.build.proofs.Names.{Line, chose, basic, template_lines, number_of, block_pieces, Sheet, CodedField, Listed, Outcome, slot, lent, line_pieces, field_pieces, value_lent, slots_lent, LentLengths, sheet_lent}
use Rattle.build.proofs.Names.{fields_lent, FieldsPlanned}

-- ---- the slots

slot_at : (tags : List ℕ) (wholes : List ℤ) (singles : List Float) (i : ℕ) → i < length tags → i < length wholes → i < length singles →
    (get_or (slots_lent tags wholes singles) i (slot Missing)).value ≡ value_lent tags wholes singles i
slot_at [] wholes singles i a b c = absurd (omega arith)
slot_at (x ∷ tags) [] singles i a b c = absurd (omega arith)
slot_at (x ∷ tags) (y ∷ wholes) [] i a b c = absurd (omega arith)
slot_at (x ∷ tags) (y ∷ wholes) (z ∷ singles) zero a b c = refl
slot_at (x ∷ tags) (y ∷ wholes) (z ∷ singles) (suc i) a b c = slot_at tags wholes singles i (omega arith) (omega arith) (omega arith)

-- ---- a sheet of these slots

module _ {tags : List ℕ} {wholes : List ℤ} {singles : List Float} (long : LentLengths tags wholes singles) where
  pub long-slot : (i : ℕ) → i < 21 → (get_or (slots_lent tags wholes singles) i (slot Missing)).value ≡ value_lent tags wholes singles i
  long-slot i h = slot_at tags wholes singles i (omega (arith, long.sorted)) (omega (arith, long.whole)) (omega (arith, long.single))

-- The outcome of the fields, whatever the rest of the sheet.
module _ (template : Template) (end_bit : Bool) (level : Level) (tags : List ℕ) (wholes : List ℤ) (singles : List Float) where
  abbrev bare : Sheet
  bare = fields_lent template tags wholes singles

  abbrev whole : Sheet
  whole = sheet_lent template end_bit level tags wholes singles

  lines-alike : (lines : List Line) (latest f : ℕ) → line_pieces bare lines latest f ≡ line_pieces whole lines latest f
  unfolding line_pieces
  lines-alike [] latest f = refl
  lines-alike (l ∷ lines) latest f = bind-same (encode (l.row_at latest) f (lent whole f)) (λ code.
      ap (λ o. o >>= λ rest. Ok (piece (l.row_at latest).width code ∷ rest)) (lines-alike lines (chose l.sets code latest) (suc f)))

  fields-alike : field_pieces bare ≡ field_pieces whole
  unfolding field_pieces
  fields-alike = ap₂ (λ o p. o >>= λ basics. p >>= λ own. Ok (basics ++ (block_pieces (number_of template) ++ own)))
      (lines-alike basic 0 1) (lines-alike (template_lines template) 0 (suc (length basic)))

  pub planned-alike : {fields : List CodedField} {r : Outcome Listed} → FieldsPlanned bare fields r → FieldsPlanned whole fields r
  planned-alike p = record { said = p.said ∙ fields-alike; fit = p.fit; count = p.count }
