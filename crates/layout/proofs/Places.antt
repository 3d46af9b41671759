-- Laws of the fields of a sheet: row, place, code and value of each, in closed form.
use Rattle.layout.proofs.Names.{◌≡◌, refl, sym, ap, ap₂, ◌∙◌, subst, subst₂, Bool, true, cond, List, [], ◌∷◌, ◌++◌, map, ℕ, zero, suc, ◌+◌, ◌-◌, ◌≤◌, ◌<◌, arith, dec_lt, ltb, length, get_or, length-append, lt-ltb}
use Rattle.layout.proofs.Names.{le-ltb, needed, Template, Line, basic, template_lines, lines_of, last_field, line_of, row_of, rows_of, bits_before, no_line, Contents, nothing, field, last_choice, layout_of, block_bits}
use Rattle.layout.proofs.Names.{field_place, behind_fields}
use Rattle.layout.proofs.Fields.{piece_of, FieldAt, laid-length}
use Rattle.layout.proofs.Choices.{MetAt, met-field, met-bits, met-rows, bits-append, bits-front, last-append, basic-met, basic-last, template-met, steady-set, lines-steady}
use Rattle.layout.proofs.Sheets.{Formed}

-- ---- an element of two lists joined

module _ {A : Type 0} (none : A) where
  pub get-front : (xs ys : List A) (i : ℕ) → i < length xs → get_or (xs ++ ys) i none ≡ get_or xs i none
  get-front [] ys i h = absurd (omega arith)
  get-front (x ∷ xs) ys zero h = refl
  get-front (x ∷ xs) ys (suc i) h = get-front xs ys i (omega arith)

  pub get-back : (xs ys : List A) (i : ℕ) → length xs ≤ i → get_or (xs ++ ys) i none ≡ get_or ys (i - length xs) none
  get-back [] ys i h = ap (λ (n : ℕ). get_or ys n none) (omega arith)
  get-back (x ∷ xs) ys zero h = absurd (omega arith)
  get-back (x ∷ xs) ys (suc i) h = get-back xs ys i (omega arith) ∙ ap (λ (n : ℕ). get_or ys n none) (omega arith)

map-append : {A B : Type 0} (f : A → B) (xs ys : List A) → map f (xs ++ ys) ≡ map f xs ++ map f ys
map-append f [] ys = refl
map-append f (x ∷ xs) ys = ap (λ q. f x ∷ q) (map-append f xs ys)

-- ---- the fields of a sheet

module _ {S : ℕ} {c : Contents} (h : Formed S c) where
  abbrev t : Template
  t = c.template

  abbrev none : Line
  none = no_line

  basics-count : length h.basics ≡ length basic
  basics-count = laid-length basic 0 0 h.basics h.basics_laid

  own-count : length h.own ≡ length (template_lines t)
  own-count = laid-length (template_lines t) 0 h.own_at h.own h.own_laid

  pub fields-count : length c.fields ≡ last_field t
  unfolding lines_of
  fields-count = omega (arith, ap length h.fields, length-append h.basics h.own, length-append basic (template_lines t), basics-count, own-count)

  abbrev choice : ℕ
  choice = (layout_of c).precision

  choice-is : choice ≡ last_choice (template_lines t) h.own 0
  unfolding lines_of
  choice-is =
      ap (λ xs. last_choice (lines_of t) xs 0) h.fields
      ∙ last-append basic (template_lines t) h.basics h.own 0 basics-count
      ∙ ap (last_choice (template_lines t) h.own) (basic-last h.basics 0)

  -- The choice is the code of the field that sets widths.
  pub choice-is-code : (f : ℕ) → 1 ≤ f → f ≤ last_field t → (line_of t f).sets ≡ true → choice ≡ (field c f).code
  choice-is-code f lo hi e = steady-set (lines_of t) (lines-steady t) c.fields 0 (f - 1) none fields-count (omega arith) e

  gap : {b d : Bool} → b ≡ d → cond b block_bits 0 ≡ cond d block_bits 0
  gap e = ap (λ (b : Bool). cond b block_bits 0) e

  basic-bits : needed (map piece_of h.basics) ≡ bits_before basic choice (length basic)
  basic-bits = met-bits choice basic 0 0 h.basics h.basics_laid (basic-met h.basics 0 choice)

  -- Basic has 64 bits.
  pub basic-is-64 : needed (map piece_of h.basics) ≡ 64
  unfolding basic
  basic-is-64 = basic-bits

  own-met : MetAt (template_lines t) h.own 0 choice
  own-met = subst (MetAt (template_lines t) h.own 0) (sym choice-is) (template-met t h.own 0)

  -- Field i, counted from 0.
  abbrev place : ℕ → ℕ
  place i = bits_before (basic ++ template_lines t) choice i + cond (ltb (length basic) (suc i)) block_bits 0

  abbrev Here : ℕ → Type 0
  Here i = FieldAt ((get_or (basic ++ template_lines t) i none).row_at choice) (place i) (get_or (h.basics ++ h.own) i nothing)

  in-basic : (i : ℕ) → i < length basic → Here i
  in-basic i l =
      let e : 0 + bits_before basic choice i ≡ place i =
      omega (arith, bits-front basic (template_lines t) choice i (omega arith), gap (le-ltb (length basic) (suc i) (omega arith))) in
      subst (λ x. FieldAt ((get_or (basic ++ template_lines t) i none).row_at choice) (place i) x) (sym (get-front nothing h.basics h.own i (omega (arith, basics-count))))
      (subst₂ (λ (r : Line) (n : ℕ). FieldAt (r.row_at choice) n (get_or h.basics i nothing)) (sym (get-front none basic (template_lines t) i l)) e
      (met-field choice basic 0 0 h.basics h.basics_laid (basic-met h.basics 0 choice) i none (omega (arith, basics-count))))

  in-own : (i : ℕ) → length basic ≤ i → i < last_field t → Here i
  unfolding lines_of
  in-own i l m =
      let j : ℕ = i - length basic in
      let k : length basic + j ≡ i = omega arith in
      let e : h.own_at + bits_before (template_lines t) choice j ≡ place i =
      omega (
        arith,
        h.own-at,
        basic-bits,
        bits-append basic (template_lines t) choice j,
        ap (bits_before (basic ++ template_lines t) choice) k,
        gap (lt-ltb (length basic) (suc i) (omega arith)),
      ) in
      subst (λ x. FieldAt ((get_or (basic ++ template_lines t) i none).row_at choice) (place i) x)
      (sym (get-back nothing h.basics h.own i (omega (arith, basics-count)) ∙ ap (λ (n : ℕ). get_or h.own (i - n) nothing) basics-count))
      (subst₂ (λ (r : Line) (n : ℕ). FieldAt (r.row_at choice) n (get_or h.own j nothing)) (sym (get-back none basic (template_lines t) i l)) e
      (met-field choice (template_lines t) 0 h.own_at h.own h.own_laid own-met j none (omega (arith, own-count, length-append basic (template_lines t)))))

  -- Field f, counted from 1.
  pub field-at : (f : ℕ) → 1 ≤ f → f ≤ last_field t → FieldAt (row_of (layout_of c) f) (field_place (layout_of c) f) (field c f)
  unfolding lines_of field_place
  field-at f lo hi =
      let e : suc (f - 1) ≡ f = omega arith in
      subst₂ (λ xs (n : ℕ). FieldAt (row_of (layout_of c) f) (bits_before (basic ++ template_lines t) choice (f - 1) + cond (ltb (length basic) n) block_bits 0) (get_or xs (f - 1) nothing))
      (sym h.fields) e (go (dec_lt (f - 1) (length basic)))
    where
      go : Dec (f - 1 < length basic) → Here (f - 1)
      go (yes l) = in-basic (f - 1) l
      go (no l) = in-own (f - 1) (omega arith) (omega arith)

  -- The rows of all fields.
  pub fields-rows : map (λ x. x.row) c.fields ≡ rows_of (lines_of t) choice
  unfolding lines_of
  fields-rows =
      ap (map (λ x. x.row)) h.fields ∙ map-append (λ x. x.row) h.basics h.own
      ∙ ap₂ (λ p q. p ++ q) (met-rows choice basic 0 0 h.basics h.basics_laid (basic-met h.basics 0 choice))
      (met-rows choice (template_lines t) 0 h.own_at h.own h.own_laid own-met)
      ∙ sym (map-append (λ l. l.row_at choice) basic (template_lines t))

  pub behind-is : h.behind ≡ behind_fields (layout_of c)
  unfolding field_place lines_of
  behind-is =
      omega (
        arith,
        h.behind-at,
        h.own-at,
        basic-bits,
        met-bits choice (template_lines t) 0 h.own_at h.own h.own_laid own-met,
        bits-append basic (template_lines t) choice (length (template_lines t)),
        ap (bits_before (basic ++ template_lines t) choice) all,
        gap (lt-ltb (length basic) (suc (last_field t)) (omega (arith, length-append basic (template_lines t)))),
      )
    where
      all : length basic + length (template_lines t) ≡ suc (length (basic ++ template_lines t)) - 1
      all = omega (arith, length-append basic (template_lines t))
