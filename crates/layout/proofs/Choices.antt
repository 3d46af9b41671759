-- Laws of lines that set widths at most once: every row is the
-- row at the last choice, which gives a field's place and row.
use Rattle.layout.proofs.Names.{◌≡◌, refl, sym, ap, ap₂, ◌∙◌, subst, subst₂, Bool, true, false, true≢false, List, [], ◌∷◌, ◌++◌, map, ℕ, zero, suc, ◌+◌, ◌≤◌, ◌<◌, zero-add, arith, length, get_or, needed, Row}
use Rattle.layout.proofs.Names.{Template, Bridge, Resistance, Line, chose, basic, template33, template32, template_lines, lines_of, rows_of, bits_before, Found, nothing, last_choice}
use Rattle.layout.proofs.Fields.{piece_of, FieldAt, row_is, width_is, Laid}

-- ---- lines

-- A row that depends on no choice.
abbrev pub Fixed : Line → Type 0
Fixed l = (c d : ℕ) → l.row_at c ≡ l.row_at d

abbrev pub AllFixed : List Line → Type 0
AllFixed [] = Unit {0}
AllFixed (l ∷ lines) = Fixed l × AllFixed lines

-- At most one line sets widths, and no row up to it depends
-- on the choice. `done` says whether it has been passed.
abbrev pub Steady : Bool → List Line → Type 0
Steady done [] = Unit {0}
Steady true (l ∷ lines) = (l.sets ≡ false) × Steady true lines
Steady false (l ∷ lines) = Fixed l × Steady l.sets lines

-- ---- the fields on these lines

-- Every row is the row at one choice.
abbrev pub MetAt : List Line → List Found → ℕ → ℕ → Type 0
MetAt [] xs latest choice = Unit {0}
MetAt (l ∷ lines) [] latest choice = Unit {0}
MetAt (l ∷ lines) (x ∷ xs) latest choice = (l.row_at latest ≡ l.row_at choice) × MetAt lines xs (chose l.sets x.code latest) choice

settled-last : (lines : List Line) → Steady true lines → (xs : List Found) (latest : ℕ) → last_choice lines xs latest ≡ latest
settled-last [] h xs latest = refl
settled-last (l ∷ lines) h [] latest = refl
settled-last (l ∷ lines) h (x ∷ xs) latest =
    ap (λ (t : Bool). last_choice lines xs (chose t x.code latest)) h.0 ∙ settled-last lines h.1 xs latest

settled-met : (lines : List Line) → Steady true lines → (xs : List Found) (latest : ℕ) → MetAt lines xs latest latest
settled-met [] h xs latest = tt
settled-met (l ∷ lines) h [] latest = tt
settled-met (l ∷ lines) h (x ∷ xs) latest =
    (refl, subst (λ (t : Bool). MetAt lines xs (chose t x.code latest) latest) (sym h.0) (settled-met lines h.1 xs latest))

pub steady-met : (lines : List Line) → Steady false lines → (xs : List Found) (latest : ℕ) → MetAt lines xs latest (last_choice lines xs latest)
steady-met [] h xs latest = tt
steady-met (l ∷ lines) h [] latest = tt
steady-met (l ∷ lines) h (x ∷ xs) latest = (h.0 latest _, go (λ s. steady-met lines s xs latest) l.sets h.1)
  where
    go : (Steady false lines → MetAt lines xs latest (last_choice lines xs latest)) → (t : Bool) → Steady t lines →
        MetAt lines xs (chose t x.code latest) (last_choice lines xs (chose t x.code latest))
    go others true s = subst (λ (c : ℕ). MetAt lines xs x.code c) (sym (settled-last lines s xs x.code)) (settled-met lines s xs x.code)
    go others false s = others s

settled-none : (lines : List Line) → Steady true lines → (i : ℕ) (none : Line) → i < length lines → (get_or lines i none).sets ≡ false
settled-none [] h i none n = absurd (omega arith)
settled-none (l ∷ lines) h zero none n = h.0
settled-none (l ∷ lines) h (suc i) none n = settled-none lines h.1 i none (omega arith)

-- The code of the field that sets widths is the last choice.
pub steady-set : (lines : List Line) → Steady false lines → (xs : List Found) (latest i : ℕ) (none : Line) → length xs ≡ length lines → i < length lines →
    (get_or lines i none).sets ≡ true → last_choice lines xs latest ≡ (get_or xs i nothing).code
steady-set [] h xs latest i none e n t = absurd (omega arith)
steady-set (l ∷ lines) h [] latest i none e n t = absurd (omega arith)
steady-set (l ∷ lines) h (x ∷ xs) latest zero none e n t = rw t (settled-last lines (rw t at h.1) xs x.code)
steady-set (l ∷ lines) h (x ∷ xs) latest (suc i) none e n t = go (λ s. steady-set lines s xs latest i none (omega arith) (omega arith) t) l.sets h.1
  where
    go : (Steady false lines → last_choice lines xs latest ≡ (get_or xs i nothing).code) → (b : Bool) → Steady b lines →
        last_choice lines xs (chose b x.code latest) ≡ (get_or xs i nothing).code
    go others true s = absurd (true≢false (sym t ∙ settled-none lines s i none (omega arith)))
    go others false s = others s

module _ (choice : ℕ) where
  -- Field i, counted from 0, and the bits of all fields.
  pub met-field : (lines : List Line) (latest at : ℕ) (xs : List Found) → Laid lines latest at xs → MetAt lines xs latest choice →
      (i : ℕ) (none : Line) → i < length xs → FieldAt ((get_or lines i none).row_at choice) (at + bits_before lines choice i) (get_or xs i nothing)
  met-field [] latest at [] h m i none n = absurd (omega arith)
  met-field [] latest at (x ∷ xs) h m i none n = absurd h
  met-field (l ∷ lines) latest at [] h m i none n = absurd h
  met-field (l ∷ lines) latest at (x ∷ xs) h m zero none n =
      let e : at ≡ at + 0 = omega arith in
      subst₂ (λ (r : Row) (k : ℕ). FieldAt r k x) m.0 e h.0
  met-field (l ∷ lines) latest at (x ∷ xs) h m (suc i) none n =
      let e : at + (l.row_at latest).width + bits_before lines choice i ≡ at + ((l.row_at choice).width + bits_before lines choice i) =
      omega (arith, ap (λ r. r.width) m.0) in
      subst (λ (k : ℕ). FieldAt ((get_or lines i none).row_at choice) k (get_or xs i nothing)) e
      (met-field lines (chose l.sets x.code latest) (at + (l.row_at latest).width) xs h.1 m.1 i none (omega arith))

  pub met-bits : (lines : List Line) (latest at : ℕ) (xs : List Found) → Laid lines latest at xs → MetAt lines xs latest choice →
      needed (map piece_of xs) ≡ bits_before lines choice (length lines)
  met-bits [] latest at [] h m = refl
  met-bits [] latest at (x ∷ xs) h m = absurd h
  met-bits (l ∷ lines) latest at [] h m = absurd h
  met-bits (l ∷ lines) latest at (x ∷ xs) h m =
      omega (
        arith,
        width_is h.0,
        ap (λ r. r.width) m.0,
        met-bits lines (chose l.sets x.code latest) (at + (l.row_at latest).width) xs h.1 m.1,
      )

  -- The rows of all fields.
  pub met-rows : (lines : List Line) (latest at : ℕ) (xs : List Found) → Laid lines latest at xs → MetAt lines xs latest choice → map (λ x. x.row) xs ≡ rows_of lines choice
  met-rows [] latest at [] h m = refl
  met-rows [] latest at (x ∷ xs) h m = absurd h
  met-rows (l ∷ lines) latest at [] h m = absurd h
  met-rows (l ∷ lines) latest at (x ∷ xs) h m =
      ap₂ (λ r rs. r ∷ rs) (row_is h.0 ∙ m.0) (met-rows lines (chose l.sets x.code latest) (at + (l.row_at latest).width) xs h.1 m.1)

-- ---- lists of lines joined

pub bits-append : (ls ms : List Line) (choice i : ℕ) → bits_before (ls ++ ms) choice (length ls + i) ≡ bits_before ls choice (length ls) + bits_before ms choice i
bits-append [] ms choice i = omega (arith, ap (bits_before ms choice) (zero-add i))
bits-append (l ∷ ls) ms choice i =
    let e : suc (length ls) + i ≡ suc (length ls + i) = omega arith in
    ap (bits_before (l ∷ ls ++ ms) choice) e ∙ omega (arith, bits-append ls ms choice i)

pub bits-front : (ls ms : List Line) (choice i : ℕ) → i ≤ length ls → bits_before (ls ++ ms) choice i ≡ bits_before ls choice i
bits-front [] ms choice zero h = start ms
  where
    start : (ns : List Line) → bits_before ns choice 0 ≡ 0
    start [] = refl
    start (n ∷ ns) = refl
bits-front [] ms choice (suc i) h = absurd (omega arith)
bits-front (l ∷ ls) ms choice zero h = refl
bits-front (l ∷ ls) ms choice (suc i) h = omega (arith, bits-front ls ms choice i (omega arith))

pub last-append : (ls ms : List Line) (xs ys : List Found) (latest : ℕ) → length xs ≡ length ls →
    last_choice (ls ++ ms) (xs ++ ys) latest ≡ last_choice ms ys (last_choice ls xs latest)
last-append [] ms [] ys latest e = refl
last-append [] ms (x ∷ xs) ys latest e = absurd (omega arith)
last-append (l ∷ ls) ms [] ys latest e = absurd (omega arith)
last-append (l ∷ ls) ms (x ∷ xs) ys latest e = last-append ls ms xs ys (chose l.sets x.code latest) (omega arith)

-- If no line of the first list sets widths or depends
-- on a choice, its rows are those at any choice.
fixed-met : (lines : List Line) → AllFixed lines → (xs : List Found) (latest choice : ℕ) → MetAt lines xs latest choice
fixed-met [] h xs latest choice = tt
fixed-met (l ∷ lines) h [] latest choice = tt
fixed-met (l ∷ lines) h (x ∷ xs) latest choice = (h.0 latest choice, fixed-met lines h.1 xs _ choice)

-- ---- the templates

same : {row : Row} → (c d : ℕ) → row ≡ row
same c d = refl

basic-fixed : AllFixed basic
unfolding basic
basic-fixed = (same, (same, (same, (same, (same, tt)))))

pub basic-settled : Steady true basic
unfolding basic
basic-settled = (refl, (refl, (refl, (refl, (refl, tt)))))

pub basic-met : (xs : List Found) (latest choice : ℕ) → MetAt basic xs latest choice
basic-met = fixed-met basic basic-fixed

pub basic-last : (xs : List Found) (latest : ℕ) → last_choice basic xs latest ≡ latest
basic-last = settled-last basic basic-settled

pub template-steady : (template : Template) → Steady false (template_lines template)
unfolding template33 template32
template-steady Bridge = (same, (same, (same, (same, (refl, (refl, (refl, (refl, (refl, (refl, (refl, (refl, (refl, (refl, (refl, (refl, tt))))))))))))))))
template-steady Resistance = (same, (same, (same, (same, (refl, (refl, (refl, (refl, (refl, (refl, (refl, (refl, (refl, (refl, tt))))))))))))))

pub template-met : (template : Template) (xs : List Found) (latest : ℕ) → MetAt (template_lines template) xs latest (last_choice (template_lines template) xs latest)
template-met template = steady-met (template_lines template) (template-steady template)

pub lines-steady : (template : Template) → Steady false (lines_of template)
unfolding lines_of basic
lines-steady template = (same, (same, (same, (same, (same, template-steady template)))))
