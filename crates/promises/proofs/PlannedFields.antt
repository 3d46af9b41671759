-- Laws of fields, for any lines: the format allows what
-- a build plans, and parsed fields are planned again.
use Rattle.promises.proofs.Names.{◌≡◌, refl, sym, ap, ◌∙◌, subst, List, [], ◌∷◌, ◌++◌, map, ℕ, suc, ◌+◌, arith, length, get_or, Ok, good-same, good-bind, Piece, piece, Value, Missing, Row, encode}
use Rattle.promises.proofs.Names.{kept, Real, AllSound, Line, chose, rows_of, reads-back, stored-again, Found, piece_of, found, row_is, Laid, Slot, Sheet, slot, lent, line_pieces}

-- The rows are sound at every choice.
abbrev pub SoundLines : List Line → Type 0
SoundLines lines = (latest : ℕ) → AllSound (rows_of lines latest)

-- For each parsed field, counted from f: its value is what
-- its row keeps of the lent one; its value is the lent one.
abbrev pub KeptFrom : Sheet → ℕ → List Found → Type 0
KeptFrom sheet f [] = Unit {0}
KeptFrom sheet f (x ∷ xs) = (x.value ≡ kept x.row (lent sheet f)) × KeptFrom sheet (suc f) xs

abbrev pub LentFrom : Sheet → ℕ → List Found → Type 0
LentFrom sheet f [] = Unit {0}
LentFrom sheet f (x ∷ xs) = (lent sheet f ≡ x.value) × LentFrom sheet (suc f) xs

-- Planned fields are what the format allows.
pub record LinesStand (sheet : Sheet) (lines : List Line) (latest f at : ℕ) (ps : List Piece) : Type 0 where
  pub fields : List Found
  pub pieces : ps ≡ map piece_of fields
  pub laid : Laid lines latest at fields
  pub keeps : KeptFrom sheet f fields

pub lines-stand : (sheet : Sheet) → ((f : ℕ) → Real (lent sheet f)) → (lines : List Line) (latest f at : ℕ) (ps : List Piece) → SoundLines lines →
    line_pieces sheet lines latest f ≡ Ok ps → LinesStand sheet lines latest f at ps
unfolding line_pieces
lines-stand sheet real [] latest f at ps sound e = record { fields = []; pieces = sym (good-same e); laid = tt; keeps = tt }
lines-stand sheet real (l ∷ lines) latest f at ps sound e =
    let row : Row = l.row_at latest in
    let (code, e1, e2) = good-bind (encode row f (lent sheet f)) _ ps e in
    let (rest, e3, e4) = good-bind (line_pieces sheet lines (chose l.sets code latest) (suc f)) _ ps e2 in
    let back = reads-back row f at code (lent sheet f) (sound latest).0 (real f) e1 in
    let k = lines-stand sheet real lines (chose l.sets code latest) (suc f) (at + row.width) rest (λ c. (sound c).1) e3 in
    let x : Found = found row at code (kept row (lent sheet f)) in
    record {
      fields = x ∷ k.fields;
      pieces = sym (good-same e4) ∙ ap (λ q. piece_of x ∷ q) k.pieces;
      laid = (record { is = refl; fits = back.0; means = back.1 }, k.laid);
      keeps = (refl, k.keeps);
    }

-- Parsed fields are planned again.
pub lines-again : (sheet : Sheet) (lines : List Line) (latest f at : ℕ) (xs : List Found) → SoundLines lines → Laid lines latest at xs → LentFrom sheet f xs →
    line_pieces sheet lines latest f ≡ Ok (map piece_of xs)
unfolding line_pieces
lines-again sheet [] latest f at [] sound h k = refl
lines-again sheet [] latest f at (x ∷ xs) sound h k = absurd h
lines-again sheet (l ∷ lines) latest f at [] sound h k = absurd h
lines-again sheet (l ∷ lines) latest f at (x ∷ xs) sound h k =
    let row : Row = l.row_at latest in
    let e : encode row f (lent sheet f) ≡ Ok x.code =
    ap (encode row f) k.0 ∙ stored-again row f at x.code x.value (sound latest).0 h.0.fits h.0.means in
    rw (e, lines-again sheet lines (chose l.sets x.code latest) (suc f) (at + row.width) xs (λ c. (sound c).1) h.1 k.1)
    (ap (λ r. Ok (piece r.width x.code ∷ map piece_of xs)) (sym (row_is h.0)))

-- ---- the lent values, from a list of slots

abbrev pub value_at : List Slot → ℕ → Value
value_at slots i = (get_or slots i (slot Missing)).value

-- The fields from f on are those of a list of slots, from its first on.
abbrev pub Slots : Sheet → ℕ → List Slot → Type 0
Slots sheet f slots = (i : ℕ) → lent sheet (f + i) ≡ value_at slots i

pub slots-all : (sheet : Sheet) → Slots sheet 1 sheet.fields
slots-all sheet i = ap (value_at sheet.fields) (omega arith)

module _ (sheet : Sheet) (f : ℕ) (s : Slot) (slots : List Slot) (h : Slots sheet f (s ∷ slots)) where
  pub slot-first : lent sheet f ≡ s.value
  slot-first = ap (lent sheet) (omega arith) ∙ h 0

  pub slots-others : Slots sheet (suc f) slots
  slots-others i = ap (lent sheet) (omega arith) ∙ h (suc i)

pub kept_append : (sheet : Sheet) (f : ℕ) (xs ys : List Found) → KeptFrom sheet f xs → KeptFrom sheet (f + length xs) ys → KeptFrom sheet f (xs ++ ys)
kept_append sheet f [] ys h k = let e : f + 0 ≡ f = omega arith in subst (λ (n : ℕ). KeptFrom sheet n ys) e k
kept_append sheet f (x ∷ xs) ys h k =
    let e : f + suc (length xs) ≡ suc f + length xs = omega arith in
    (h.0, kept_append sheet (suc f) xs ys h.1 (subst (λ (n : ℕ). KeptFrom sheet n ys) e k))

pub lent_split : (sheet : Sheet) (f : ℕ) (xs ys : List Found) → LentFrom sheet f (xs ++ ys) → LentFrom sheet f xs × LentFrom sheet (f + length xs) ys
lent_split sheet f [] ys h = let e : f ≡ f + 0 = omega arith in (tt, subst (λ (n : ℕ). LentFrom sheet n ys) e h)
lent_split sheet f (x ∷ xs) ys h =
    let (a, b) = lent_split sheet (suc f) xs ys h.1 in
    let e : suc f + length xs ≡ f + suc (length xs) = omega arith in
    ((h.0, a), subst (λ (n : ℕ). LentFrom sheet n ys) e b)
