-- Laws of the fields of a sheet: what the format
-- allows on the lines of a template, and their pieces.
use Rattle.layout.proofs.Names.{◌≡◌, refl, sym, ap, ap₂, ◌∙◌, subst, List, [], ◌∷◌, ◌++◌, map, ℕ, zero, suc, ◌+◌, ◌^◌, ◌≤◌, ◌<◌, arith, pos, length, get_or, set, Outcome, Ok, Err, Piece, piece, needed, Value}
use Rattle.layout.proofs.Names.{Whole, Plain, Row, always, decode, Line, chose, plain-good, Format, ends, ◌>>=◌, given, Found, field_of, fields_of, nothing}
use Rattle.layout.proofs.Formats.{Parses, ends-pieces, parses-made, made-pieces}

-- ---- one field

abbrev pub piece_of : Found → Piece
piece_of x = piece x.row.width x.code

abbrev pub found : Row → ℕ → ℕ → Value → Found
found row at code v = record { row = row; at = at; code = code; value = v }

-- What the format allows as the field of a row at a place.
pub record FieldAt (row : Row) (at : ℕ) (x : Found) : Type 0 where
  pub is : x ≡ found row at x.code x.value
  pub fits : x.code < 2 ^ row.width
  pub means : decode row at x.code ≡ Ok x.value

module _ {row : Row} {at : ℕ} {x : Found} (h : FieldAt row at x) where
  pub row_is : x.row ≡ row
  row_is = ap (λ y. y.row) h.is

  pub at-is : x.at ≡ at
  at-is = ap (λ y. y.at) h.is

  pub width_is : x.row.width ≡ row.width
  width_is = ap (λ y. y.width) row_is

-- A plain code that its row can hold.
pub plain-field : (w least greatest at code : ℕ) → least ≤ code → code ≤ greatest → code < 2 ^ w →
    FieldAt (always w (Plain least greatest)) at (found (always w (Plain least greatest)) at code (Whole (pos code)))
plain-field w least greatest at code l g fits = record { is = refl; fits = fits; means = plain-good w least greatest at code l g }

-- The field with another code.
abbrev pub recoded : Found → ℕ → Value → Found
recoded x code v = found x.row x.at code v

pub recoded-at : {row : Row} {at : ℕ} {x : Found} → FieldAt row at x → (code : ℕ) (v : Value) →
    code < 2 ^ x.row.width → decode x.row x.at code ≡ Ok v → FieldAt row at (recoded x code v)
recoded-at {row} {at} {x} h code v fits means = record {
  is = ap (λ y. recoded y code v) h.is;
  fits = subst (λ (n : ℕ). code < 2 ^ n) (width_is h) fits;
  means = ap₂ (λ r n. decode r n code) (sym (row_is h)) (sym (at-is h)) ∙ means;
}

-- The field's piece first, and the pieces after it.
pub record FieldPieces {B : Type 0} (S : ℕ) (row : Row) (k : Found → Format B) (at : ℕ) (ps : List Piece) (b : B) : Type 0 where
  pub first : Found
  pub behind : List Piece
  pub split : ps ≡ piece_of first ∷ behind
  pub field : FieldAt row at first
  pub parses : Parses S (k first) (at + row.width) behind b

module _ {B : Type 0} (S : ℕ) (row : Row) (k : Found → Format B) (at : ℕ) where
  pub field-parses : (x : Found) (ps : List Piece) (b : B) → FieldAt row at x → Parses S (k x) (at + row.width) ps b →
      Parses S (field_of row >>= k) at (piece_of x ∷ ps) b
  unfolding field_of
  field-parses x ps b h l = (width_is h, h.fits, rw h.means (subst (λ y. Parses S (k y) (at + row.width) ps b) h.is l))

  pub field-pieces : (ps : List Piece) (b : B) → Parses S (field_of row >>= k) at ps b → FieldPieces S row k at ps b
  unfolding field_of
  field-pieces [] b l = absurd l
  field-pieces (p ∷ ps) b l = go (decode row at p.code) refl l.2
    where
      go : (o : Outcome Value) → decode row at p.code ≡ o →
          Parses S (given o >>= (λ v. ends (found row at p.code v)) >>= k) (at + row.width) ps b → FieldPieces S row k at (p ∷ ps) b
      go (Ok v) e m = record {
        first = found row at p.code v;
        behind = ps;
        split = ap (λ (n : ℕ). piece n p.code ∷ ps) l.0;
        field = record { is = refl; fits = l.1; means = e };
        parses = m;
      }
      go (Err r) e m = absurd m

-- ---- fields line by line

-- Each field begins where the one before it ends.
abbrev pub Laid : List Line → ℕ → ℕ → List Found → Type 0
Laid [] latest at [] = Unit {0}
Laid [] latest at (x ∷ xs) = ⊥
Laid (l ∷ lines) latest at [] = ⊥
Laid (l ∷ lines) latest at (x ∷ xs) =
    FieldAt (l.row_at latest) at x × Laid lines (chose l.sets x.code latest) (at + (l.row_at latest).width) xs

pub laid-parses : (S : ℕ) (lines : List Line) (latest at : ℕ) (xs : List Found) → Laid lines latest at xs →
    Parses S (fields_of lines latest) at (map piece_of xs) xs
unfolding fields_of
laid-parses S [] latest at [] h = refl
laid-parses S [] latest at (x ∷ xs) h = absurd h
laid-parses S (l ∷ lines) latest at [] h = absurd h
laid-parses S (l ∷ lines) latest at (x ∷ xs) h =
    field-parses S (l.row_at latest) _ at x (map piece_of xs) (x ∷ xs) h.0
    (parses-made S (fields_of lines (chose l.sets x.code latest)) (λ rest. x ∷ rest) _ (map piece_of xs) xs
    (laid-parses S lines (chose l.sets x.code latest) (at + (l.row_at latest).width) xs h.1))

pub laid-pieces : (S : ℕ) (lines : List Line) (latest at : ℕ) (ps : List Piece) (xs : List Found) → Parses S (fields_of lines latest) at ps xs →
    (ps ≡ map piece_of xs) × Laid lines latest at xs
unfolding fields_of
laid-pieces S [] latest at ps xs l =
    let (e, f) = ends-pieces S [] at ps xs l in
    subst (λ (ys : List Found). (ps ≡ map piece_of ys) × Laid [] latest at ys) f (e, tt)
laid-pieces S (l ∷ lines) latest at ps xs p =
    let row : Row = l.row_at latest in
    let w = field-pieces S row (λ x. fields_of lines (chose l.sets x.code latest) >>= λ rest. ends (x ∷ rest)) at ps xs p in
    let x : Found = w.first in
    let (others, e, m) = made-pieces S (fields_of lines (chose l.sets x.code latest)) (λ rest. x ∷ rest) _ w.behind xs w.parses in
    let (f, h) = laid-pieces S lines (chose l.sets x.code latest) (at + row.width) w.behind others m in
    subst (λ (ys : List Found). (ps ≡ map piece_of ys) × Laid (l ∷ lines) latest at ys) e
    (w.split ∙ ap (λ q. piece_of x ∷ q) f, (w.field, h))

pub laid-length : (lines : List Line) (latest at : ℕ) (xs : List Found) → Laid lines latest at xs → length xs ≡ length lines
laid-length [] latest at [] h = refl
laid-length [] latest at (x ∷ xs) h = absurd h
laid-length (l ∷ lines) latest at [] h = absurd h
laid-length (l ∷ lines) latest at (x ∷ xs) h = ap suc (laid-length lines (chose l.sets x.code latest) (at + (l.row_at latest).width) xs h.1)

-- A code that keeps the choice after a line: any code, if the line sets no widths.
abbrev pub Keeps : Line → ℕ → ℕ → Type 0
Keeps l code old = (latest : ℕ) → chose l.sets code latest ≡ chose l.sets old latest

-- Field i with a code that keeps the choice.
pub laid-put : (lines : List Line) (latest at : ℕ) (xs : List Found) → Laid lines latest at xs → (i : ℕ) (none : Line) → i < length xs →
    (code : ℕ) (v : Value) → let x = get_or xs i nothing in
    Keeps (get_or lines i none) code x.code → code < 2 ^ x.row.width → decode x.row x.at code ≡ Ok v →
    Laid lines latest at (set xs i (recoded x code v))
laid-put [] latest at [] h i none n code v keeps fits means = absurd (omega arith)
laid-put [] latest at (x ∷ xs) h i none n code v keeps fits means = absurd h
laid-put (l ∷ lines) latest at [] h i none n code v keeps fits means = absurd h
laid-put (l ∷ lines) latest at (x ∷ xs) h zero none n code v keeps fits means =
    (recoded-at h.0 code v fits means, subst (λ (k : ℕ). Laid lines k (at + (l.row_at latest).width) xs) (sym (keeps latest)) h.1)
laid-put (l ∷ lines) latest at (x ∷ xs) h (suc i) none n code v keeps fits means =
    (h.0, laid-put lines (chose l.sets x.code latest) (at + (l.row_at latest).width) xs h.1 i none (omega arith) code v keeps fits means)

-- ---- the pieces before and after a field

pub record Split (at : ℕ) (xs : List Found) (i : ℕ) : Type 0 where
  pub before : List Piece
  pub after : List Piece
  pub is : map piece_of xs ≡ before ++ (piece_of (get_or xs i nothing) ∷ after)
  pub put : (y : Found) → map piece_of (set xs i y) ≡ before ++ (piece_of y ∷ after)
  pub here : at + needed before ≡ (get_or xs i nothing).at

pub laid-split : (lines : List Line) (latest at : ℕ) (xs : List Found) → Laid lines latest at xs → (i : ℕ) → i < length xs → Split at xs i
laid-split [] latest at [] h i n = absurd (omega arith)
laid-split [] latest at (x ∷ xs) h i n = absurd h
laid-split (l ∷ lines) latest at [] h i n = absurd h
laid-split (l ∷ lines) latest at (x ∷ xs) h zero n = record {
  before = [];
  after = map piece_of xs;
  is = refl;
  put = λ y. refl;
  here = omega (arith, at-is h.0);
}
laid-split (l ∷ lines) latest at (x ∷ xs) h (suc i) n =
    let s = laid-split lines (chose l.sets x.code latest) (at + (l.row_at latest).width) xs h.1 i (omega arith) in
    record {
      before = piece_of x ∷ s.before;
      after = s.after;
      is = ap (λ q. piece_of x ∷ q) s.is;
      put = λ y. ap (λ q. piece_of x ∷ q) (s.put y);
      here = omega (arith, s.here, width_is h.0);
    }
