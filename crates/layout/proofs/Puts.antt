-- Laws of a sheet with another code in one field:
-- the format still allows it, and one piece differs.
use Rattle.layout.proofs.Names.{◌≡◌, refl, sym, ap, ◌∙◌, subst, subst₂, List, [], ◌∷◌, ◌++◌, map, append_assoc, ℕ, zero, suc, ◌-◌, ◌^◌, ◌≤◌, ◌<◌, zero-add, arith, dec_lt, length, get_or, set, length-append}
use Rattle.layout.proofs.Names.{Ok, Piece, piece, needed, put_at, Fit, Holds, needed-append, holds-put, Value, decode, Line, basic, template_lines, number_of, lines_of, no_line, Stream, Found, Contents, nothing}
use Rattle.layout.proofs.Names.{block_pieces}
use Rattle.layout.proofs.Fields.{piece_of, recoded, Laid, laid-length, Keeps, laid-put, laid-split}
use Rattle.layout.proofs.Sheets.{Formed, rest_pieces, sheet_pieces}
use Rattle.layout.proofs.Places.{get-front, get-back}
use Rattle.layout.proofs.Accepted.{Holding, holding-fit}

-- ---- an element replaced in two lists joined

set_front : {A : Type 0} (xs ys : List A) (i : ℕ) (y : A) → i < length xs → set (xs ++ ys) i y ≡ set xs i y ++ ys
set_front [] ys i y h = absurd (omega arith)
set_front (x ∷ xs) ys zero y h = refl
set_front (x ∷ xs) ys (suc i) y h = ap (λ q. x ∷ q) (set_front xs ys i y (omega arith))

set_back : {A : Type 0} (xs ys : List A) (i : ℕ) (y : A) → length xs ≤ i → set (xs ++ ys) i y ≡ xs ++ set ys (i - length xs) y
set_back [] ys i y h = ap (λ (n : ℕ). set ys n y) (omega arith)
set_back (x ∷ xs) ys zero y h = absurd (omega arith)
set_back (x ∷ xs) ys (suc i) y h = ap (λ q. x ∷ q) (set_back xs ys i y (omega arith) ∙ ap (λ (n : ℕ). xs ++ set ys n y) (omega arith))

-- ---- the sheet

-- A sheet with other fields, and with another field i, counted from 0.
abbrev with_fields : Contents → List Found → Contents
with_fields c xs = record { template = c.template; fields = xs; calibration = c.calibration; end_bit = c.end_bit; text = c.text; bits = c.bits }

abbrev pub with_field : Contents → ℕ → Found → Contents
with_field c i x = with_fields c (set c.fields i x)

-- The line of field i.
abbrev pub line_at : Contents → ℕ → Line
line_at c i = get_or (lines_of c.template) i no_line

-- A sheet with other fields of the same widths.
reformed : {S : ℕ} {c : Contents} (h : Formed S c) (bs os xs : List Found) → xs ≡ bs ++ os → Laid basic 0 0 bs → Laid (template_lines c.template) 0 h.own_at os →
    needed (map piece_of bs) ≡ needed (map piece_of h.basics) → needed (map piece_of os) ≡ needed (map piece_of h.own) → Formed S (with_fields c xs)
reformed h bs os xs fields lb lo eb eo = record {
  basics = bs;
  own = os;
  own_at = h.own_at;
  behind = h.behind;
  end_at = h.end_at;
  fields = fields;
  own-at = omega (arith, h.own-at, eb);
  behind-at = omega (arith, h.behind-at, eo);
  end-at = h.end-at;
  basics_laid = lb;
  own_laid = lo;
  calibrated = h.calibrated;
  ending = h.ending;
  bits_are = h.bits_are;
}

-- The pieces before the field and after it, and the sheet with the code in the field.
pub record Put {S : ℕ} {c : Contents} (h : Formed S c) (i : ℕ) (code : ℕ) (v : Value) : Type 0 where
  pub before : List Piece
  pub after : List Piece
  pub is : sheet_pieces h ≡ before ++ (piece_of (get_or c.fields i nothing) ∷ after)
  pub here : needed before ≡ (get_or c.fields i nothing).at
  pub formed : Formed S (with_field c i (recoded (get_or c.fields i nothing) code v))
  pub put : sheet_pieces formed ≡ before ++ (piece (get_or c.fields i nothing).row.width code ∷ after)

same-needed : (ps qs : List Piece) (p q : Piece) → p.width ≡ q.width → needed (ps ++ (p ∷ qs)) ≡ needed (ps ++ (q ∷ qs))
same-needed ps qs p q e = omega (arith, needed-append ps (p ∷ qs), needed-append ps (q ∷ qs))

module _ {S : ℕ} {c : Contents} (h : Formed S c) (i : ℕ) (l : i < length c.fields) (code : ℕ) (v : Value) (keeps : Keeps (line_at c i) code (get_or c.fields i nothing).code)
    (fits : code < 2 ^ (get_or c.fields i nothing).row.width) (means : decode (get_or c.fields i nothing).row (get_or c.fields i nothing).at code ≡ Ok v) where
  abbrev lines : List Line
  lines = template_lines c.template

  basics-count : length h.basics ≡ length basic
  basics-count = laid-length basic 0 0 h.basics h.basics_laid

  abbrev x : Found
  x = get_or c.fields i nothing

  abbrev y : Found
  y = recoded x code v

  abbrev rest : List Piece
  rest = rest_pieces S h.end_at c

  abbrev block : List Piece
  block = block_pieces (number_of c.template)

  in-basic : i < length basic → Put h i code v
  unfolding lines_of reformed
  in-basic m =
      let k : i < length h.basics = omega (arith, basics-count) in
      let ex : x ≡ get_or h.basics i nothing = ap (λ xs. get_or xs i nothing) h.fields ∙ get-front nothing h.basics h.own i k in
      let s = laid-split basic 0 0 h.basics h.basics_laid i k in
      let lb : Laid basic 0 0 (set h.basics i y) =
      subst (λ u. Laid basic 0 0 (set h.basics i (recoded u code v))) (sym ex)
      (laid-put basic 0 0 h.basics h.basics_laid i _ k code v (subst₂ (λ (l : Line) (u : Found). Keeps l code u.code) (get-front _ basic lines i m) ex keeps)
      (subst (λ u. code < 2 ^ u.row.width) ex fits) (ap (λ u. decode u.row u.at code) (sym ex) ∙ means)) in
      let f = reformed h (set h.basics i y) h.own (set c.fields i y)
      (ap (λ xs. set xs i y) h.fields ∙ set_front h.basics h.own i y k) lb h.own_laid
      (ap needed (s.put y) ∙ same-needed s.before s.after (piece_of y) _ (ap (λ u. u.row.width) ex) ∙ ap needed (sym s.is)) refl in
      record {
        before = s.before;
        after = s.after ++ (block ++ (map piece_of h.own ++ rest));
        is = ap (λ q. q ++ (block ++ (map piece_of h.own ++ rest))) (s.is ∙ ap (λ u. s.before ++ (piece_of u ∷ s.after)) (sym ex)) ∙ append_assoc s.before (piece_of x ∷ s.after) _;
        here = omega (arith, s.here, ap (λ u. u.at) ex);
        formed = f;
        put = ap (λ q. q ++ (block ++ (map piece_of h.own ++ rest))) (s.put y) ∙ append_assoc s.before (piece_of y ∷ s.after) _;
      }

  in-own : length basic ≤ i → Put h i code v
  unfolding lines_of reformed
  in-own m =
      let j : ℕ = i - length basic in
      let k : j < length h.own = omega (arith, basics-count, ap length h.fields, length-append h.basics h.own) in
      let ej : i - length h.basics ≡ j = omega (arith, basics-count) in
      let ex : x ≡ get_or h.own j nothing =
      ap (λ xs. get_or xs i nothing) h.fields ∙ get-back nothing h.basics h.own i (omega (arith, basics-count)) ∙ ap (λ (n : ℕ). get_or h.own n nothing) ej in
      let s = laid-split lines 0 h.own_at h.own h.own_laid j k in
      let lo : Laid lines 0 h.own_at (set h.own j y) =
      subst (λ u. Laid lines 0 h.own_at (set h.own j (recoded u code v))) (sym ex)
      (laid-put lines 0 h.own_at h.own h.own_laid j _ k code v (subst₂ (λ (l : Line) (u : Found). Keeps l code u.code) (get-back _ basic lines i m) ex keeps)
      (subst (λ u. code < 2 ^ u.row.width) ex fits) (ap (λ u. decode u.row u.at code) (sym ex) ∙ means)) in
      let f = reformed h h.basics (set h.own j y) (set c.fields i y)
      (ap (λ xs. set xs i y) h.fields ∙ set_back h.basics h.own i y (omega (arith, basics-count)) ∙ ap (λ (n : ℕ). h.basics ++ set h.own n y) ej)
      h.basics_laid lo refl
      (ap needed (s.put y) ∙ same-needed s.before s.after (piece_of y) _ (ap (λ u. u.row.width) ex) ∙ ap needed (sym s.is)) in
      let bs : List Piece = map piece_of h.basics in
      let joined : (z : Found) → bs ++ (block ++ (s.before ++ (piece_of z ∷ s.after) ++ rest)) ≡ (bs ++ block ++ s.before) ++ (piece_of z ∷ (s.after ++ rest)) = λ z.
      simp append_assoc in
      record {
        before = bs ++ block ++ s.before;
        after = s.after ++ rest;
        is = ap (λ q. bs ++ (block ++ (q ++ rest))) (s.is ∙ ap (λ u. s.before ++ (piece_of u ∷ s.after)) (sym ex)) ∙ joined x;
        here = omega (arith, s.here, ap (λ u. u.at) ex, h.own-at, needed-append (bs ++ block) s.before, needed-append bs block);
        formed = f;
        put = ap (λ q. bs ++ (block ++ (q ++ rest))) (s.put y) ∙ joined y;
      }

  pub formed-put : Put h i code v
  formed-put = go (dec_lt i (length basic))
    where
      go : Dec (i < length basic) → Put h i code v
      go (yes m) = in-basic m
      go (no m) = in-own (omega arith)

-- ---- the stream

-- A field with another code that keeps the choice: it alone is parsed differently.
pub holding-put : (s : Stream) (c : Contents) → Holding s c → (i : ℕ) → i < length c.fields → (code : ℕ) (v : Value) →
    let x = get_or c.fields i nothing in
    Keeps (line_at c i) code x.code → code < 2 ^ x.row.width → decode x.row x.at code ≡ Ok v →
    Holding (record { bits = s.bits; number = put_at s.number x.at x.row.width code }) (with_field c i (recoded x code v))
holding-put s c h i l code v keeps fits means =
    let x : Found = get_or c.fields i nothing in
    let p = formed-put h.formed i l code v keeps fits means in
    let q = holds-put s.number 0 p.before x.row.width code x.code p.after (subst Fit p.is (holding-fit h)) fits (subst (Holds s.number 0) p.is h.holds) in
    record {
      formed = p.formed;
      holds = subst (λ (n : ℕ). Holds (put_at s.number n x.row.width code) 0 (sheet_pieces p.formed)) (zero-add _ ∙ p.here) (subst (Holds _ 0) (sym p.put) q);
      inside = h.inside;
    }
