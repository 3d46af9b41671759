-- Laws of pieces: what a number holds from a bit on.
use Rattle.memory.proofs.Names.{◌≡◌, sym, ap, ap₂, ◌∙◌, List, [], ◌∷◌, ◌++◌, ℕ, ◌+◌, ◌*◌, ◌/◌, ◌%◌, ◌^◌, ◌≤◌, ◌<◌, mod-eq_of_lt, mod-one, mul_assoc, le_refl, arith, digits_lt, pow-add, field_at, put_at, Piece}
use Rattle.memory.proofs.Names.{piece, pack, needed}
use Rattle.memory.proofs.FieldLaws.{field-add, field_lt, field-mod, digits, put-field, put-before, put-after}

-- Every code fits its width.
abbrev pub Fit : List Piece → Type 0
Fit [] = Unit {0}
Fit (p ∷ ps) = (p.code < 2 ^ p.width) × Fit ps

-- From bit `at` on, N holds the pieces.
abbrev pub Holds : ℕ → ℕ → List Piece → Type 0
Holds N at ps = field_at N at (needed ps) ≡ pack ps

pub fit-split : (ps qs : List Piece) → Fit (ps ++ qs) → Fit ps × Fit qs
fit-split [] qs f = (tt, f)
fit-split (p ∷ ps) qs f = let s = fit-split ps qs f.1 in ((f.0, s.0), s.1)

pub pack-lt : (ps : List Piece) → Fit ps → pack ps < 2 ^ needed ps
pack-lt [] f = omega arith
pack-lt (p ∷ ps) f = rw (pow-add 2 (needed ps) p.width) (digits_lt (pack-lt ps f.1) f.0)

pub needed-append : (ps qs : List Piece) → needed (ps ++ qs) ≡ needed qs + needed ps
needed-append [] qs = omega arith
needed-append (p ∷ ps) qs = omega (arith, needed-append ps qs)

pub pack-append : (ps qs : List Piece) → pack (ps ++ qs) ≡ pack qs * 2 ^ needed ps + pack ps
pack-append [] qs = omega arith
pack-append (p ∷ ps) qs =
    let W : ℕ = 2 ^ p.width in
    let e : pack (ps ++ qs) * W ≡ (pack qs * 2 ^ needed ps + pack ps) * W = ap (λ (x : ℕ). x * W) (pack-append ps qs) in
    let q : pack qs * 2 ^ (needed ps + p.width) ≡ pack qs * 2 ^ needed ps * W =
    ap (λ (x : ℕ). pack qs * x) (pow-add 2 (needed ps) p.width) ∙ sym (mul_assoc (pack qs) (2 ^ needed ps) W) in
    omega arith

-- ---- one piece more

module _ (N at : ℕ) (p : Piece) (ps : List Piece) where
  pub holds-cons : field_at N at p.width ≡ p.code → Holds N (at + p.width) ps → Holds N at (p ∷ ps)
  holds-cons e h = field-add N at (needed ps) p.width ∙ ap₂ (λ (x y : ℕ). x * 2 ^ p.width + y) h e

  pub holds-uncons : p.code < 2 ^ p.width → Holds N at (p ∷ ps) → (Holds N (at + p.width) ps) × (field_at N at p.width ≡ p.code)
  holds-uncons l h = digits _ (pack ps) p.width (field_lt N at p.width) l (sym (field-add N at (needed ps) p.width) ∙ h)

pub holds-nil : (N at : ℕ) → Holds N at []
holds-nil N at = mod-one (N / 2 ^ at)

-- The pieces that a number holds below bit S are held by every number with the same first S bits.
pub holds-mod : (A B S : ℕ) → A % 2 ^ S ≡ B % 2 ^ S → (at : ℕ) (ps : List Piece) → at + needed ps ≤ S → Holds A at ps → Holds B at ps
holds-mod A B S e at ps l h = sym (field-mod A B S e at (needed ps) l) ∙ h

-- ---- pieces after pieces

module _ (N at : ℕ) (ps qs : List Piece) where
  field-append : field_at N at (needed (ps ++ qs)) ≡ field_at N (at + needed ps) (needed qs) * 2 ^ needed ps + field_at N at (needed ps)
  field-append = ap (field_at N at) (needed-append ps qs) ∙ field-add N at (needed qs) (needed ps)

  pub holds-append : Holds N at ps → Holds N (at + needed ps) qs → Holds N at (ps ++ qs)
  holds-append h k = field-append ∙ ap₂ (λ (x y : ℕ). x * 2 ^ needed ps + y) k h ∙ sym (pack-append ps qs)

  holds_parts : Fit ps → Holds N at (ps ++ qs) → (Holds N (at + needed ps) qs) × Holds N at ps
  holds_parts f h = digits _ (pack qs) (needed ps) (field_lt N at (needed ps)) (pack-lt ps f) (sym field-append ∙ h ∙ pack-append ps qs)

  pub holds-front : Fit ps → Holds N at (ps ++ qs) → Holds N at ps
  holds-front f h = (holds_parts f h).1

  pub holds-back : Fit ps → Holds N at (ps ++ qs) → Holds N (at + needed ps) qs
  holds-back f h = (holds_parts f h).0

-- One piece among others is at the end of those before it.
pub holds-piece : (N at : ℕ) (before : List Piece) (p : Piece) (after : List Piece) → Fit (before ++ (p ∷ after)) → Holds N at (before ++ (p ∷ after))
    → field_at N (at + needed before) p.width ≡ p.code
holds-piece N at before p after f h =
    let s = fit-split before (p ∷ after) f in
    (holds-uncons N (at + needed before) p after s.1.0 (holds-back N at before (p ∷ after) s.0 h)).1

-- If one piece is replaced by another code, the other pieces are unchanged.
pub holds-put : (N at : ℕ) (before : List Piece) (w code old : ℕ) (after : List Piece) → Fit (before ++ (piece w old ∷ after)) → code < 2 ^ w
    → Holds N at (before ++ (piece w old ∷ after)) → Holds (put_at N (at + needed before) w code) at (before ++ (piece w code ∷ after))
holds-put N at before w code old after f hc h =
    let n : ℕ = at + needed before in
    let s = fit-split before (piece w old ∷ after) f in
    let back = (holds-uncons N n (piece w old) after s.1.0 (holds-back N at before (piece w old ∷ after) s.0 h)).0 in
    holds-append (put_at N n w code) at before (piece w code ∷ after)
    (put-before N n w code hc at (needed before) (le_refl n) ∙ holds-front N at before (piece w old ∷ after) s.0 h)
    (holds-cons (put_at N n w code) n (piece w code) after (put-field N n w code hc) (put-after N n w code hc (n + w) (needed after) (le_refl (n + w)) ∙ back))

-- ---- pieces from bit 0 on

-- The pack of pieces holds them.
pub holds-pack : (ps : List Piece) → Fit ps → Holds (pack ps) 0 ps
holds-pack ps f = ap (λ (x : ℕ). x % 2 ^ needed ps) (omega arith) ∙ mod-eq_of_lt (pack-lt ps f)

-- A number that holds pieces and nothing above them is their pack.
pub pack-unique : (N : ℕ) (ps : List Piece) → N < 2 ^ needed ps → Holds N 0 ps → N ≡ pack ps
pack-unique N ps l h = sym (mod-eq_of_lt l) ∙ ap (λ (x : ℕ). x % 2 ^ needed ps) (omega arith) ∙ h
