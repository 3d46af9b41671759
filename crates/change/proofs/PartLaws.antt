-- Laws of the parts of a change: the code computes those of its definition.
use Rattle.change.proofs.Names.{◌≡◌, refl, sym, ap, ◌∙◌, subst, Bool, true, false, not, ◌||◌, List, ℕ, ◌^◌, ◌≤◌, ◌<◌, arith, eqb, ltb, length, eqb-false, ltb-false, eq-eqb, ne_eqb, lt-ltb, le-ltb}
use Rattle.change.proofs.Names.{Refusal, Outcome, Ok, Err, ◌>>◌, ◌>>=◌, refuse◌if◌, NoSuch, ChangedAlone, LevelTooLow, passed, neither, good-then, bind-good, bind-refused, then-good, then-refused, Sizes}
use Rattle.change.proofs.Names.{SumsRight, InStream, sizes-chip, sums-right, Value, Template, Layout, Level, encode, Real, last_field, line_of, row_of, may_write, row-sound}
use Rattle.change.proofs.Names.{reads-back, Contents, stream_in, field, layout_of, field_place, row_is, fields-count, field-at, accepted-at, Valid, field-stands, Opened, Opens, layout_is, held_whole}
use Rattle.change.proofs.Names.{holding, changeable, code_for, change, recoded_in, writable_in, allowed_in, code_in}
pub use Rattle.codes.proofs.Lent.{lent-real}
use Rattle.change.proofs.Recoding.{change-is}

-- ---- the tests

module _ (t : Template) (level : Level) (f : ℕ) where
  pub allowed-none : f < 1 → Err (NoSuch f) ≡ allowed_in t level f
  unfolding allowed_in
  allowed-none h = let z : f ≡ 0 = omega arith in rw (eq-eqb f 0 z)

  pub allowed-past : 1 ≤ f → last_field t < f → Err (NoSuch f) ≡ allowed_in t level f
  unfolding allowed_in
  allowed-past h m = rw (ne_eqb f 0 (λ z. omega arith), lt-ltb (last_field t) f m)

  pub allowed-choice : (line_of t f).sets ≡ true → 1 ≤ f → f ≤ last_field t → Err (ChangedAlone f) ≡ allowed_in t level f
  unfolding allowed_in
  allowed-choice e h m = rw (ne_eqb f 0 (λ z. omega arith), le-ltb (last_field t) f m, e)

  pub allowed-by-level : (line_of t f).sets ≡ false → 1 ≤ f → f ≤ last_field t → writable_in t level f ≡ allowed_in t level f
  unfolding allowed_in
  allowed-by-level e h m = rw (ne_eqb f 0 (λ z. omega arith), le-ltb (last_field t) f m, e)

  pub writable-by : {b : Bool} → may_write level (line_of t f).mark ≡ b → (refuse LevelTooLow f if not b) ≡ writable_in t level f
  writable-by e = rw e

  -- A field that may be changed is one of the template's.
  pub allowed-known : Ok tt ≡ allowed_in t level f → (1 ≤ f) × (f ≤ last_field t)
  unfolding allowed_in
  allowed-known e =
      let (k, g) = passed (NoSuch f) (eqb f 0 || ltb (last_field t) f) ((refuse ChangedAlone f if (line_of t f).sets) >> writable_in t level f) tt (sym e) in
      let (a, b) = neither (eqb f 0) (ltb (last_field t) f) k in
      let z : f ≡ 0 → ⊥ = eqb-false f 0 a in
      (omega arith, ltb-false (last_field t) f b)

-- ---- the code

module _ (c : Contents) (level : Level) (f : ℕ) (v : Value) where
  abbrev t : Template
  t = c.template

  abbrev outside : ℕ → Bool
  outside n = eqb f 0 || ltb n f

  -- The tests by the field agree with those by its row.
  abbrev by_field : Bool → Bool → Bool → Outcome ℕ
  by_field none sets low =
      ((refuse NoSuch f if none) >> Ok (field c f)) >>= (λ x. (refuse ChangedAlone f if sets) >> ((refuse LevelTooLow f if low) >> Ok x)) >>= λ x. encode x.row f v

  abbrev by_row : Bool → Bool → Bool → Outcome ℕ
  by_row none sets low = ((refuse NoSuch f if none) >> ((refuse ChangedAlone f if sets) >> (refuse LevelTooLow f if low))) >> encode (row_of (layout_of c) f) f v

  same_tests : (none sets low : Bool) → (none ≡ false → (field c f).row ≡ row_of (layout_of c) f) → by_field none sets low ≡ by_row none sets low
  same_tests true sets low h = refl
  same_tests false true low h = refl
  same_tests false false true h = refl
  same_tests false false false h = ap (λ r. encode r f v) (h refl)

  -- For a sheet with the template's fields, each of its row.
  pub code-parts : length c.fields ≡ last_field t → (1 ≤ f → f ≤ last_field t → (field c f).row ≡ row_of (layout_of c) f) → code_for c level f v ≡ code_in (layout_of c) level f v
  unfolding code_for changeable code_in allowed_in
  code-parts count row =
      let low : Bool = not (may_write level (line_of t f).mark) in
      ap (λ (n : ℕ). by_field (outside n) (line_of t f).sets low) count ∙ same_tests (outside (last_field t)) (line_of t f).sets low here
    where
      here : outside (last_field t) ≡ false → (field c f).row ≡ row_of (layout_of c) f
      here e =
          let (a, b) = neither (eqb f 0) (ltb (last_field t) f) e in
          let z : f ≡ 0 → ⊥ = eqb-false f 0 a in
          row (omega arith) (ltb-false (last_field t) f b)

pub code-known : (layout : Layout) (level : Level) (f : ℕ) (v : Value) (code : ℕ) → code_in layout level f v ≡ Ok code →
    (1 ≤ f) × (f ≤ last_field layout.template) × (encode (row_of layout f) f v ≡ Ok code)
unfolding code_in
code-known layout level f v code e =
    let (a, b) = good-then (allowed_in layout.template level f) (encode (row_of layout f) f v) code e in
    let (lo, hi) = allowed-known layout.template level f (sym a) in
    (lo, hi, b)

module _ (layout : Layout) (level : Level) (f : ℕ) (v : Value) where
  pub code-refused : {r : Refusal} → Err r ≡ allowed_in layout.template level f → Err r ≡ code_in layout level f v
  unfolding code_in
  code-refused e = sym (then-refused (encode (row_of layout f) f v) (sym e))

  pub code-allowed : Ok tt ≡ allowed_in layout.template level f → {o : Outcome ℕ} → o ≡ encode (row_of layout f) f v → o ≡ code_in layout level f v
  unfolding code_in
  code-allowed e k = k ∙ sym (then-good (encode (row_of layout f) f v) (sym e))

-- A stored value's code is in a field of the template, and fits it.
pub code-fits : (layout : Layout) (level : Level) (f : ℕ) (v : Value) {code : ℕ} → code_in layout level f v ≡ Ok code → Real v →
    (1 ≤ f) × (f ≤ last_field layout.template) × (code < 2 ^ (row_of layout f).width)
code-fits layout level f v {code} e real =
    let (lo, hi, k) = code-known layout level f v code e in
    (lo, hi, (reads-back (row_of layout f) f 0 code v (row-sound layout f lo hi) real k).0)

-- ---- a field of an opened sheet

module _ {kind : ℕ} {image : List ℕ} {o : Opened} {c : Contents} (h : Opens kind image o c) (f : ℕ) where
  pub stands_here : 1 ≤ f → f ≤ last_field o.layout.template → Valid (stream_in o.sizes image) (row_of o.layout f) (field_place o.layout f) (field c f)
  stands_here lo hi =
      subst (λ (l : Layout). f ≤ last_field l.template → Valid (stream_in o.sizes image) (row_of l f) (field_place l f) (field c f)) (sym (layout_is h))
      (λ m. field-stands (holding h) f lo m) hi

  pub in-stream : (lo : 1 ≤ f) (hi : f ≤ last_field o.layout.template) {at w : ℕ} → at ≡ field_place o.layout f → w ≡ (row_of o.layout f).width →
      InStream o.sizes image at w
  in-stream lo hi ea ew =
      let s = row-sound o.layout f lo hi in
      record { whole = held_whole h; inside = omega (arith, ea, ew, (stands_here lo hi).inside); some = omega (arith, ew, s.some); most = omega (arith, ew, s.most) }

  -- The image that was opened has a page, and right sums.
  pub opened-right : (1 ≤ o.sizes.pages) × SumsRight o.sizes image
  opened-right = ((sizes-chip kind (length image) o.sizes h.sized).paged, sums-right o.sizes image (accepted-at kind image c o.sizes h.accepted h.sized).0)

-- ---- a change of an opened sheet

module _ {kind : ℕ} {image : List ℕ} {o : Opened} {c : Contents} (h : Opens kind image o c) (level : Level) (f : ℕ) (v : Value) where
  abbrev z : Sizes
  z = o.sizes

  pub coded : code_for c level f v ≡ code_in o.layout level f v
  coded =
      code-parts c level f v (fields-count (holding h).formed) (λ lo hi. row_is (field-at (holding h).formed f lo hi))
      ∙ ap (λ l. code_in l level f v) (sym (layout_is h))

  pub change-refused : {r : Refusal} → code_in o.layout level f v ≡ Err r → change kind image level f v ≡ Err r
  change-refused e = change-is kind image c z h.accepted h.sized level f v ∙ bind-refused _ (coded ∙ e)

  pub change-coded : {code : ℕ} → code_in o.layout level f v ≡ Ok code → change kind image level f v ≡ Ok (recoded_in z image (field c f) code)
  change-coded e = change-is kind image c z h.accepted h.sized level f v ∙ bind-good _ (coded ∙ e)
