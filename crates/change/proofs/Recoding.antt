-- Laws of a change by its parts, and of the contents of the changed image.
use Rattle.change.proofs.Names.{◌≡◌, sym, ap, ap₂, ◌∙◌, subst, Bool, true, false, not, ◌||◌, List, ℕ, ◌+◌, ◌-◌, ◌^◌, ◌≤◌, ◌<◌, arith, eqb, ltb, length, eqb-false, ltb-false, ne_eqb, le-ltb, not-false, Refusal}
use Rattle.change.proofs.Names.{Ok, Err, ◌>>◌, ◌>>=◌, refuse◌if◌, NoSuch, ChangedAlone, LevelTooLow, good-same, good-bind, passed, neither, Sizes, Bytes, field_at, put_at, image_bytes, stream_bits, image_sizes}
use Rattle.change.proofs.Names.{stream_number, image_of, put-lt, put_same, sizes-chip, stream-lt, sums-right, image-length, image-bytes, two-views, Value, Level, decode, encode, kept, Real, Sound, chose, line_of}
use Rattle.change.proofs.Names.{row_of, may_write, row-sound, reads-back, stored-again, Found, Contents, stream_in, contents, field, layout_of, field_place, recoded, row_is, at-is, width_is, Keeps, fields-count}
use Rattle.change.proofs.Names.{Holding, contents-accepted, accepted-at, written-contents, with_field, holding-put, Valid, field-stands, changeable, code_for, recoded_in, rewritten, change}

-- ---- by its parts

-- A field that may be changed.
pub record Changeable (c : Contents) (level : Level) (f : ℕ) : Type 0 where
  pub least : 1 ≤ f
  pub most : f ≤ length c.fields
  pub free : (line_of c.template f).sets ≡ false
  pub may : may_write level (line_of c.template f).mark ≡ true

pub changeable-is : (c : Contents) (level : Level) (f : ℕ) (x : Found) → changeable c level f ≡ Ok x → Changeable c level f × (field c f ≡ x)
unfolding changeable
changeable-is c level f x e =
    let sets : Bool = (line_of c.template f).sets in
    let low : Bool = not (may_write level (line_of c.template f).mark) in
    let (y, n, g) = good-bind _ (λ y. (refuse ChangedAlone f if sets) >> ((refuse LevelTooLow f if low) >> Ok y)) x e in
    let (t, k) = passed (NoSuch f) (eqb f 0 || ltb (length c.fields) f) (Ok (field c f)) y n in
    let (s, m) = passed (ChangedAlone f) sets ((refuse LevelTooLow f if low) >> Ok y) x g in
    let (u, o) = passed (LevelTooLow f) low (Ok y) x m in
    let (a, b) = neither (eqb f 0) (ltb (length c.fields) f) t in
    let z : f ≡ 0 → ⊥ = eqb-false f 0 a in
    (record { least = omega arith; most = ltb-false (length c.fields) f b; free = s; may = not-false _ u }, good-same k ∙ good-same o)

pub changeable-good : (c : Contents) (level : Level) (f : ℕ) → Changeable c level f → changeable c level f ≡ Ok (field c f)
unfolding changeable
changeable-good c level f h = rw (ne_eqb f 0 (λ z. omega (arith, h.least)), le-ltb (length c.fields) f h.most, h.free, h.may)

-- If a value has a code, its field may be changed and its row stores the value.
pub code-found : (c : Contents) (level : Level) (f : ℕ) (v : Value) (code : ℕ) → code_for c level f v ≡ Ok code → Changeable c level f × (encode (field c f).row f v ≡ Ok code)
unfolding code_for
code-found c level f v code e =
    let (x, a, b) = good-bind (changeable c level f) (λ x. encode x.row f v) code e in
    let (h, same) = changeable-is c level f x a in
    (h, ap (λ y. encode y.row f v) same ∙ b)

-- A change of an image that a check refuses, and of one that it accepts.
pub change-unread : (kind : ℕ) (image : List ℕ) (level : Level) (f : ℕ) (v : Value) (r : Refusal) → contents kind image ≡ Err r → change kind image level f v ≡ Err r
unfolding change
change-unread kind image level f v r e = rw e

pub change-is : (kind : ℕ) (image : List ℕ) (c : Contents) (z : Sizes) → contents kind image ≡ Ok c → image_sizes kind (length image) ≡ Ok z → (level : Level) (f : ℕ) (v : Value) →
    change kind image level f v ≡ (code_for c level f v >>= λ code. Ok (recoded_in z image (field c f) code))
unfolding change rewritten
change-is kind image c z e hz level f v = simp (e, hz)

-- ---- an accepted change

-- The sheet that the image held, and the code that the value is stored at.
pub record Made (kind : ℕ) (image : List ℕ) (level : Level) (f : ℕ) (v : Value) (after : List ℕ) : Type 0 where
  pub held : Contents
  pub sizes : Sizes
  pub accepted : contents kind image ≡ Ok held
  pub sized : image_sizes kind (length image) ≡ Ok sizes
  pub code : ℕ
  pub coded : code_for held level f v ≡ Ok code
  pub is : after ≡ recoded_in sizes image (field held f) code

module _ (kind : ℕ) (image : List ℕ) (level : Level) (f : ℕ) (v : Value) (after : List ℕ) (made : change kind image level f v ≡ Ok after) where
  pub change-made : Made kind image level f v after
  unfolding change
  change-made =
      let (c, e, g) = good-bind (contents kind image) _ after made in
      let a = contents-accepted kind image c e in
      let (code, coded, k) = good-bind (code_for c level f v) (λ code. Ok (recoded_in a.sizes image (field c f) code)) after
      (sym (change-is kind image c a.sizes e a.sized level f v) ∙ made) in
      record { held = c; sizes = a.sizes; accepted = e; sized = a.sized; code = code; coded = coded; is = sym (good-same k) }

  -- The new image has as many bytes as before, each a byte.
  pub made-length : length after ≡ length image
  made-length =
      let m = change-made in
      ap length m.is ∙ image-length m.sizes _ ∙ sym (sizes-chip kind (length image) m.sizes m.sized).long

  pub made_bytes : Bytes after
  made_bytes = let m = change-made in subst Bytes (sym m.is) (image-bytes m.sizes _)

-- ---- the contents of the changed image

module _ (kind : ℕ) (image : List ℕ) (c : Contents) (z : Sizes) (bytes : Bytes image) (e : contents kind image ≡ Ok c)
    (hz : image_sizes kind (length image) ≡ Ok z) (level : Level) (f : ℕ) (h : Changeable c level f) where
  abbrev x : Found
  x = field c f

  holding : Holding (stream_in z image) c
  holding = (accepted-at kind image c z e hz).1

  stands : Valid (stream_in z image) (row_of (layout_of c) f) (field_place (layout_of c) f) x
  stands = field-stands holding f h.least (omega (arith, h.most, fields-count holding.formed))

  pub field-sound : Sound x.row
  field-sound = subst Sound (sym (row_is stands.field)) (row-sound (layout_of c) f h.least (omega (arith, h.most, fields-count holding.formed)))

  pub field-inside : x.at + x.row.width ≤ stream_bits z
  field-inside = omega (arith, stands.inside, at-is stands.field, width_is stands.field)

  whole : length image ≡ image_bytes z
  whole = (sizes-chip kind (length image) z hz).long

  -- The field has a code that it can hold, all else is unchanged.
  pub recoded-contents : (code : ℕ) (v : Value) → code < 2 ^ x.row.width → decode x.row x.at code ≡ Ok v →
      contents kind (recoded_in z image x code) ≡ Ok (with_field c (f - 1) (recoded x code v))
  recoded-contents code v fits means =
      let N : ℕ = stream_number z image in
      let M : ℕ = put_at N x.at x.row.width code in
      let keeps : Keeps (line_of c.template f) code x.code = λ latest.
      ap (λ (t : Bool). chose t code latest) h.free ∙ sym (ap (λ (t : Bool). chose t x.code latest) h.free) in
      let p = holding-put (stream_in z image) c holding (f - 1) (omega (arith, h.least, h.most)) code v keeps fits means in
      let lt : M < 2 ^ stream_bits z = put-lt N x.at x.row.width code fits (stream_bits z) (stream-lt z image whole bytes) field-inside in
      written-contents kind (length image) z M _ hz lt p

  -- A stored value is in the field as its rule keeps it, all else is unchanged.
  pub stored-contents : (v : Value) → Real v → (code : ℕ) → encode x.row f v ≡ Ok code →
      contents kind (recoded_in z image x code) ≡ Ok (with_field c (f - 1) (recoded x code (kept x.row v)))
  stored-contents v real code stored =
      let back = reads-back x.row f x.at code v field-sound real stored in
      recoded-contents code (kept x.row v) back.0 back.1

  -- Storing the code or the value that a field has leaves the image unchanged.
  pub same_code : recoded_in z image x x.code ≡ image
  same_code =
      let N : ℕ = stream_number z image in
      let code : field_at N x.at x.row.width ≡ x.code = ap₂ (λ (n w : ℕ). field_at N n w) (at-is stands.field) (width_is stands.field) ∙ stands.code in
      ap (λ (k : ℕ). image_of z (put_at N x.at x.row.width k)) (sym code) ∙ ap (image_of z) (put_same N x.at x.row.width)
      ∙ two-views z image whole bytes (sums-right z image (accepted-at kind image c z e hz).0)

  pub same-value : (code : ℕ) → encode x.row f x.value ≡ Ok code → recoded_in z image x code ≡ image
  same-value code stored =
      let a = stands.field in
      let again = stored-again x.row f x.at x.code x.value field-sound (subst (λ (n : ℕ). x.code < 2 ^ n) (sym (width_is a)) a.fits)
      (ap₂ (λ r (n : ℕ). decode r n x.code) (row_is a) (at-is a) ∙ a.means) in
      ap (recoded_in z image x) (good-same (sym stored ∙ again)) ∙ same_code
