-- Laws of a fetch, step by step.
use Rattle.index.proofs.Names.{◌≡◌, refl, sym, ap, ap₂, ◌∙◌, Bool, true, false, List, [], ◌∷◌, map, ℕ, zero, suc, ◌+◌, ◌-◌, ◌*◌, ◌^◌, ◌≤◌, ◌<◌, arith, ℕ_discrete, ltb, length, drop, eq-eqb, ne_eqb, lt-ltb, le-ltb}
use Rattle.index.proofs.Names.{Refusal, Outcome, Ok, Err, ◌>>◌, ◌>>=◌, refuse◌if◌, PastEnd, OutsideTable, NoSuch, ShortIndex, good-same, no_value_lem, said_of, bind-good, bind-refused, Sizes, Cursor}
use Rattle.index.proofs.Names.{field_at, image_sizes, sums, stream_bits, stream_number, Step, taken_said, taken_at, field_lt, Value, Row, Template, decode, Line, last_field, line_of, Sound, row-sound}
use Rattle.index.proofs.Names.{Entry, template_at, entry_at, of_length, choices, row_of_length, bits_at, fetch_in, fetch}

-- ---- the row of a length

module _ (line : Line) (e : Entry) where
  abbrev rows : List Row
  rows = map line.row_at choices

  rows-from : (p : ℕ) → p < 4 → drop p rows ≡ line.row_at p ∷ drop (suc p) rows
  rows-from zero h = refl
  rows-from (suc zero) h = refl
  rows-from (suc (suc zero)) h = refl
  rows-from (suc (suc (suc zero))) h = refl
  rows-from (suc (suc (suc (suc p)))) h = absurd (omega arith)

  -- The rows from choice p on.
  abbrev pub length_from : ℕ → Outcome Row
  length_from p = of_length e (drop p rows)

  pub length_found : (p : ℕ) → p < 4 → (line.row_at p).width ≡ e.length → Ok (line.row_at p) ≡ length_from p
  length_found p h k = sym (ap (of_length e) (rows-from p h) ∙ rw (eq-eqb (line.row_at p).width e.length k))

  pub length-next : (p : ℕ) → p < 4 → ((line.row_at p).width ≡ e.length → ⊥) → length_from (suc p) ≡ length_from p
  length-next p h k = sym (ap (of_length e) (rows-from p h) ∙ rw (ne_eqb (line.row_at p).width e.length k))

  pub length_none : (p : ℕ) → p ≡ 4 → Err (OutsideTable e.offset) ≡ length_from p
  length_none p h = ap length_from (sym h)

  -- The row that is found is one of the line's, and as long as the entry.
  pub of_length_lem : (ps : List ℕ) (row : Row) → of_length e (map line.row_at ps) ≡ Ok row → (p : ℕ) × (line.row_at p ≡ row) × (row.width ≡ e.length)
  of_length_lem [] row h = no_value_lem h
  of_length_lem (p ∷ ps) row h = go (of_length_lem ps row) (ℕ_discrete (line.row_at p).width e.length)
    where
      go : (of_length e (map line.row_at ps) ≡ Ok row → (p : ℕ) × (line.row_at p ≡ row) × (row.width ≡ e.length)) →
          Dec ((line.row_at p).width ≡ e.length) → (p : ℕ) × (line.row_at p ≡ row) × (row.width ≡ e.length)
      go others (yes k) =
          let same : line.row_at p ≡ row = good-same (rw (eq-eqb (line.row_at p).width e.length k) at h) in
          (p, same, sym (ap (λ (r : Row). r.width) same) ∙ k)
      go others (no k) = others (rw (ne_eqb (line.row_at p).width e.length k) at h)

pub length-sound : (template : Template) (f : ℕ) (e : Entry) (row : Row) → 1 ≤ f → f ≤ last_field template → row_of_length (line_of template f) e ≡ Ok row →
    Sound row × (row.width ≡ e.length)
length-sound template f e row lo hi h =
    let (p, same, k) = of_length_lem (line_of template f) e choices row h in
    (rw (← same) (row-sound (record { template = template; precision = p }) f lo hi), k)

-- ---- the field's bits

module _ (z : Sizes) (image : List ℕ) (at w : ℕ) (t : Outcome (ℕ × Cursor)) (e : taken_said t ≡ taken_at z image at w) where
  abbrev N : ℕ
  N = stream_number z image

  abbrev taking : Bool → Outcome Step
  taking b = (refuse PastEnd at if b) >> Ok (record { code = field_at N at w; next = at + w })

  pub took : {code : ℕ} {next : Cursor} → t ≡ Ok (code, next) → (ltb (stream_bits z) (at + w) ≡ false) × (code ≡ field_at N at w)
  unfolding taken_at
  took {code} {next} h = go (ltb (stream_bits z) (at + w)) refl (said_of taken_said h e)
    where
      go : (b : Bool) → ltb (stream_bits z) (at + w) ≡ b → Ok (record { code = code; next = next.at }) ≡ taking b →
          (ltb (stream_bits z) (at + w) ≡ false) × (code ≡ field_at N at w)
      go true k f = no_value_lem (sym f)
      go false k f = (k, ap (λ (x : Step). x.code) (good-same f))

  pub missed : {r : Refusal} → t ≡ Err r → ltb (stream_bits z) (at + w) ≡ true
  unfolding taken_at
  missed {r} h = go (ltb (stream_bits z) (at + w)) refl (said_of taken_said h e)
    where
      go : (b : Bool) → ltb (stream_bits z) (at + w) ≡ b → Err r ≡ taking b → ltb (stream_bits z) (at + w) ≡ true
      go true k f = k
      go false k f = no_value_lem f

module _ (z : Sizes) (image : List ℕ) (row : Row) (x : Entry) (t : Outcome (ℕ × Cursor)) (e : taken_said t ≡ taken_at z image x.offset x.length) where
  pub bits-past : {r : Refusal} → t ≡ Err r → Err (OutsideTable x.offset) ≡ bits_at z image row x
  unfolding bits_at
  bits-past h = rw (missed z image x.offset x.length t e h)

  module _ {code : ℕ} {next : Cursor} (h : t ≡ Ok (code, next)) where
    pub bits_fit : row.width ≡ x.length → code < 2 ^ row.width
    bits_fit k = rw (k, (took z image x.offset x.length t e h).1) (field_lt (stream_number z image) x.offset x.length)

    pub bits-decoded : {o : Outcome Value} → o ≡ decode row x.offset code → o ≡ bits_at z image row x
    unfolding bits_at
    bits-decoded f =
        let (inside, is) = took z image x.offset x.length t e h in
        f ∙ rw (inside, is)

-- ---- of an image whose page sums are right

module _ (z : Sizes) (image index : List ℕ) (f : ℕ) where
  abbrev template : Template
  template = template_at (stream_number z image)

  pub in-none : f < 1 → Err (NoSuch f) ≡ fetch_in z image index f
  unfolding fetch_in
  in-none h = let e : f ≡ 0 = omega arith in rw (eq-eqb f 0 e)

  pub in-past : 1 ≤ f → last_field template < f → Err (NoSuch f) ≡ fetch_in z image index f
  unfolding fetch_in
  in-past h k = rw (ne_eqb f 0 (λ e. omega arith), lt-ltb (last_field template) f k)

  module _ (lo : 1 ≤ f) (hi : f ≤ last_field template) where
    pub in-short : length index < 4 * last_field template → Err (ShortIndex (4 * last_field template)) ≡ fetch_in z image index f
    unfolding fetch_in
    in-short h = rw (ne_eqb f 0 (λ e. omega arith), le-ltb (last_field template) f hi, lt-ltb (length index) (4 * last_field template) h)

    pub in_entry : 4 * last_field template ≤ length index →
        fetch_in z image index f ≡ (row_of_length (line_of template f) (entry_at index (f - 1)) >>= λ row. bits_at z image row (entry_at index (f - 1)))
    unfolding fetch_in
    in_entry h = rw (ne_eqb f 0 (λ e. omega arith), le-ltb (last_field template) f hi, le-ltb (length index) (4 * last_field template) h)

    -- For this entry and this template.
    module _ {t : Template} {x : Entry} (et : t ≡ template) (ex : x ≡ entry_at index (f - 1)) (long : 4 * last_field template ≤ length index) where
      pub in-refused : {r : Refusal} → Err r ≡ row_of_length (line_of t f) x → Err r ≡ fetch_in z image index f
      in-refused k = sym (in_entry long ∙ bind-refused _ (sym (k ∙ ap₂ (λ u y. row_of_length (line_of u f) y) et ex)))

      pub in-bits : {row : Row} {o : Outcome Value} → Ok row ≡ row_of_length (line_of t f) x → o ≡ bits_at z image row x → o ≡ fetch_in z image index f
      in-bits {row} k b =
          b ∙ ap (bits_at z image row) ex ∙ sym (in_entry long ∙ bind-good _ (sym (k ∙ ap₂ (λ u y. row_of_length (line_of u f) y) et ex)))

-- ---- of any image

module _ (kind : ℕ) (image index : List ℕ) (f : ℕ) where
  pub fetch-unsized : {r : Refusal} → image_sizes kind (length image) ≡ Err r → fetch kind image index f ≡ Err r
  unfolding fetch
  fetch-unsized e = rw e

  module _ {z : Sizes} (sized : image_sizes kind (length image) ≡ Ok z) where
    pub fetch-turned : {r : Refusal} → sums z image ≡ Err r → fetch kind image index f ≡ Err r
    unfolding fetch
    fetch-turned e = ap (λ o. o >>= λ y. sums y image >> fetch_in y image index f) sized ∙ ap (λ o. o >> fetch_in z image index f) e

    pub fetch-right : sums z image ≡ Ok tt → fetch kind image index f ≡ fetch_in z image index f
    unfolding fetch
    fetch-right e = ap (λ o. o >>= λ y. sums y image >> fetch_in y image index f) sized ∙ ap (λ o. o >> fetch_in z image index f) e
