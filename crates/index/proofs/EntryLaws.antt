-- Laws of the entries of an accepted sheet: each field is where
-- its layout says, so that check and layout give the same entries.
use Rattle.index.proofs.Names.{◌≡◌, refl, sym, ap, ap₂, ◌∙◌, List, [], ◌∷◌, ◌++◌, map, ℕ, zero, suc, ◌+◌, ◌-◌, ◌≤◌, ◌<◌, add-one, arith, dec_lt, length, get_or, length-append, length-map, get_or-map, ext_get_or}
use Rattle.index.proofs.Names.{get_or_at, lt-ltb, le-ltb, Row, Layout, Line, basic, template_lines, lines_of, last_field, row_of, bits_before, no_line, row-sound, Stream, FoundPair, Contents, nothing, field, layout_of}
use Rattle.index.proofs.Names.{pairs_in, field_place, pair_bits, pair_place, bits-front, at-is, width_is, get-front, get-back, fields-count, Holding, field-stands, pair-here, in-basic, behind-basic, basic-most, Entry}
use Rattle.index.proofs.Names.{entry, field_entry, pair_entry, entries, entry_of, first_entries, no_found}
use Rattle.index.proofs.Laying.{first-length}

-- ---- by the layout

module _ (layout : Layout) (i : ℕ) where
  pub of_field : i < last_field layout.template → entry_of layout i ≡ entry (field_place layout (suc i)) (row_of layout (suc i)).width
  unfolding entry_of
  of_field h = rw (lt-ltb i (last_field layout.template) h)

  pub of_pair : last_field layout.template ≤ i → entry_of layout i ≡ entry (pair_place layout (i - last_field layout.template)) pair_bits
  unfolding entry_of
  of_pair h = rw (le-ltb i (last_field layout.template) h)

abbrev pub no_entry : Entry
no_entry = field_entry nothing

first-at : (layout : Layout) (n i : ℕ) → i < n → get_or (first_entries layout n) i no_entry ≡ entry_of layout i
first-at layout zero i h = absurd (omega arith)
first-at layout (suc n) i h = go (first-at layout n i) (dec_lt i n)
  where
    go : (i < n → get_or (first_entries layout n) i no_entry ≡ entry_of layout i) → Dec (i < n) →
        get_or (first_entries layout n ++ (entry_of layout n ∷ [])) i no_entry ≡ entry_of layout i
    go before (yes l) = get-front no_entry (first_entries layout n) (entry_of layout n ∷ []) i (omega (arith, first-length layout n)) ∙ before l
    go before (no l) =
        let e : n ≡ i = omega arith in
        get_or_at (first_entries layout n) (entry_of layout n) [] no_entry i (first-length layout n ∙ e) ∙ ap (entry_of layout) e

-- ---- of an accepted sheet

module _ {s : Stream} {c : Contents} (h : Holding s c) where
  abbrev layout : Layout
  layout = layout_of c

  abbrev pairs : List FoundPair
  pairs = pairs_in c.calibration

  abbrev last : ℕ
  last = last_field c.template

  pub entries-count : length (entries c) ≡ last + length pairs
  entries-count =
      omega (
        arith,
        length-append (map field_entry c.fields) (map pair_entry pairs),
        length-map c.fields field_entry,
        length-map pairs pair_entry,
        fields-count h.formed,
      )

  -- An entry that is inside the stream and not empty.
  pub record Lies (i : ℕ) : Type 0 where
    pub is : get_or (entries c) i no_entry ≡ entry_of layout i
    pub some : 1 ≤ (entry_of layout i).length
    pub most : (entry_of layout i).length ≤ 37
    pub inside : (entry_of layout i).offset + (entry_of layout i).length ≤ s.bits

  field-lies : (i : ℕ) → i < last → Lies i
  field-lies i l =
      let st = field-stands h (suc i) (omega arith) (omega arith) in
      let sound = row-sound layout (suc i) (omega arith) (omega arith) in
      let e = of_field layout i l in
      let here : get_or c.fields i nothing ≡ field c (suc i) = ap (λ (n : ℕ). get_or c.fields n nothing) (omega arith) in
      record {
        is =
            get-front no_entry (map field_entry c.fields) (map pair_entry pairs) i (omega (arith, length-map c.fields field_entry, fields-count h.formed))
            ∙ get_or-map field_entry c.fields i nothing ∙ ap field_entry here
            ∙ ap₂ entry (at-is st.field) (width_is st.field) ∙ sym e;
        some = omega (arith, ap (λ (x : Entry). x.length) e, sound.some);
        most = omega (arith, ap (λ (x : Entry). x.length) e, sound.most);
        inside = omega (arith, ap (λ (x : Entry). x.length) e, ap (λ (x : Entry). x.offset) e, st.inside);
      }

  pair-lies : (i : ℕ) → last ≤ i → i < length (entries c) → Lies i
  pair-lies i l m =
      let j : ℕ = i - last in
      let few : j < length pairs = omega (arith, entries-count) in
      let st = pair-here h j no_found few in
      let e = of_pair layout i l in
      let n : length (map field_entry c.fields) ≡ last = length-map c.fields field_entry ∙ fields-count h.formed in
      let other : get_or (map pair_entry pairs) j no_entry ≡ get_or (map pair_entry pairs) j (pair_entry no_found) = default (map pair_entry pairs) j (omega (arith, length-map pairs pair_entry)) in
      record {
        is =
            get-back no_entry (map field_entry c.fields) (map pair_entry pairs) i (omega arith)
            ∙ ap (λ (k : ℕ). get_or (map pair_entry pairs) (i - k) no_entry) n ∙ other
            ∙ get_or-map pair_entry pairs j no_found ∙ ap (λ (k : ℕ). entry k pair_bits) (at-is st.point.field) ∙ sym e;
        some = omega (arith, ap (λ (x : Entry). x.length) e);
        most = omega (arith, ap (λ (x : Entry). x.length) e);
        inside = omega (arith, ap (λ (x : Entry). x.length) e, ap (λ (x : Entry). x.offset) e, st.deviation.inside);
      }
    where
      default : (es : List Entry) (k : ℕ) → k < length es → get_or es k no_entry ≡ get_or es k (pair_entry no_found)
      default [] k few = absurd (omega arith)
      default (x ∷ es) zero few = refl
      default (x ∷ es) (suc k) few = default es k (omega arith)

  pub lies : (i : ℕ) → i < length (entries c) → Lies i
  lies i m = go (dec_lt i last)
    where
      go : Dec (i < last) → Lies i
      go (yes l) = field-lies i l
      go (no l) = pair-lies i (omega arith) m

  pub entries-are : entries c ≡ first_entries layout (length (entries c))
  entries-are =
      ext_get_or no_entry (entries c) (first_entries layout (length (entries c))) (sym (first-length layout (length (entries c)))) (λ i l.
      (lies i l).is ∙ sym (first-at layout (length (entries c)) i l))

-- ---- sorted by offset

-- The bits of one line more.
bits-next : (lines : List Line) (p i : ℕ) → i < length lines → bits_before lines p (suc i) ≡ bits_before lines p i + ((get_or lines i no_line).row_at p).width
bits-next [] p i h = absurd (omega arith)
bits-next (l ∷ lines) p zero h = omega (arith, bits-front [] lines p 0 (omega arith))
bits-next (l ∷ lines) p (suc i) h = omega (arith, bits-next lines p i (omega arith))

module _ (layout : Layout) where
  abbrev before : ℕ → ℕ
  before i = bits_before (lines_of layout.template) layout.precision i

  pub none_before : 0 ≡ before 0
  none_before = sym (bits-front [] (lines_of layout.template) layout.precision 0 (omega arith))

  -- A field ends before the next one begins.
  pub field_next : (i : ℕ) {row : Row} → i < last_field layout.template → row ≡ row_of layout (i + 1) → before i + row.width ≡ before (i + 1)
  field_next i {row} h e =
      let n : i + 1 - 1 ≡ i = omega arith in
      ap (λ (w : ℕ). before i + w) (ap (λ (r : Row). r.width) e ∙ ap (λ (k : ℕ). ((get_or (lines_of layout.template) k no_line).row_at layout.precision).width) n)
      ∙ sym (bits-next (lines_of layout.template) layout.precision i h) ∙ ap before (sym (add-one i))

  -- An entry by its row and the bits before it: in Basic, and after the first block.
  by_row : (i : ℕ) {at : ℕ} {row : Row} → i < last_field layout.template → row ≡ row_of layout (i + 1) → at ≡ field_place layout (suc i) → entry at row.width ≡ entry_of layout i
  by_row i {at} {row} h e place =
      ap₂ entry place (ap (λ (r : Row). r.width) e ∙ ap (λ (k : ℕ). (row_of layout k).width) (add-one i)) ∙ sym (of_field layout i h)

  pub basic-entry : (i : ℕ) {at : ℕ} {row : Row} → i < length basic → row ≡ row_of layout (i + 1) → at ≡ before i → entry at row.width ≡ entry_of layout i
  basic-entry i {at} {row} h e place =
      let n : suc i - 1 ≡ i = omega arith in
      by_row i (omega (arith, basic-most layout.template)) e (place ∙ ap before (sym n) ∙ sym (in-basic layout (suc i) h))

  pub own-entry : (i : ℕ) {at : ℕ} {row : Row} → length basic ≤ i → i < last_field layout.template → row ≡ row_of layout (i + 1) → at ≡ before i + 10 →
      entry at row.width ≡ entry_of layout i
  own-entry i {at} {row} l h e place =
      let n : suc i - 1 ≡ i = omega arith in
      by_row i h e (place ∙ ap (λ (k : ℕ). before k + 10) (sym n) ∙ sym (behind-basic layout (suc i) (omega arith)))

  -- The first of a template's own fields.
  pub own_first : {n : ℕ} → n ≡ length basic → 74 ≡ before n + 10
  unfolding lines_of basic
  own_first {n} e = omega (arith, ap before e, bits-front basic (template_lines layout.template) layout.precision (length basic) (omega arith))

  pub pair-entry : (i last : ℕ) {at : ℕ} → last ≡ last_field layout.template → last ≤ i → at ≡ pair_place layout (i - last) → entry at pair_bits ≡ entry_of layout i
  pair-entry i last {at} e h place =
      ap (λ (k : ℕ). entry k pair_bits) (place ∙ ap (λ (k : ℕ). pair_place layout (i - k)) e) ∙ sym (of_pair layout i (omega arith))

  -- A field ends where the next one begins, or the first block is between them.
  place-rises : (f : ℕ) → 1 ≤ f → f ≤ last_field layout.template → field_place layout f + (row_of layout f).width ≤ field_place layout (suc f)
  place-rises f lo hi = go (dec_lt f (length basic)) (dec_lt (length basic) f)
    where
      next : before (f - 1) + (row_of layout f).width ≡ before (suc f - 1)
      next =
          let n : f - 1 + 1 ≡ f = omega arith in
          let m : f - 1 + 1 ≡ suc f - 1 = omega arith in
          field_next (f - 1) (omega arith) (ap (row_of layout) (sym n)) ∙ ap before m

      go : Dec (f < length basic) → Dec (length basic < f) → field_place layout f + (row_of layout f).width ≤ field_place layout (suc f)
      go (yes l) k = omega (arith, next, in-basic layout f (omega arith), in-basic layout (suc f) l)
      go (no l) (yes k) = omega (arith, next, behind-basic layout f k, behind-basic layout (suc f) (omega arith))
      go (no l) (no k) = omega (arith, next, in-basic layout f (omega arith), behind-basic layout (suc f) (omega arith))

  -- An entry ends before the next one begins.
  pub entry-rises : (i : ℕ) → (entry_of layout i).offset + (entry_of layout i).length ≤ (entry_of layout (suc i)).offset
  entry-rises i = go (dec_lt i (last_field layout.template)) (dec_lt (suc i) (last_field layout.template))
    where
      offset : {e g : Entry} → e ≡ g → e.offset ≡ g.offset
      offset h = ap (λ (x : Entry). x.offset) h

      width : {e g : Entry} → e ≡ g → e.length ≡ g.length
      width h = ap (λ (x : Entry). x.length) h

      go : Dec (i < last_field layout.template) → Dec (suc i < last_field layout.template) →
          (entry_of layout i).offset + (entry_of layout i).length ≤ (entry_of layout (suc i)).offset
      go (yes l) (yes k) = omega (arith, offset (of_field layout i l), width (of_field layout i l), offset (of_field layout (suc i) k), place-rises (suc i) (omega arith) (omega arith))
      go (yes l) (no k) =
          let n : suc i ≡ last_field layout.template = omega arith in
          omega (
            arith,
            offset (of_field layout i l),
            width (of_field layout i l),
            offset (of_pair layout (suc i) (omega arith)),
            place-rises (suc i) (omega arith) (omega arith),
            ap (λ (m : ℕ). field_place layout (suc m)) n,
          )
      go (no l) k = omega (arith, offset (of_pair layout i (omega arith)), width (of_pair layout i (omega arith)), offset (of_pair layout (suc i) (omega arith)))
