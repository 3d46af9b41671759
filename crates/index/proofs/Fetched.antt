-- Laws of a field fetched through the index of its own image: entries
-- read back as written, and an entry determines the field's row.
use Rattle.index.proofs.Names.{◌≡◌, refl, sym, ap, ap₂, ◌∙◌, Bool, List, [], ◌∷◌, ◌++◌, inl, inr, ℕ, zero, suc, ◌+◌, ◌-◌, ◌*◌, ◌/◌, ◌%◌, ◌≤◌, ◌<◌, arith, dec_lt, length, get_or, length-append, eq-eqb, le-ltb, Ok}
use Rattle.index.proofs.Names.{◌>>◌, ◌>>=◌, refuse◌if◌, OutsideTable, Sizes, number, field_at, stream_bits, stream_number, sizes-chip, Row, Template, Bridge, Resistance, Mark, Cal, Layout, decode, bridge_end}
use Rattle.index.proofs.Names.{resistance_end, Line, chosen, basic, template33, template32, template_lines, number_of, lines_of, last_field, line_of, row_of, no_line, Stream, Contents, stream_in, contents, field, layout_of}
use Rattle.index.proofs.Names.{field_place, Holding, number-stands, Accepted, contents-accepted, Valid, field-stands, read_field, accepted-reads, Entry, entry, entries, entry_bytes, taken_as, template_at, entry_at}
use Rattle.index.proofs.Names.{row_of_length, bits_at, fetch_in, fetch, entry_of}
use Rattle.index.proofs.Laying.{bytes_count}
use Rattle.index.proofs.EntryLaws.{no_entry, of_field, entries-count, lies}
use Rattle.index.proofs.FetchLaws.{in-none, in-past, in_entry, fetch-right}

-- ---- entries read back

abbrev Small : Entry → Type 0
Small e = (e.offset < 65_536) × (e.length < 65_536)

entry-back : (es : List Entry) (rest : List ℕ) (i : ℕ) (none : Entry) → i < length es → Small (get_or es i none) → entry_at (entry_bytes es ++ rest) i ≡ get_or es i none
entry-back [] rest i none h small = absurd (omega arith)
entry-back (e ∷ es) rest zero none h small =
    let o : (0 * 256 + e.offset / 256 % 256) * 256 + e.offset % 256 ≡ e.offset = omega (arith, small.0) in
    let l : (0 * 256 + e.length / 256 % 256) * 256 + e.length % 256 ≡ e.length = omega (arith, small.1) in
    ap₂ entry o l
entry-back (e ∷ es) rest (suc i) none h small =
    let bytes : List ℕ = entry_bytes (e ∷ es) ++ rest in
    let a : 4 * suc i ≡ suc (suc (suc (suc (4 * i)))) = omega arith in
    let b : 4 * suc i + 1 ≡ suc (suc (suc (suc (4 * i + 1)))) = omega arith in
    let c : 4 * suc i + 2 ≡ suc (suc (suc (suc (4 * i + 2)))) = omega arith in
    let d : 4 * suc i + 3 ≡ suc (suc (suc (suc (4 * i + 3)))) = omega arith in
    ap₂ entry
    (ap₂ (λ (m n : ℕ). number (get_or bytes m 0 ∷ get_or bytes n 0 ∷ [])) a b)
    (ap₂ (λ (m n : ℕ). number (get_or bytes m 0 ∷ get_or bytes n 0 ∷ [])) c d)
    ∙ entry-back es rest i none (omega arith) small

-- The entries of an accepted image read back.
pub read_back : (kind : ℕ) (image rest : List ℕ) (c : Contents) → contents kind image ≡ Ok c → (i : ℕ) → i < length (entries c) →
    entry_at (entry_bytes (entries c) ++ rest) i ≡ entry_of (layout_of c) i
read_back kind image rest c e i h =
    let a = contents-accepted kind image c e in
    let l = lies a.holding i h in
    let o = ap (λ (x : Entry). x.offset) l.is in
    let w = ap (λ (x : Entry). x.length) l.is in
    let most = (sizes-chip kind (length image) a.sizes a.sized).most in
    entry-back (entries c) rest i no_entry h (omega (arith, l.inside), omega (arith, l.most)) ∙ l.is

-- ---- a row determined by its length

-- A line's row at any choice is the first of its rows that has its length.
ByLength : Line → Type 0
ByLength l = (at p : ℕ) → row_of_length l (entry at (l.row_at p).width) ≡ Ok (l.row_at p)

Tolds : List Line → Type 0
Tolds [] = Unit {0}
Tolds (l ∷ lines) = ByLength l × Tolds lines

one : (mark : Mark) (sets : Bool) (row : Row) → ByLength (record { mark = mark; sets = sets; row_at = λ latest. row })
unfolding ByLength
one mark sets row at p = rw (eq-eqb row.width row.width refl)

bridge-ends : ByLength (chosen Cal bridge_end)
unfolding ByLength
bridge-ends at zero = refl
bridge-ends at (suc zero) = refl
bridge-ends at (suc (suc p)) = refl

resistance-ends : ByLength (chosen Cal resistance_end)
unfolding ByLength
resistance-ends at zero = refl
resistance-ends at (suc zero) = refl
resistance-ends at (suc (suc zero)) = refl
resistance-ends at (suc (suc (suc p))) = refl

told-template : (t : Template) → Tolds (template_lines t)
unfolding Tolds template33 template32
told-template Bridge =
    (one _ _ _, (one _ _ _, (one _ _ _, (one _ _ _, (bridge-ends, (bridge-ends, (one _ _ _, (one _ _ _, (one _ _ _, (one _ _ _, (one _ _ _, (one _ _ _, (one _ _ _, (one _ _ _, (one _ _ _, (one _ _ _, tt))))))))))))))))
told-template Resistance =
    (one _ _ _, (one _ _ _, (one _ _ _, (one _ _ _, (resistance-ends, (resistance-ends, (one _ _ _, (one _ _ _, (one _ _ _, (one _ _ _, (one _ _ _, (one _ _ _, (one _ _ _, (one _ _ _, tt))))))))))))))

told-lines : (t : Template) → Tolds (lines_of t)
unfolding Tolds lines_of basic
told-lines t = (one _ _ _, (one _ _ _, (one _ _ _, (one _ _ _, (one _ _ _, told-template t)))))

told_at : (lines : List Line) → Tolds lines → (i : ℕ) → ByLength (get_or lines i no_line)
unfolding Tolds
told_at [] h i = one _ _ _
told_at (l ∷ lines) h zero = h.0
told_at (l ∷ lines) h (suc i) = told_at lines h.1 i

row_told : (layout : Layout) (f at : ℕ) → row_of_length (line_of layout.template f) (entry at (row_of layout f).width) ≡ Ok (row_of layout f)
unfolding ByLength
row_told layout f at = told_at (lines_of layout.template) (told-lines layout.template) (f - 1) at layout.precision

-- ---- the fetch

-- A fetch finds the template of the sheet.
number-told : (t : Template) → taken_as (number_of t) ≡ t
number-told Bridge = refl
number-told Resistance = refl

template-told : {s : Stream} {c : Contents} → Holding s c → template_at s.number ≡ c.template
unfolding template_at
template-told {c = c} h = ap taken_as (number-stands h) ∙ number-told c.template

module _ (kind : ℕ) (image made : List ℕ) (c : Contents) (e : contents kind image ≡ Ok c) (rest : List ℕ) (is : made ≡ entry_bytes (entries c) ++ rest) where
  accepted : Accepted kind image c
  accepted = contents-accepted kind image c e

  abbrev z : Sizes
  z = accepted.sizes

  abbrev N : ℕ
  N = stream_number z image

  last-is : last_field (template_at N) ≡ last_field c.template
  last-is = ap last_field (template-told accepted.holding)

  long : 4 * last_field (template_at N) ≤ length made
  long =
      omega (
        arith,
        last-is,
        ap length is,
        length-append (entry_bytes (entries c)) rest,
        bytes_count (entries c),
        entries-count accepted.holding,
      )

  stands_here : (row : Row) (at code : ℕ) → at + row.width ≤ stream_bits z → field_at N at row.width ≡ code →
      bits_at z image row (entry at row.width) ≡ decode row at code
  unfolding bits_at
  stands_here row at code inside h =
      ap₂ (λ (b : Bool) (k : ℕ). (refuse OutsideTable at if b) >> decode row at k) (le-ltb (stream_bits z) (at + row.width) inside) h

  fetched-field : (f : ℕ) → 1 ≤ f → f ≤ last_field c.template → fetch_in z image made f ≡ Ok (field c f).value
  fetched-field f lo hi =
      let layout : Layout = layout_of c in
      let row : Row = row_of layout f in
      let at : ℕ = field_place layout f in
      let next : suc (f - 1) ≡ f = omega arith in
      let st : Valid (stream_in z image) row at (field c f) = field-stands accepted.holding f lo hi in
      let here : entry_at made (f - 1) ≡ entry at row.width =
      ap (λ (l : List ℕ). entry_at l (f - 1)) is
      ∙ read_back kind image rest c e (f - 1) (omega (arith, entries-count accepted.holding))
      ∙ of_field layout (f - 1) (omega arith)
      ∙ ap (λ (n : ℕ). entry (field_place layout n) (row_of layout n).width) next in
      in_entry z image made f lo (omega (arith, last-is)) long
      ∙ ap₂ (λ (t : Template) (x : Entry). row_of_length (line_of t f) x >>= λ r. bits_at z image r x) (template-told accepted.holding) here
      ∙ ap (λ o. o >>= λ r. bits_at z image r (entry at row.width)) (row_told layout f at)
      ∙ stands_here row at (field c f).code st.inside st.code
      ∙ st.field.means

  pub fetched-own : (f : ℕ) → fetch kind image made f ≡ read_field kind image f
  fetched-own f =
      fetch-right kind image made f accepted.sized accepted.summed ∙ go (dec_lt f 1) (dec_lt (last_field c.template) f)
    where
      go : Dec (f < 1) → Dec (last_field c.template < f) → fetch_in z image made f ≡ read_field kind image f
      go (yes l) h = sym (in-none z image made f l) ∙ sym ((accepted-reads kind image c e).no_field f (inl l))
      go (no k) (yes l) = sym (in-past z image made f (omega arith) (omega (arith, last-is))) ∙ sym ((accepted-reads kind image c e).no_field f (inr l))
      go (no k) (no l) = fetched-field f (omega arith) (omega arith) ∙ sym ((accepted-reads kind image c e).fields f (omega arith) (omega arith))
