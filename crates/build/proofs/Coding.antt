-- Laws of the codes of fields, in order.
use Rattle.build.proofs.Names.{Bool, true, false, ◌≡◌, refl, sym, ap, ap₂, ◌∙◌, subst, List, [], ◌∷◌, ◌++◌, map, append_assoc, append-nil, ℕ, zero, suc, ◌+◌, ◌-◌, ◌*◌, ◌/◌, ◌%◌, ◌^◌, ◌≤◌, ◌<◌, add-one, arith}
use Rattle.build.proofs.Names.{ℕ_discrete, ℤ, w64, SFits, to_z, of_z, to_z-of_z, Float, length, take, drop, get_or, set, replicate, length-replicate, get_or-replicate, length-set, length-map, get_or-map}
use Rattle.build.proofs.Names.{drop_of_length-le, slice, slice-cons, slice_empty, drop-cons, get_or-set_same, get_or-set_other, take-take, Refusal, Outcome, Ok, Err, ◌>>=◌, bind-good, bind-refused, bind_assoc}
use Rattle.build.proofs.Names.{bind-same, Piece, piece, needed, needed-append, Value, Whole, Missing, Row, Outcome, Ok, Err, Template, Layout, encode, Line, chose, basic, lines_of, number_of, last_field, line_of}
use Rattle.build.proofs.Names.{row_of, rows_of, no_line, bits_before, Sound, AllSound, Real, reads-back, row-sound, rows-sound, block_pieces, Steady, lines-steady, Sheet, CodedField}
use Rattle.build.proofs.Names.{Ok, Err, Listed, slot, lent, template_in, line_pieces, field_pieces, Encodes, Fitting, Fit, blank, field_piece, unpack, unpacked, coded_list, value_lent, slots_lent}
use Rattle.build.proofs.Names.{LentLengths, fields_lent, Quick, coded_from, FieldsCoded, CodedTo, FieldsPlanned, last-most, basic-most}
use Rattle.build.proofs.FieldPlans.{with_block, block-needed, fields-listed}
use Rattle.build.proofs.Lent.{long-slot}

-- ---- one value

-- The answer for a lent value.
pub encodes : (row : Row) (place : ℕ) (v : Value) (e : (Outcome ℕ)) → Sound row → Real v → e ≡ encode row place v → Encodes row place v e
encodes row place v e s real said = record { said = said; fits = λ code h. (reads-back row place 0 code v s real (sym said ∙ h)).0 }

pub coded-fits : {row : Row} {place : ℕ} {v : Value} {e : Outcome ℕ} {code : ℕ} → Sound row → Encodes row place v e → e ≡ Ok code → Fitting row.width code
coded-fits s c a = record { some = s.some; most = omega (arith, s.most); fits = c.fits _ a }

-- A figure that is passed to a callee.
pub encode-of-word : (row : Row) (place : ℕ) {figure : ℤ} → SFits w64 figure → encode row place (Whole (to_z w64 (of_z w64 figure))) ≡ encode row place (Whole figure)
encode-of-word row place f = ap (λ (z : ℤ). encode row place (Whole z)) (to_z-of_z f)

-- ---- the coded fields

-- One more coded field.
pub taken : (fields : List CodedField) (i : ℕ) (x : CodedField) → i < length fields →
    take (suc i) (map field_piece (set fields i x)) ≡ take i (map field_piece fields) ++ (field_piece x ∷ [])
taken [] i x h = absurd (omega arith)
taken (y ∷ fields) zero x h = refl
taken (y ∷ fields) (suc i) x h = ap (λ l. field_piece y ∷ l) (taken fields i x (omega arith))

pub fit_none : (n : ℕ) → Fit n (replicate n blank)
fit_none n = record { long = length-replicate n blank; each = λ i none h. rw (get_or-replicate n i blank none h) (record { some = omega arith; most = omega arith; fits = omega arith }) }

pub fit-more : {n : ℕ} (fields : List CodedField) (i : ℕ) (x : CodedField) → Fit n fields → Fitting x.width x.code → Fit n (set fields i x)
fit-more {n} fields i x fit f = record { long = length-set fields i x ∙ fit.long; each = λ k none h. go k none h (ℕ_discrete k i) }
  where
    go : (k : ℕ) (none : CodedField) → k < n → Dec (k ≡ i) → Fitting (get_or (set fields i x) k none).width (get_or (set fields i x) k none).code
    go k none h (yes e) = rw (e, get_or-set_same fields i x none (omega (arith, fit.long))) f
    go k none h (no e) = rw (get_or-set_other fields i k x none e) (fit.each k none h)

-- The fields from index i up to `end`.
module _ (fields : List CodedField) (i end : ℕ) where
  pub fields-left : (none : CodedField) → i < end → end ≤ length fields → slice i end (map field_piece fields) ≡ field_piece (get_or fields i none) ∷ slice (i + 1) end (map field_piece fields)
  fields-left none h k =
      rw (add-one i) (slice-cons i end (map field_piece fields) (field_piece none) h (omega (arith, length-map fields field_piece))
      ∙ ap (λ p. p ∷ slice (suc i) end (map field_piece fields)) (get_or-map field_piece fields i none))

  pub fields-end : i ≤ end → end ≤ i → slice i end (map field_piece fields) ≡ []
  fields-end h k = let e : i ≡ end = omega arith in ap (λ (n : ℕ). slice n end (map field_piece fields)) e ∙ slice_empty end (map field_piece fields)

-- One more packed field.
pub packed-set : (codes : List ℕ) (i p : ℕ) {width code : ℕ} → p / 2 ^ 56 ≡ width → p % 2 ^ 56 ≡ code → unpacked (set codes i p) ≡ set (unpacked codes) i (record { width = width; code = code })
packed-set [] i p w c = refl
packed-set (y ∷ codes) zero p w c = ap₂ (λ (n m : ℕ). record { width = n; code = m } ∷ unpacked codes) w c
packed-set (y ∷ codes) (suc i) p w c = ap (λ l. unpack y ∷ l) (packed-set codes i p w c)

module _ (codes : List ℕ) (i none : ℕ) where
  packed-at : get_or (unpacked codes) i (unpack none) ≡ unpack (get_or codes i none)
  packed-at = get_or-map unpack codes i none

  pub packed-left : (end : ℕ) → i < end → end ≤ length codes →
      slice i end (map field_piece (unpacked codes)) ≡ field_piece (unpack (get_or codes i none)) ∷ slice (i + 1) end (map field_piece (unpacked codes))
  packed-left end h k =
      fields-left (unpacked codes) i end (unpack none) h (omega (arith, length-map codes unpack)) ∙ ap (λ x. field_piece x ∷ slice (i + 1) end (map field_piece (unpacked codes))) packed-at

  pub packed-fits : {n : ℕ} → Fit n (unpacked codes) → i < n → Fitting (get_or codes i none / 2 ^ 56) (get_or codes i none % 2 ^ 56)
  packed-fits fit h = subst (λ x. Fitting x.width x.code) packed-at (fit.each i (unpack none) h)

pub packed-long : {n : ℕ} (codes : List ℕ) → Fit n (unpacked codes) → length codes ≡ n
packed-long codes fit = sym (length-map codes unpack) ∙ fit.long

-- Room for n fields.
pub packed-blank : (n : ℕ) → unpacked (replicate n (2 ^ 56)) ≡ replicate n blank
packed-blank zero = refl
packed-blank (suc n) = ap (λ l. blank ∷ l) (packed-blank n)

pub packed_none : (n : ℕ) → Fit n (unpacked (replicate n (2 ^ 56)))
packed_none n = subst (Fit n) (sym (packed-blank n)) (fit_none n)

-- ---- line by line

module _ (sheet : Sheet) where
  abbrev t : Template
  t = template_in sheet

  abbrev lines : List Line
  lines = lines_of t

  from_start : (fields : List CodedField) → coded_from sheet fields 0 0 ≡ line_pieces sheet lines 0 1
  from_start fields = go (line_pieces sheet lines 0 1)
    where
      go : (o : Outcome (List Piece)) → (o >>= Ok) ≡ o
      go (Ok ps) = refl
      go (Err r) = refl

  pub from_end : (fields : List CodedField) (latest i : ℕ) → last_field t ≤ i → coded_from sheet fields latest i ≡ Ok (take i (map field_piece fields))
  unfolding line_pieces
  from_end fields latest i h =
      ap (λ l. line_pieces sheet l latest (suc i) >>= λ rest. Ok (take i (map field_piece fields) ++ rest)) (drop_of_length-le lines h)
      ∙ ap Ok (append-nil (take i (map field_piece fields)))

  module _ (fields : List CodedField) (latest i : ℕ) (h : i < last_field t) where
    abbrev here : Line
    here = get_or lines i no_line

    step : line_pieces sheet (drop i lines) latest (suc i) ≡ (encode (here.row_at latest) (suc i) (lent sheet (suc i)) >>= λ code.
        line_pieces sheet (drop (suc i) lines) (chose here.sets code latest) (suc (suc i)) >>= λ rest. Ok (piece (here.row_at latest).width code ∷ rest))
    unfolding line_pieces
    step = ap (λ l. line_pieces sheet l latest (suc i)) (drop-cons lines i no_line h)

    pub field-refused : {r : Refusal} → encode (here.row_at latest) (suc i) (lent sheet (suc i)) ≡ Err r → coded_from sheet fields latest i ≡ Err r
    field-refused e = ap (λ o. o >>= λ rest. Ok (take i (map field_piece fields) ++ rest)) (step ∙ bind-refused _ e)

    pub field-coded : {code : ℕ} → i < length fields → encode (here.row_at latest) (suc i) (lent sheet (suc i)) ≡ Ok code →
        coded_from sheet fields latest i ≡ coded_from sheet (set fields i (record { width = (here.row_at latest).width; code = code })) (chose here.sets code latest) (suc i)
    field-coded {code} k e =
        let x : CodedField = record { width = (here.row_at latest).width; code = code } in
        let others = line_pieces sheet (drop (suc i) lines) (chose here.sets code latest) (suc (suc i)) in
        ap (λ o. o >>= λ rest. Ok (take i (map field_piece fields) ++ rest)) (step ∙ bind-good _ e)
        ∙ bind_assoc others (λ rest. Ok (field_piece x ∷ rest)) (λ rest. Ok (take i (map field_piece fields) ++ rest))
        ∙ bind-same others (λ rest. ap Ok (sym (ap (λ l. l ++ rest) (taken fields i x k) ∙ append_assoc (take i (map field_piece fields)) (field_piece x ∷ []) rest)))

-- ---- the bits of the coded fields

bits_none : (lines : List Line) (latest : ℕ) → bits_before lines latest 0 ≡ 0
bits_none [] latest = refl
bits_none (l ∷ _) latest = refl

-- A row has at most 32 bits.
bits_most : (lines : List Line) (latest i : ℕ) → AllSound (rows_of lines latest) → bits_before lines latest i ≤ 32 * i
bits_most [] latest i s = omega arith
bits_most (l ∷ lines) latest zero s = omega arith
bits_most (l ∷ lines) latest (suc i) s = omega (arith, s.0.most, bits_most lines latest i s.1)

pub bits_small : (t : Template) (p : ℕ) → bits_before (lines_of t) p (last_field t) ≤ 32 * 21
bits_small t p = omega (arith, last-most t, bits_most (lines_of t) p (last_field t) (rows-sound t p).0)

-- No line sets widths after the one that does.
settled : (lines : List Line) → Steady true lines → (i code latest : ℕ) → i < length lines → chose (get_or lines i no_line).sets code latest ≡ latest
settled [] s i code latest h = absurd (omega arith)
settled (l ∷ lines) s zero code latest h = rw s.0
settled (l ∷ lines) s (suc i) code latest h = settled lines s.1 i code latest (omega arith)

bits-next : (lines : List Line) (latest i : ℕ) → i < length lines → ((get_or lines i no_line).row_at latest).width + bits_before lines latest i ≡ bits_before lines latest (suc i)
bits-next [] latest i h = absurd (omega arith)
bits-next (l ∷ lines) latest zero h = omega (arith, bits_none lines latest)
bits-next (l ∷ lines) latest (suc i) h = omega (arith, bits-next lines latest i (omega arith))

-- One more line, at the choice after it.
bits-more : (done : Bool) (lines : List Line) → Steady done lines → (latest code i : ℕ) → i < length lines →
    ((get_or lines i no_line).row_at latest).width + bits_before lines latest i ≡ bits_before lines (chose (get_or lines i no_line).sets code latest) (suc i)
bits-more done [] s latest code i h = absurd (omega arith)
bits-more true (l ∷ lines) s latest code i h = rw (settled (l ∷ lines) s i code latest h) (bits-next (l ∷ lines) latest i h)
bits-more false (l ∷ lines) s latest code zero h =
    let next : ℕ = chose l.sets code latest in
    omega (arith, bits_none lines next, ap (λ r. r.width) (s.0 latest next))
bits-more false (l ∷ lines) s latest code (suc i) h =
    let next : ℕ = chose (get_or lines i no_line).sets code latest in
    omega (arith, bits-more l.sets lines s.1 latest code i (omega arith), ap (λ r. r.width) (s.0 latest next))

-- ---- the quick code of a field

module _ (layout : Layout) {row : Row} {tags : List ℕ} {wholes : List ℤ} {singles : List Float} {i : ℕ} (is : row ≡ row_of layout (i + 1)) where
  pub quick-asked : LentLengths tags wholes singles → i < last_field layout.template → Sound row × LentLengths tags wholes singles × (i < 21)
  quick-asked long h = (subst Sound (sym is) (row-sound layout (i + 1) (omega arith) (omega arith)), long, omega (arith, last-most layout.template))

  pub quick-here : {quick : CodedField} → Quick row tags wholes singles i quick → Quick (row_of layout (i + 1)) tags wholes singles i quick
  quick-here {quick} q = subst (λ r. Quick r tags wholes singles i quick) is q

-- ---- field by field

module _ {t : Template} {tags : List ℕ} {wholes : List ℤ} {singles : List Float} where
  pub coded_none : {codes : List ℕ} → LentLengths tags wholes singles → Fit 21 (unpacked codes) → FieldsCoded t tags wholes singles codes 0 0
  coded_none {codes} long fit = record {
    long = long;
    inside = omega arith;
    fit = fit;
    rest = from_start (fields_lent t tags wholes singles) (unpacked codes);
    count = sym (bits_none (lines_of t) 0);
  }

  pub coded-next : {n latest : ℕ} {codes : List ℕ} → FieldsCoded t tags wholes singles codes latest n → CodedTo n t tags wholes singles codes (Ok latest)
  coded-next {n} {latest} {codes} d = record {
    done = λ other e. let same : latest ≡ other = cc in subst (λ (k : ℕ). FieldsCoded t tags wholes singles codes k n) same d;
    stop = λ r e. absurd (let z : ◌≡◌ {A = ℕ} 0 1 = cc in omega arith);
    fit = d.fit;
  }

  coded-stop : {n : ℕ} {codes : List ℕ} {r : Refusal} → field_pieces (fields_lent t tags wholes singles) ≡ Err r → Fit 21 (unpacked codes) → CodedTo n t tags wholes singles codes (Err r)
  coded-stop {n} {codes} {r} e fit = record {
    done = λ latest a. absurd (let z : ◌≡◌ {A = ℕ} 0 1 = cc in omega arith);
    stop = λ other a. let same : r ≡ other = cc in e ∙ ap Err same;
    fit = fit;
  }

  -- An equal number of fields.
  pub coded-at : {n m latest : ℕ} {codes : List ℕ} → FieldsCoded t tags wholes singles codes latest n → n ≡ m → FieldsCoded t tags wholes singles codes latest m
  coded-at {n} {m} {latest} {codes} d e = subst (λ (k : ℕ). FieldsCoded t tags wholes singles codes latest k) e d

  -- One turn: field i + 1 by its row.
  module _ {codes : List ℕ} {latest i : ℕ} (d : FieldsCoded t tags wholes singles codes latest i) (h : i < last_field t) where
    abbrev row_here : Row
    row_here = row_of (record { template = t; precision = latest }) (i + 1)

    abbrev line_here : Line
    line_here = get_or (lines_of t) i no_line

    pub turn-room : i < length codes
    turn-room = omega (arith, last-most t, packed-long codes d.fit)

    pub turn-sound : Sound row_here
    turn-sound = row-sound (record { template = t; precision = latest }) (i + 1) (omega arith) (omega arith)

    is-here : line_of t (i + 1) ≡ line_here
    is-here = let k : i + 1 - 1 ≡ i = omega arith in ap (λ (n : ℕ). get_or (lines_of t) n no_line) k

    module _ {e : Outcome ℕ} (c : Encodes row_here (i + 1) (value_lent tags wholes singles i) e) where
      encoded-here : e ≡ encode (line_here.row_at latest) (suc i) (lent (fields_lent t tags wholes singles) (suc i))
      encoded-here =
          let k : suc i - 1 ≡ i = omega arith in
          c.said
          ∙ ap (λ (n : ℕ). encode row_here n (value_lent tags wholes singles i)) (add-one i)
          ∙ ap (λ l. encode (l.row_at latest) (suc i) (value_lent tags wholes singles i)) is-here
          ∙ ap (encode (line_here.row_at latest) (suc i)) (sym (ap (λ (n : ℕ). (get_or (slots_lent tags wholes singles) n (slot Missing)).value) k ∙ long-slot d.long i (omega (arith, last-most t))))

      pub turn-refused : {r : Refusal} → e ≡ Err r → CodedTo (i + 1) t tags wholes singles codes (Err r)
      turn-refused a = coded-stop (fields-listed (fields_lent t tags wholes singles) ∙ bind-refused _ (sym d.rest ∙ field-refused (fields_lent t tags wholes singles) (unpacked codes) latest i h (sym encoded-here ∙ a))) d.fit

      pub turn-coded : (p : ℕ) {code next : ℕ} → e ≡ Ok code → (p / 2 ^ 56 ≡ row_here.width) × (p % 2 ^ 56 ≡ code) → next ≡ chose (line_of t (i + 1)).sets code latest →
          CodedTo (i + 1) t tags wholes singles (set codes i p) (Ok next)
      turn-coded p {code} {next} a are n =
          let x : CodedField = record { width = row_here.width; code = code } in
          let k : i < length (unpacked codes) = omega (arith, d.fit.long, last-most t) in
          let added : needed (take (suc i) (map field_piece (set (unpacked codes) i x))) ≡ row_here.width + needed (take i (map field_piece (unpacked codes))) =
          omega (arith, ap needed (taken (unpacked codes) i x k), needed-append (take i (map field_piece (unpacked codes))) (field_piece x ∷ [])) in
          coded-next (rw (add-one i, n, is-here) (record {
            long = d.long;
            inside = omega arith;
            fit = rw (packed-set codes i p are.0 are.1) (fit-more (unpacked codes) i x d.fit (coded-fits turn-sound c a));
            rest = rw (packed-set codes i p are.0 are.1, is-here) (sym (field-coded (fields_lent t tags wholes singles) (unpacked codes) latest i h k (sym encoded-here ∙ a)) ∙ d.rest);
            count = rw (packed-set codes i p are.0 are.1) (added ∙ omega (arith, d.count, ap (λ l. (l.row_at latest).width) is-here, bits-more false (lines_of t) (lines-steady t) latest code i h));
          }))

  -- All fields are coded.
  pub coded-all : {codes : List ℕ} {latest : ℕ} {l : Listed} → FieldsCoded t tags wholes singles codes latest (last_field t) →
      (l.count ≡ last_field t) × (l.bits ≡ bits_before (lines_of t) latest (last_field t) + 10) × (l.bits < 2 ^ 16) → FieldsPlanned (fields_lent t tags wholes singles) (unpacked codes) (Ok l)
  coded-all {codes} {latest} {l} d b =
      let all : List Piece = take (last_field t) (map field_piece (unpacked codes)) in
      let planned : line_pieces (fields_lent t tags wholes singles) (lines_of t) 0 1 ≡ Ok all = sym d.rest ∙ from_end (fields_lent t tags wholes singles) (unpacked codes) latest (last_field t) (omega arith) in
      let are : with_block t all ≡ coded_list t (unpacked codes) (last_field t) =
      ap (λ q. q ++ (block_pieces (number_of t) ++ drop (length basic) all)) (take-take (length basic) (last_field t) (map field_piece (unpacked codes)) (basic-most t)) in
      record {
        said = sym (fields-listed (fields_lent t tags wholes singles) ∙ bind-good _ planned ∙ ap Ok are);
        fit = d.fit;
        count = λ n a. let same : l ≡ n = cc in let bits : l.bits ≡ needed (coded_list t (unpacked codes) (last_field t)) = omega (arith, b.1, d.count, block-needed t all, ap needed are) in rw (← same) (b.0, bits, b.2);
      }
