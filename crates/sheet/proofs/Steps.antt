-- Laws of one step of the check: from a callee's answer to the format that follows.
use Rattle.sheet.proofs.Names.{◌≡◌, refl, sym, ap, ◌∙◌, subst, Bool, true, false, cond, List, [], ◌∷◌, ℕ, ◌+◌, ◌-◌, ◌^◌, ◌≤◌, ◌<◌, arith, ltb, length, le-ltb, ltb-false, Refusal, Outcome, Ok, Err, PastEnd}
use Rattle.sheet.proofs.Names.{good-same, no_value_lem, said_of, same_of, Sizes, Cursor, Outcome, Ok, Err, field_at, stream_bits, stream_number, Step, taken_said, taken_at, field_lt, Value, Missing, Row}
use Rattle.sheet.proofs.Names.{Err, decode, judge, Format, ends, ◌>>=◌, bits, given, Stream, Parsed, parse, Found, field_of, stream_in, parsed, parse-bind, parse-next, parse-refused, found}
use Rattle.sheet.proofs.Names.{Outcome, Ok, keeping, Coded, coded, value_in, behind, code_said}
use Rattle.refusal.specs.Outcome as outcome

-- ---- the part of a parse that is kept

module _ {A B : Type 0} (part : A → B) where
  pub kept : (o : Outcome (Parsed A)) {b : B} {n : ℕ} → Ok (parsed b n) ≡ keeping part o → (a : A) × (part a ≡ b) × (Ok (parsed a n) ≡ o)
  kept (Ok x) e =
      let f = good-same e in
      (x.found, sym (ap (λ y. y.found) f), ap (λ y. Ok (parsed x.found y.next)) f)
  kept (Err r) e = no_value_lem (sym e)

  pub lost : (o : Outcome (Parsed A)) {r : Refusal} → Err r ≡ keeping part o → Err r ≡ o
  lost (Ok x) e = no_value_lem e
  lost (Err q) {r} e = let f : r ≡ q = cc in ap Err f

  -- A kept part, and the format that follows.
  module _ {C : Type 0} (s : Stream) (m : Format A) (k : A → Format C) (at : ℕ) where
    pub keep-next : {b : B} {n : ℕ} → Ok (parsed b n) ≡ keeping part (parse s m at) →
        (a : A) × (part a ≡ b) × (parse s (m >>= k) at ≡ parse s (k a) n)
    keep-next e = let (a, f, g) = kept (parse s m at) e in (a, f, parse-next s m k at g)

    pub keep-refused : {r : Refusal} → Err r ≡ keeping part (parse s m at) → parse s (m >>= k) at ≡ Err r
    keep-refused e = parse-refused s m k at (lost (parse s m at) e)

-- The kept part of a value made from a parse.
pub keep-made : {A B C : Type 0} (part : B → C) (make : A → B) (s : Stream) (m : Format A) (at : ℕ) →
    keeping part (parse s (m >>= λ a. ends (make a)) at) ≡ keeping (λ a. part (make a)) (parse s m at)
keep-made {A} part make s m at = ap (keeping part) (parse-bind s m (λ a. ends (make a)) at) ∙ go (parse s m at)
  where
    go : (o : Outcome (Parsed A)) → keeping part (outcome.◌>>=◌ o (λ x. Ok (parsed (make x.found) x.next))) ≡ keeping (λ a. part (make a)) o
    go (Ok x) = refl
    go (Err r) = refl

-- Keeping a part, written as a next step.
pub keep-bind : {A B : Type 0} (part : A → B) (o : Outcome (Parsed A)) → keeping part o ≡ outcome.◌>>=◌ o (λ x. Ok (parsed (part x.found) x.next))
keep-bind part (Ok x) = refl
keep-bind part (Err r) = refl

-- A part of a part.
pub keep-twice : {A B C : Type 0} (other : B → C) (part : A → B) (o : Outcome (Parsed A)) → keeping other (keeping part o) ≡ keeping (λ a. other (part a)) o
keep-twice other part (Ok x) = refl
keep-twice other part (Err r) = refl

-- A format and those after it, from the part of it that is kept.
pub keep-through : {A B C D : Type 0} (part : A → B) (s : Stream) (m : Format A) (k : A → Format C) (at : ℕ) (final : Parsed C → Outcome D) (rest : Parsed B → Outcome D) →
    ((x : Parsed A) → Ok x ≡ parse s m at → outcome.◌>>=◌ (parse s (k x.found) x.next) final ≡ rest (parsed (part x.found) x.next)) →
    outcome.◌>>=◌ (parse s (m >>= k) at) final ≡ outcome.◌>>=◌ (keeping part (parse s m at)) rest
keep-through {A} part s m k at final rest h = ap (λ o. outcome.◌>>=◌ o final) (parse-bind s m k at) ∙ go (parse s m at) h
  where
    go : (o : Outcome (Parsed A)) → ((x : Parsed A) → Ok x ≡ o → outcome.◌>>=◌ (parse s (k x.found) x.next) final ≡ rest (parsed (part x.found) x.next)) →
        outcome.◌>>=◌ (outcome.◌>>=◌ o (λ x. parse s (k x.found) x.next)) final ≡ outcome.◌>>=◌ (keeping part o) rest
    go (Ok x) g = g x refl
    go (Err r) g = refl

-- An answer and what follows from it, if its case is known.
pub carried : {X A B : Type 0} (said : X → Outcome A) (k : A → Outcome B) {x y : X} {o : Outcome A} → x ≡ y → said x ≡ o → outcome.◌>>=◌ (said y) k ≡ outcome.◌>>=◌ o k
carried said k h e = ap (λ o. outcome.◌>>=◌ o k) (said_of said h e)

-- The count of n items, with this many left: those before are passed.
abbrev pub count_left : {A : Type 0} → Stream → (ℕ → Format (List A)) → ℕ → ℕ → ℕ → Outcome (Parsed ℕ)
count_left s many n left at = keeping (λ l. n - left + length l) (parse s (many left) at)

module _ {A : Type 0} (s : Stream) (many : ℕ → Format (List A)) (n : ℕ) where
  same : (f g : List A → ℕ) (o : Outcome (Parsed (List A))) → ((l : List A) → f l ≡ g l) → keeping f o ≡ keeping g o
  same f g o h = λ j. keeping (λ l. h l j) o

  pub count-start : (at : ℕ) → count_left s many n n at ≡ keeping length (parse s (many n) at)
  count-start at = same _ _ (parse s (many n) at) (λ l. omega arith)

  pub count-more : (a : A) (left at : ℕ) → 0 < left → left ≤ n →
      keeping (λ l. n - left + length l) (parse s (many (left - 1) >>= λ l. ends (a ∷ l)) at) ≡ count_left s many n (left - 1) at
  count-more a left at h k = keep-made (λ l. n - left + length l) (λ l. a ∷ l) s (many (left - 1)) at ∙ same _ _ (parse s (many (left - 1)) at) (λ l. omega arith)

  pub count-done : (left at : ℕ) → many 0 ≡ ends [] → left ≤ 0 → count_left s many n left at ≡ Ok (parsed n at)
  count-done left at e h =
      let z : left ≡ 0 = omega arith in
      ap (λ (k : ℕ). count_left s many n k at) z ∙ ap (λ m. keeping (λ l. n - 0 + length l) (parse s m at)) e ∙ ap (λ (k : ℕ). Ok (parsed k at)) (omega arith)

-- ---- bits read by the cursor

abbrev bits_said : (Outcome (ℕ × Cursor)) → Outcome (Parsed ℕ)
bits_said (Ok (code, cursor)) = behind code cursor
bits_said (Err r) = Err r

module _ (z : Sizes) (image : List ℕ) (at w : ℕ) (t : (Outcome (ℕ × Cursor))) (e : taken_said t ≡ taken_at z image at w) where
  took : bits_said t ≡ parse (stream_in z image) (bits w) at
  unfolding taken_at
  took = said t ∙ ap stepped e ∙ go (ltb (stream_bits z) (at + w))
    where
      N : ℕ
      N = stream_number z image

      stepped : Outcome Step → Outcome (Parsed ℕ)
      stepped o = outcome.◌>>=◌ o (λ x. Ok (parsed x.code x.next))

      said : (u : (Outcome (ℕ × Cursor))) → bits_said u ≡ stepped (taken_said u)
      said (Ok (code, cursor)) = refl
      said (Err r) = refl

      go : (b : Bool) →
          stepped (outcome.◌>>◌ (outcome.refuse◌if◌ (PastEnd at) b) (Ok (record { code = field_at N at w; next = at + w })))
          ≡ cond b (Err (PastEnd at)) (Ok (parsed (field_at N at w) (at + w)))
      go true = refl
      go false = refl

  pub got : {code : ℕ} {next : Cursor} → t ≡ Ok (code, next) → behind code next ≡ parse (stream_in z image) (bits w) at
  got h = said_of bits_said h took

  pub past : {r : Refusal} → t ≡ Err r → Err r ≡ parse (stream_in z image) (bits w) at
  past h = said_of bits_said h took

pub bits-lt : (s : Stream) (at w : ℕ) {code n : ℕ} → Ok (parsed code n) ≡ parse s (bits w) at → code < 2 ^ w
bits-lt s at w {code} {n} e = go (ltb s.bits (at + w)) e
  where
    go : (b : Bool) → Ok (parsed code n) ≡ cond b (Err (PastEnd at)) (Ok (parsed (field_at s.number at w) (at + w))) → code < 2 ^ w
    go true f = no_value_lem (sym f)
    go false f = subst (λ (x : Parsed ℕ). x.found < 2 ^ w) (sym (good-same f)) (field_lt s.number at w)

-- Bits that were read are inside the stream.
pub bits-here : (s : Stream) (at w : ℕ) {code n : ℕ} → Ok (parsed code n) ≡ parse s (bits w) at → (code ≡ field_at s.number at w) × (n ≡ at + w) × (at + w ≤ s.bits)
bits-here s at w {code} {n} e = go (ltb s.bits (at + w)) refl e
  where
    go : (b : Bool) → ltb s.bits (at + w) ≡ b → Ok (parsed code n) ≡ cond b (Err (PastEnd at)) (Ok (parsed (field_at s.number at w) (at + w))) →
        (code ≡ field_at s.number at w) × (n ≡ at + w) × (at + w ≤ s.bits)
    go true t f = no_value_lem (sym f)
    go false t f = let g = good-same f in (ap (λ y. y.found) g, ap (λ y. y.next) g, ltb-false s.bits (at + w) t)

-- ---- the field of a row

-- A valid code inside the stream.
pub field-inside : (s : Stream) (row : Row) (at : ℕ) {code : ℕ} → code ≡ field_at s.number at row.width → at + row.width ≤ s.bits → judge row at code ≡ Ok tt →
    Ok (parsed (record { at = at; code = code }) (at + row.width)) ≡ keeping coded (parse s (field_of row) at)
unfolding field_of
field-inside s row at {code} e inside j =
    go (decode row at here) (ap (judge row at) (sym e) ∙ j)
    ∙ sym (ap (λ (b : Bool). keeping coded (cond b (Err (PastEnd at)) (parse s (given (decode row at here) >>= λ v. ends (found row at here v)) (at + row.width)))) (le-ltb s.bits (at + row.width) inside))
  where
    here : ℕ
    here = field_at s.number at row.width

    go : (o : Outcome Value) → outcome.◌>>◌ o (Ok (tt {0})) ≡ Ok tt →
        Ok (parsed (record { at = at; code = code }) (at + row.width)) ≡ keeping coded (parse s (given o >>= λ v. ends (found row at here v)) (at + row.width))
    go (Ok v) h = ap (λ (k : ℕ). Ok (parsed (record { at = at; code = k }) (at + row.width))) e
    go (Err r) h = no_value_lem h

module _ (z : Sizes) (image : List ℕ) (at : ℕ) (row : Row) (t : (Outcome (ℕ × Cursor))) (e : taken_said t ≡ taken_at z image at row.width) where
  abbrev s : Stream
  s = stream_in z image

  abbrev valued : ℕ → Outcome Value → Format Found
  valued code o = given o >>= λ v. ends (found row at code v)

  pub field-missed : {r : Refusal} → t ≡ Err r → Err r ≡ parse s (field_of row) at
  unfolding field_of
  field-missed h = sym (parse-refused s (bits row.width) (λ code. valued code (decode row at code)) at (past z image at row.width t e h))

  module _ {code : ℕ} {next : Cursor} (h : t ≡ Ok (code, next)) where
    pub field-lies : code < 2 ^ row.width
    field-lies = bits-lt s at row.width (got z image at row.width t e h)

    pub field-taken : parse s (valued code (decode row at code)) next.at ≡ parse s (field_of row) at
    unfolding field_of
    field-taken = sym (parse-next s (bits row.width) (λ code. valued code (decode row at code)) at (got z image at row.width t e h))

    -- The field's value, as its row decodes it.
    module _ (d : Outcome Value) (f : d ≡ decode row at code) where
      pub value-means : {v : Value} → d ≡ Ok v → v ≡ value_in (parse s (field_of row) at)
      value-means g = ap (λ o. value_in (parse s (valued code o) next.at)) (same_of g f) ∙ ap value_in field-taken

      pub value-refused : {r : Refusal} → d ≡ Err r → Missing ≡ value_in (parse s (field_of row) at)
      value-refused g = ap (λ o. value_in (parse s (valued code o) next.at)) (same_of g f) ∙ ap value_in field-taken

-- A valid code fits its row's bits.
pub code-lies : (s : Stream) (row : Row) (at : ℕ) {x : (Outcome (ℕ × Cursor))} {code : ℕ} {next : Cursor} → code_said at x ≡ keeping coded (parse s (field_of row) at) → x ≡ Ok (code, next) →
    code < 2 ^ row.width
unfolding field_of
code-lies s row at {x} {code} {next} e h =
    let (y, q, p) = kept coded (parse s (field_of row) at) (said_of (code_said at) h e) in
    subst (λ (c : Coded). c.code < 2 ^ row.width) q (go (ltb s.bits (at + row.width)) (decode row at here) p)
  where
    here : ℕ
    here = field_at s.number at row.width

    go : {y : Found} {n : ℕ} (b : Bool) (o : Outcome Value) →
        Ok (parsed y n) ≡ cond b (Err (PastEnd at)) (parse s (given o >>= λ v. ends (found row at here v)) (at + row.width)) → y.code < 2 ^ row.width
    go true o f = no_value_lem (sym f)
    go false (Ok v) f = subst (λ (z : Parsed Found). z.found.code < 2 ^ row.width) (sym (good-same f)) (field_lt s.number at row.width)
    go false (Err r) f = no_value_lem (sym f)

-- The field's code, as its row judges it.
module _ (z : Sizes) (image : List ℕ) (at : ℕ) (row : Row) (t : Outcome (ℕ × Cursor)) (e : taken_said t ≡ taken_at z image at row.width) where
  values : (code : ℕ) (next : Cursor) (o : Outcome Value) →
      outcome.◌>>◌ (outcome.◌>>◌ o (Ok (tt {0}))) (behind (record { at = at; code = code }) next)
      ≡ keeping coded (parse (stream_in z image) (given o >>= λ v. ends (found row at code v)) next.at)
  values code next (Ok v) = refl
  values code next (Err r) = refl

  pub code-missed : {r : Refusal} → t ≡ Err r → Err r ≡ keeping coded (parse (stream_in z image) (field_of row) at)
  code-missed h = ap (keeping coded) (field-missed z image at row t e h)

  module _ {code : ℕ} {next : Cursor} (h : t ≡ Ok (code, next)) {o : Outcome (Unit {0})} (j : o ≡ judge row at code) where
    judges : {q : Outcome (Unit {0})} → o ≡ q → outcome.◌>>◌ q (behind (record { at = at; code = code }) next) ≡ keeping coded (parse (stream_in z image) (field_of row) at)
    judges i = ap (λ q. outcome.◌>>◌ q (behind (record { at = at; code = code }) next)) (same_of i j) ∙ values code next (decode row at code) ∙ ap (keeping coded) (field-taken z image at row t e h)

    pub code-judged : {r : Refusal} → o ≡ Err r → Err r ≡ keeping coded (parse (stream_in z image) (field_of row) at)
    code-judged i = judges i

    pub code-stands : {u : Unit {0}} → o ≡ Ok u → behind (record { at = at; code = code }) next ≡ keeping coded (parse (stream_in z image) (field_of row) at)
    code-stands i = judges i
