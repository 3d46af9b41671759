-- Laws of the check of fields and blocks.
use Rattle.sheet.proofs.Names.{◌≡◌, refl, sym, ap, ap₂, ◌∙◌, subst, not, List, [], ◌∷◌, ℕ, suc, ◌+◌, ◌-◌, ◌≤◌, ◌<◌, arith, eqb, length, take, drop, get_or, length-append, drop-cons, take_at, drop_at, lt-ltb, le-ltb}
use Rattle.sheet.proofs.Names.{eq-eqb, ne_eqb, Refusal, Outcome, Ok, Err, PastEnd, WrongBlock, no_value_lem, same_of, then-good, then-refused, Sizes, field_at, stream_bits, stream_number, WholeImage, field_lt}
use Rattle.sheet.proofs.Names.{Value, Row, Template, Layout, Outcome, Ok, Err, judge, Open, OpenBehind, Line, chose, basic, template_lines, lines_of, last_field, line_of, row_of, no_line, decode, Sound}
use Rattle.sheet.proofs.Names.{row-sound, Format, ends, ◌>>=◌, bits, given, reject◌if◌, Stream, parse, Found, field_of, fields_of, stream_in, first_selector, field_place, behind_fields, judged, front_lines, parsed}
use Rattle.sheet.proofs.Names.{parse-next, parse-refused, found, JudgedUpTo, come-open, come-inside, come-halt, come-next, behind-open, basic-end, basic-judged, last-sets, last-open, front-end, own-judged}
use Rattle.sheet.proofs.Names.{keeping, choice_on, Roomy, basic_choice, own_start, own_judged, own_choice, mark_of, stood_to, basic-most}
use Rattle.sheet.proofs.Steps.{keep-made, keep-bind}
use Rattle.refusal.specs.Outcome as outcome

-- ---- a code that has to be the expected one

module _ (s : Stream) (w wanted place at : ℕ) where
  abbrev tested : ℕ → Format (Unit {0})
  tested code = reject WrongBlock place if not (eqb code wanted)

  pub mark-past : {r : Refusal} → Err r ≡ parse s (bits w) at → Err r ≡ parse s (mark_of w wanted place) at
  mark-past e = sym (parse-refused s (bits w) tested at e)

  module _ {code n : ℕ} (e : Ok (parsed code n) ≡ parse s (bits w) at) where
    at_test : parse s (mark_of w wanted place) at ≡ parse s (tested code) n
    at_test = parse-next s (bits w) tested at e

    pub mark-right : code ≡ wanted → Ok (parsed tt n) ≡ parse s (mark_of w wanted place) at
    mark-right h = sym (at_test ∙ ap (λ b. parse s (reject WrongBlock place if not b) n) (eq-eqb code wanted h))

    pub mark-wrong : (code ≡ wanted → ⊥) → Err (WrongBlock place) ≡ parse s (mark_of w wanted place) at
    mark-wrong h = sym (at_test ∙ ap (λ b. parse s (reject WrongBlock place if not b) n) (ne_eqb code wanted h))

-- ---- fields judged at their places

-- Basic, the first block and the precision are inside every stream.
pub stream-holds : {z : Sizes} {image : List ℕ} → WholeImage z image → {n : ℕ} → n ≤ 248 → n ≤ stream_bits z
stream-holds w h = omega (arith, w.paged)

-- The lines of fields `first` to `last`, counted from 1.
abbrev lines_from : Template → ℕ → ℕ → List Line
lines_from template first last = take (suc last - first) (drop (first - 1) (lines_of template))

-- The first of these lines.
first-line : (template : Template) (f last : ℕ) → 1 ≤ f → f ≤ last → last ≤ last_field template → lines_from template f last ≡ line_of template f ∷ lines_from template (f + 1) last
first-line template f last lo hi most =
    let n : suc last - f ≡ suc (suc last - (f + 1)) = omega arith in
    let i : suc (f - 1) ≡ f + 1 - 1 = omega arith in
    ap₂ (λ (k : ℕ) (ls : List Line). take k ls) n (drop-cons (lines_of template) (f - 1) no_line (omega arith))
    ∙ ap (λ (k : ℕ). line_of template f ∷ take (suc last - (f + 1)) (drop k (lines_of template))) i

-- Basic's lines, and the template's own but the last.
basic-lines : (template : Template) → lines_from template 1 (length basic) ≡ basic
unfolding lines_of
basic-lines template = take_at basic (template_lines template) (suc (length basic) - 1) (omega arith)

front-lines : (template : Template) {n : ℕ} → n ≡ length basic → lines_from template (n + 1) (last_field template - 1) ≡ front_lines template
unfolding lines_of
front-lines template {n} e =
    let k : suc (last_field template - 1) - (n + 1) ≡ length (template_lines template) - 1 = omega (arith, length-append basic (template_lines template)) in
    ap₂ (λ (i : ℕ) (ls : List Line). take i ls) k (drop_at basic (template_lines template) (n + 1 - 1) (omega arith))

-- The loop has reached field f of Basic at a place, or one of a template's own fields.
abbrev pub BasicJudgedUpTo : Template → Sizes → List ℕ → ℕ → ℕ → Type 0
BasicJudgedUpTo t z image f at = let s = stream_in z image in (0 < f) × JudgedUpTo s 0 first_selector (judged s basic 0 0) (lines_from t f (length basic)) at

abbrev pub OwnJudgedUpTo : Sizes → List ℕ → Layout → ℕ → ℕ → Type 0
OwnJudgedUpTo z image layout f at =
    let s = stream_in z image in
    let t = layout.template in
    (length basic < f) × JudgedUpTo s layout.precision (field_place layout (last_field t)) (own_judged s layout) (lines_from t f (last_field t - 1)) at

-- The loop begins at the first field.
pub basic-start : (t : Template) (z : Sizes) (image : List ℕ) → BasicJudgedUpTo t z image 1 0
basic-start t z image =
    let s : Stream = stream_in z image in
    (omega arith, subst (λ ls. JudgedUpTo s 0 first_selector (judged s basic 0 0) ls 0) (sym (basic-lines t)) (record { place = omega (arith, basic-end); same = refl }))

pub own-start : (layout : Layout) (z : Sizes) (image : List ℕ) {n : ℕ} → n ≡ length basic → OwnJudgedUpTo z image layout (n + 1) own_start
own-start layout z image e =
    let s : Stream = stream_in z image in
    let t : Template = layout.template in (
      omega arith,
      subst (λ ls. JudgedUpTo s layout.precision (field_place layout (last_field t)) (own_judged s layout) ls own_start) (sym (front-lines t e))
          (record { place = (front-end t layout.precision).0; same = refl }),
    )

-- The loop is past the last field that can refuse a code.
pub judged-all : {s : Stream} {choice end : ℕ} {answer : Outcome (Unit {0})} (t : Template) (f last at : ℕ) → JudgedUpTo s choice end answer (lines_from t f last) at →
    {closed most : ℕ} → OpenBehind t closed most → last ≤ most → closed < f → Ok tt ≡ answer
judged-all {choice = choice} t f last at h {closed} all m l = come-open h (behind-open (lines_of t) no_line choice (f - 1) (suc last - f) rows)
  where
    rows : (j : ℕ) → f - 1 ≤ j → j < f - 1 + (suc last - f) → Open ((get_or (lines_of t) j no_line).row_at choice)
    rows j lo hi =
        let e : suc j - 1 ≡ j = omega arith in
        subst (λ (i : ℕ). Open ((get_or (lines_of t) i no_line).row_at choice)) e (all choice (suc j) (omega arith) (omega arith))

-- One turn of the loop: the row is inside the stream;
-- a refusal is the answer, else the loop goes on.
pub record Turn (z : Sizes) (image : List ℕ) (row : Row) (at : ℕ) (answer : Outcome (Unit {0})) (Next : ℕ → Type 0) : Type 0 where
  pub fits : WholeImage z image × Sound row × (at + row.width ≤ stream_bits z)
  pub halt : (j : (Outcome (Unit {0}))) → j ≡ judge row at (field_at (stream_number z image) at row.width) → {r : Refusal} → j ≡ Err r → Err r ≡ answer
  pub next : (j : (Outcome (Unit {0}))) → j ≡ judge row at (field_at (stream_number z image) at row.width) → j ≡ (Ok tt) → Next (at + row.width)

turn_at : {z : Sizes} {image : List ℕ} {choice end : ℕ} {answer : Outcome (Unit {0})} → WholeImage z image → end ≤ stream_bits z →
    (t : Template) (least f last at : ℕ) → (least < f) × JudgedUpTo (stream_in z image) choice end answer (lines_from t f last) at → f ≤ last → last ≤ last_field t →
    {row : Row} → row ≡ (line_of t f).row_at choice →
    Turn z image row at answer (λ (n : ℕ). (least < f + 1) × JudgedUpTo (stream_in z image) choice end answer (lines_from t (f + 1) last) n)
turn_at {z} {image} {choice} {end} {answer} whole inside t least f last at (lo, h) hi most {row} e = record {
  fits = (whole, subst Sound (sym e) (row-sound (record { template = t; precision = choice }) f (omega arith) (omega arith)), come-inside here e inside);
  halt = come-halt here e;
  next = λ j g k. (omega arith, come-next here e j g k);
}
  where
    here : JudgedUpTo (stream_in z image) choice end answer (line_of t f ∷ lines_from t (f + 1) last) at
    here = subst (λ ls. JudgedUpTo (stream_in z image) choice end answer ls at) (first-line t f last (omega arith) hi most) h

pub basic-turn : (t : Template) {z : Sizes} {image : List ℕ} → WholeImage z image → (f at : ℕ) → BasicJudgedUpTo t z image f at → {closed : ℕ} → f ≤ closed → closed ≤ length basic →
    {row : Row} → row ≡ (line_of t f).row_at 0 → Turn z image row at (judged (stream_in z image) basic 0 0) (BasicJudgedUpTo t z image (f + 1))
basic-turn t w f at h hi l = turn_at w (stream-holds w (omega arith)) t 0 f (length basic) at h (omega arith) (basic-most t)

abbrev pub OwnTurn : Sizes → List ℕ → Layout → Row → ℕ → ℕ → Type 0
OwnTurn z image layout row f at = Turn z image row at (own_judged (stream_in z image) layout) (OwnJudgedUpTo z image layout (f + 1))

pub own_turn : (layout : Layout) {z : Sizes} {image : List ℕ} → Roomy z image → (f at : ℕ) → OwnJudgedUpTo z image layout f at → {closed : ℕ} → f ≤ closed →
    closed < last_field layout.template → {row : Row} → row ≡ (line_of layout.template f).row_at layout.precision → OwnTurn z image layout row f at
own_turn layout w f at h hi l =
    let t : Template = layout.template in
    turn_at w.whole (omega (arith, w.room, (front-end t layout.precision).2)) t (length basic) f (last_field t - 1) at h (omega arith) (omega arith)

-- ---- the result of judging

-- Basic, which is inside every stream.
pub basic-stood : {z : Sizes} {image : List ℕ} → WholeImage z image → (j : (Outcome (Unit {0}))) → let s = stream_in z image in
    j ≡ judged s basic 0 0 → stood_to 0 first_selector j ≡ basic_choice s
basic-stood {z} {image} w j e =
    let s : Stream = stream_in z image in
    go j ∙ ap (λ o. outcome.◌>>◌ o (Ok (parsed 0 first_selector))) e
    ∙ sym (keep-bind (choice_on basic 0) (parse s (fields_of basic 0) 0) ∙ basic-judged s (stream-holds w (omega arith)))
  where
    go : (x : (Outcome (Unit {0}))) → stood_to 0 first_selector x ≡ outcome.◌>>◌ (x) (Ok (parsed 0 first_selector))
    go (Ok tt) = refl
    go (Err r) = refl

-- A field that passes the end, and one inside the stream that takes every code.
module _ (s : Stream) (row : Row) (at : ℕ) where
  field_past : s.bits < at + row.width → parse s (field_of row) at ≡ Err (PastEnd at)
  unfolding field_of
  field_past h = rw (lt-ltb s.bits (at + row.width) h)

  field_open : Open row → at + row.width ≤ s.bits → (p : ℕ) → keeping (λ x. p) (parse s (field_of row) at) ≡ Ok (parsed p (at + row.width))
  unfolding field_of
  field_open all h p = rw (le-ltb s.bits (at + row.width) h) (go (decode row at code) (all at code (field_lt s.number at row.width)))
    where
      code : ℕ
      code = field_at s.number at row.width

      go : (o : Outcome Value) → outcome.◌>>◌ o (Ok (tt {0})) ≡ Ok tt →
          keeping (λ x. p) (parse s (given o >>= λ v. ends (found row at code v)) (at + row.width)) ≡ Ok (parsed p (at + row.width))
      go (Ok v) e = refl
      go (Err r) e = no_value_lem e

-- A template's own fields: all but the last are judged, and the last may pass the end.
module _ {z : Sizes} {image : List ℕ} (w : Roomy z image) (layout : Layout) (e : layout.precision ≡ field_at (stream_number z image) (field_place layout 9) 2) where
  abbrev s : Stream
  s = stream_in z image

  abbrev t : Template
  t = layout.template

  abbrev last : Row
  last = row_of layout (last_field t)

  abbrev place : ℕ
  place = field_place layout (last_field t)

  behind-front : own_choice s t ≡ outcome.◌>>◌ (own_judged s layout) (keeping (λ x. layout.precision) (parse s (field_of last) place))
  unfolding fields_of
  behind-front =
      let p : ℕ = layout.precision in
      let lines : List Line = line_of t (last_field t) ∷ [] in
      keep-bind (choice_on (template_lines t) 0) (parse s (fields_of (template_lines t) 0) own_start)
      ∙ own-judged s layout e (omega (arith, w.room, (front-end t p).2))
      ∙ ap (λ o. outcome.◌>>◌ (own_judged s layout) o)
      (sym (keep-bind (choice_on lines p) (parse s (fields_of lines p) place))
      ∙ keep-made (choice_on lines p) (λ x. x ∷ []) s (field_of last) place
      ∙ ap (λ b. keeping (λ (x : Found). chose b x.code p) (parse s (field_of last) place)) (last-sets t))

  module _ (j : Outcome (Unit {0})) (i : j ≡ own_judged s layout) where
    pub own-turned : {r : Refusal} → j ≡ Err r → Err r ≡ own_choice s t
    own-turned h = sym (behind-front ∙ then-refused _ (sym (same_of h i)))

    module _ (h : j ≡ (Ok tt)) where
      at_last : own_choice s t ≡ keeping (λ x. layout.precision) (parse s (field_of last) place)
      at_last = behind-front ∙ then-good _ (sym (same_of h i))

      pub own-past : {at : ℕ} → at ≡ place → stream_bits z < behind_fields layout → Err (PastEnd at) ≡ own_choice s t
      own-past a l =
          ap (λ (n : ℕ). Err (PastEnd n)) a
          ∙ sym (at_last ∙ ap (keeping (λ x. layout.precision)) (field_past s last place (omega (arith, (front-end t layout.precision).1))))

      pub own-stands : {end : ℕ} → end ≡ behind_fields layout → end ≤ stream_bits z → Ok (parsed layout.precision end) ≡ own_choice s t
      own-stands a l =
          let b = (front-end t layout.precision).1 in
          ap (λ (n : ℕ). Ok (parsed layout.precision n)) (a ∙ sym b)
          ∙ sym (at_last ∙ field_open s last place (last-open t layout.precision) (omega (arith, a, b)) layout.precision)
