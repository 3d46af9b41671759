-- Laws of fields inside the stream: judging them at their
-- places in order gives what parsing them line by line does.
use Rattle.layout.proofs.Names.{◌≡◌, refl, sym, ap, ap₂, ◌∙◌, subst, Bool, false, not, cond, List, [], ◌∷◌, ◌++◌, ℕ, zero, suc, ◌+◌, ◌*◌, ◌/◌, ◌%◌, ◌≤◌, ◌<◌, arith, eqb, length, take, drop, get_or, high, low}
use Rattle.layout.proofs.Names.{le-ltb, eq-eqb, ne_eqb, Refusal, Outcome, Ok, Err, PastEnd, WrongBlock, same_of, then-good, then-refused, bind_assoc, field_at, field_lt, field-add, Value, Row}
use Rattle.layout.proofs.Names.{Err, Template, Bridge, Resistance, Option, Some, None, Layout, decode, judge, Open, Line, chose, basic, template33, template32, template_lines}
use Rattle.layout.proofs.Names.{template_of, lines_of, last_field, line_of, row_of, bits_before, row_open, Format, ends, ◌>>=◌, bits, given, reject◌if◌, Stream, Parsed, parse, Found, field_of, fields_of, selector_of}
use Rattle.layout.proofs.Names.{named, first_block, last_choice, block_bits, first_selector, field_place, behind_fields, judged, front_lines}
use Rattle.layout.proofs.Formats.{parsed, parse-bind}
use Rattle.layout.proofs.Fields.{found}
use Rattle.refusal.specs.Outcome as outcome

-- ---- fields judged at their places

-- The latest choice after fields that are parsed line by line.
abbrev pub choice_behind : Stream → List Line → ℕ → ℕ → Outcome (Parsed ℕ)
choice_behind s lines latest at =
    outcome.◌>>=◌ (parse s (fields_of lines latest) at) (λ x. Ok (parsed (last_choice lines x.found latest) x.next))

abbrev pub line_bits : List Line → ℕ → ℕ
line_bits lines choice = bits_before lines choice (length lines)

-- The codes in the stream make the choice: each row is
-- the row at it, and it is the latest choice after them.
abbrev pub Makes : Stream → List Line → ℕ → ℕ → ℕ → Type 0
Makes s [] latest choice at = latest ≡ choice
Makes s (l ∷ lines) latest choice at =
    let row = l.row_at choice in
    (l.row_at latest ≡ row) × Makes s lines (chose l.sets (field_at s.number at row.width) latest) choice (at + row.width)

-- After lines that are inside the stream and make the choice, further lines are parsed at it.
pub fields-judged : (s : Stream) (lines more : List Line) (latest choice at : ℕ) → Makes s lines latest choice at → at + line_bits lines choice ≤ s.bits →
    choice_behind s (lines ++ more) latest at ≡ outcome.◌>>◌ (judged s lines choice at) (choice_behind s more choice (at + line_bits lines choice))
unfolding fields_of field_of
fields-judged s [] more latest choice at m inside = ap₂ (λ (c n : ℕ). choice_behind s more c n) m (omega arith)
fields-judged s (l ∷ lines) more latest choice at m inside =
    ap (λ (r : Row). kept (parse s (field_of r >>= others) at)) m.0
    ∙ ap (λ (t : Bool). kept (cond t (Err (PastEnd at)) (parse s (valued (decode row at code) >>= others) next))) (le-ltb s.bits next (omega arith))
    ∙ go (decode row at code) (fields-judged s lines more later choice next m.1 (omega arith))
  where
    row : Row
    row = l.row_at choice

    code : ℕ
    code = field_at s.number at row.width

    next : ℕ
    next = at + row.width

    later : ℕ
    later = chose l.sets code latest

    others : Found → Format (List Found)
    others x = fields_of (lines ++ more) (chose l.sets x.code latest) >>= λ rest. ends (x ∷ rest)

    valued : Outcome Value → Format Found
    valued o = given o >>= λ v. ends (found row at code v)

    kept : Outcome (Parsed (List Found)) → Outcome (Parsed ℕ)
    kept o = outcome.◌>>=◌ o (λ x. Ok (parsed (last_choice (l ∷ (lines ++ more)) x.found latest) x.next))

    behind : ℕ → Outcome (Parsed ℕ)
    behind n = choice_behind s more choice n

    go : (o : Outcome Value) → choice_behind s (lines ++ more) later next ≡ outcome.◌>>◌ (judged s lines choice next) (behind (next + line_bits lines choice)) →
        kept (parse s (valued o >>= others) next)
        ≡ outcome.◌>>◌ (outcome.◌>>◌ (outcome.◌>>◌ o (Ok (tt {0}))) (judged s lines choice next)) (behind (at + line_bits (l ∷ lines) choice))
    go (Err r) rest = refl
    go (Ok v) rest =
        let make : Parsed (List Found) → Outcome (Parsed (List Found)) = λ x. Ok (parsed (found row at code v ∷ x.found) x.next) in
        ap kept (parse-bind s (fields_of (lines ++ more) later) (λ xs. ends (found row at code v ∷ xs)) next)
        ∙ bind_assoc (parse s (fields_of (lines ++ more) later) next) make (λ x. Ok (parsed (last_choice (l ∷ (lines ++ more)) x.found latest) x.next))
        ∙ rest
        ∙ ap (λ (n : ℕ). outcome.◌>>◌ (judged s lines choice next) (behind n)) (omega arith)

-- ---- open fields always pass

abbrev pub AllOpen : List Line → ℕ → Type 0
AllOpen [] choice = Unit {0}
AllOpen (l ∷ lines) choice = Open (l.row_at choice) × AllOpen lines choice

-- n lines after the first i are open.
pub behind-open : (lines : List Line) (none : Line) (choice i n : ℕ) → ((j : ℕ) → i ≤ j → j < i + n → Open ((get_or lines j none).row_at choice)) →
    AllOpen (take n (drop i lines)) choice
behind-open lines none choice zero zero h = tt
behind-open [] none choice zero (suc n) h = tt
behind-open (l ∷ lines) none choice zero (suc n) h =
    (h 0 (omega arith) (omega arith), behind-open lines none choice 0 n (λ j lo hi. h (suc j) (omega arith) (omega arith)))
behind-open [] none choice (suc i) zero h = tt
behind-open [] none choice (suc i) (suc n) h = tt
behind-open (l ∷ lines) none choice (suc i) n h = behind-open lines none choice i n (λ j lo hi. h (suc j) (omega arith) (omega arith))

open-judged : (s : Stream) (lines : List Line) (choice at : ℕ) → AllOpen lines choice → judged s lines choice at ≡ Ok tt
open-judged s [] choice at h = refl
open-judged s (l ∷ lines) choice at h =
    let row = l.row_at choice in
    then-good _ (h.0 at (field_at s.number at row.width) (field_lt s.number at row.width)) ∙ open-judged s lines choice (at + row.width) h.1

-- ---- the loop over fields

-- The loop that judges fields has reached some lines
-- at a place, on its way to an answer and to an end.
pub record JudgedUpTo (s : Stream) (choice end : ℕ) (answer : Outcome (Unit {0})) (lines : List Line) (at : ℕ) : Type 0 where
  pub place : at + line_bits lines choice ≡ end
  pub same : judged s lines choice at ≡ answer

module _ {s : Stream} {choice end : ℕ} {answer : Outcome (Unit {0})} where
  pub come-open : {lines : List Line} {at : ℕ} → JudgedUpTo s choice end answer lines at → AllOpen lines choice → Ok tt ≡ answer
  come-open {lines} {at} h all = sym (open-judged s lines choice at all) ∙ h.same

  module _ {l : Line} {lines : List Line} {at : ℕ} (h : JudgedUpTo s choice end answer (l ∷ lines) at) {row : Row} (e : row ≡ l.row_at choice) where
    pub come-inside : end ≤ s.bits → at + row.width ≤ s.bits
    come-inside most = omega (arith, h.place, ap (λ r. r.width) e)

    module _ (j : Outcome (Unit {0})) (f : j ≡ judge row at (field_at s.number at row.width)) where
      here : j ≡ judge (l.row_at choice) at (field_at s.number at (l.row_at choice).width)
      here = f ∙ ap (λ r. judge r at (field_at s.number at r.width)) e

      pub come-halt : {r : Refusal} → j ≡ Err r → Err r ≡ answer
      come-halt k = sym (then-refused _ (sym (same_of k here))) ∙ h.same

      pub come-next : j ≡ (Ok tt) → JudgedUpTo s choice end answer lines (at + row.width)
      come-next k =
          let w : row.width ≡ (l.row_at choice).width = ap (λ r. r.width) e in
          record {
            place = omega (arith, h.place);
            same = ap (λ (n : ℕ). judged s lines choice (at + n)) w ∙ sym (then-good _ (sym (same_of k here))) ∙ h.same;
          }

-- ---- Basic and the templates

module _ (s : Stream) where
  pub basic-judged : first_selector ≤ s.bits → choice_behind s basic 0 0 ≡ outcome.◌>>◌ (judged s basic 0 0) (Ok (parsed 0 first_selector))
  unfolding basic fields_of
  basic-judged h = fields-judged s basic [] 0 0 0 (refl, (refl, (refl, (refl, (refl, refl))))) h

  -- Field 9 of each template is at one place, and it sets the choice.
  makes : (t : Template) {choice : ℕ} → choice ≡ field_at s.number 144 2 → Makes s (front_lines t) 0 choice 74
  unfolding template33 template32
  makes Bridge e =
      subst (λ (c : ℕ). Makes s (front_lines Bridge) 0 c 74) (sym e)
      (refl, (refl, (refl, (refl, (refl, (refl, (refl, (refl, (refl, (refl, (refl, (refl, (refl, (refl, (refl, refl)))))))))))))))
  makes Resistance e =
      subst (λ (c : ℕ). Makes s (front_lines Resistance) 0 c 74) (sym e)
      (refl, (refl, (refl, (refl, (refl, (refl, (refl, (refl, (refl, (refl, (refl, (refl, (refl, refl)))))))))))))

pub basic-end : line_bits basic 0 ≡ first_selector
unfolding basic
basic-end = refl

pub choice-place : (t : Template) (p : ℕ) → field_place (record { template = t; precision = p }) 9 ≡ 144
unfolding field_place lines_of basic template33 template32
choice-place Bridge p = refl
choice-place Resistance p = refl

-- The last line sets no choice and takes every code. At most 306 bits come before it.
own-lines : (t : Template) → front_lines t ++ (line_of t (last_field t) ∷ []) ≡ template_lines t
unfolding lines_of basic template33 template32
own-lines Bridge = refl
own-lines Resistance = refl

pub last-sets : (t : Template) → (line_of t (last_field t)).sets ≡ false
unfolding lines_of basic template33 template32
last-sets Bridge = refl
last-sets Resistance = refl

pub last-open : (t : Template) (p : ℕ) → Open ((line_of t (last_field t)).row_at p)
unfolding lines_of basic template33 template32
last-open Bridge p = row_open _ tt
last-open Resistance p = row_open _ tt

pub front-end : (t : Template) (p : ℕ) →
    let layout : Layout = record { template = t; precision = p } in let last = field_place layout (last_field t) in
    (first_selector + block_bits + line_bits (front_lines t) p ≡ last) × (last + (row_of layout (last_field t)).width ≡ behind_fields layout) × (last ≤ 306)
unfolding field_place lines_of basic template33 template32
front-end Bridge zero = (refl, refl, omega arith)
front-end Bridge (suc zero) = (refl, refl, omega arith)
front-end Bridge (suc (suc p)) = (refl, refl, omega arith)
front-end Resistance zero = (refl, refl, omega arith)
front-end Resistance (suc zero) = (refl, refl, omega arith)
front-end Resistance (suc (suc zero)) = (refl, refl, omega arith)
front-end Resistance (suc (suc (suc p))) = (refl, refl, omega arith)

-- A template's own fields, at the precision in the stream:
-- all but the last are judged, and the last is parsed.
pub own-judged : (s : Stream) (layout : Layout) → layout.precision ≡ field_at s.number (field_place layout 9) 2 →
    let t = layout.template in let last = field_place layout (last_field t) in let p = layout.precision in
    last ≤ s.bits → choice_behind s (template_lines t) 0 (first_selector + block_bits)
    ≡ outcome.◌>>◌ (judged s (front_lines t) p (first_selector + block_bits)) (choice_behind s (line_of t (last_field t) ∷ []) p last)
own-judged s layout e inside =
    let t : Template = layout.template in
    let p : ℕ = layout.precision in
    let start : ℕ = first_selector + block_bits in
    let place = (front-end t p).0 in
    ap (λ ls. choice_behind s ls 0 start) (sym (own-lines t))
    ∙ fields-judged s (front_lines t) (line_of t (last_field t) ∷ []) 0 p start (makes s t (e ∙ ap (λ (n : ℕ). field_at s.number n 2) (choice-place t p))) (omega (arith, place))
    ∙ ap (λ (n : ℕ). outcome.◌>>◌ (judged s (front_lines t) p start) (choice_behind s (line_of t (last_field t) ∷ []) p n)) place

-- ---- the first block

-- The selector and the number of the block read as one field: the selector's bits are the lowest.
module _ (s : Stream) (at : ℕ) (inside : at + block_bits ≤ s.bits) {block : ℕ} (e : block ≡ field_at s.number at block_bits) where
  parts : block ≡ field_at s.number (at + 2) 8 * 4 + field_at s.number at 2
  parts = e ∙ field-add s.number at 8 2

  selector-is : field_at s.number at 2 ≡ block % 4
  selector-is = sym (ap (λ (n : ℕ). n % 4) parts ∙ low (field_at s.number (at + 2) 8) 2 (field_lt s.number at 2))

  number_is : field_at s.number (at + 2) 8 ≡ block / 4
  number_is = sym (ap (λ (n : ℕ). n / 4) parts ∙ high (field_at s.number (at + 2) 8) 2 (field_lt s.number at 2))

  abbrev numbered : Format Template
  numbered = bits 8 >>= λ number. named at (template_of number)

  abbrev tested : Bool → Outcome (Parsed Template)
  tested b = parse s (reject WrongBlock at if not b >>= λ u. numbered) (at + 2)

  at-selector : parse s first_block at ≡ tested (eqb (block % 4) 0)
  unfolding first_block selector_of
  at-selector =
      ap₂ (λ (t : Bool) (k : ℕ). cond t (Err (PastEnd at)) (tested (eqb k 0))) (le-ltb s.bits (at + 2) (omega arith)) selector-is

  pub wrong-selector : (block % 4 ≡ 0 → ⊥) → Err (WrongBlock at) ≡ parse s first_block at
  wrong-selector h = sym (at-selector ∙ ap tested (ne_eqb (block % 4) 0 h))

  module _ (h : block % 4 ≡ 0) (y : Option Template) (g : y ≡ template_of (block / 4)) where
    at_name : parse s first_block at ≡ parse s (named at (y)) (at + block_bits)
    at_name =
        let n : at + 2 + 8 ≡ at + block_bits = omega arith in
        at-selector
        ∙ ap tested (eq-eqb (block % 4) 0 h)
        ∙ ap₂ (λ (t : Bool) (k : ℕ). cond t (Err (PastEnd (at + 2))) (parse s (named at (template_of k)) (at + 2 + 8)))
        (le-ltb s.bits (at + 2 + 8) (omega arith)) number_is
        ∙ ap₂ (λ o (k : ℕ). parse s (named at o) k) (sym g) n

    pub block-named : {template : Template} → y ≡ Some template → Ok (parsed template (at + block_bits)) ≡ parse s first_block at
    block-named k = sym (at_name ∙ ap (λ u. parse s (named at (u)) (at + block_bits)) k)

    pub block-unknown : y ≡ None → Err (WrongBlock at) ≡ parse s first_block at
    block-unknown k = sym (at_name ∙ ap (λ u. parse s (named at (u)) (at + block_bits)) k)
