-- Laws of the check of block 41.
use Rattle.sheet.proofs.Names.{◌≡◌, refl, sym, ap, ap₂, ◌∙◌, Bool, true, false, not, cond, List, ◌∷◌, ◌++◌, Option, None, Some, ℕ, zero, suc, ◌+◌, ◌-◌, ◌*◌, ◌/◌, ◌%◌, ◌^◌, ◌≤◌, ◌<◌, arith, ltb-false, ltb, length}
use Rattle.sheet.proofs.Names.{length-append, high, low, field_at, field_lt, field-add, Refusal, Outcome, Ok, Err, WrongCurve, TooManyTerms, good-same, no_value_lem, said_of, Cursor, Row, Option, Sound}
use Rattle.sheet.proofs.Names.{curve_domain, segment_count, segment_start, term_count, exponent, coefficient, is_segment_count, is_term_count, most_terms, start_follows, segment-count-sound, start-sound, term-count-sound}
use Rattle.sheet.proofs.Names.{exponent-sound, CurveField, SegmentCount, Start, TermCount, Exponent, curve_row, Format, ends, ◌>>=◌, ◌>>◌, reject◌if◌, repeated, Stream, Parsed, parse, Found, FoundSegment, curve}
use Rattle.sheet.proofs.Names.{Passed, field_of, ruled_of, term_of, behind_term, terms_of, segment_of, behind_segment, nothing_passed, segments_of, curve_of, all_terms, term_bits, parsed, parse-split, None, Outcome}
use Rattle.sheet.proofs.Names.{Ok, Err, keeping, Coded, coded, counts_of, TermCodes, terms_behind, count_behind, passed_by, behind, code_said, step_said}
use Rattle.sheet.proofs.Names.{segment_step_said, taken_by, rises, with_coefficient, term, segment, with_terms, with_count, drawn}
use Rattle.layout.proofs.Curves.{counted}
use Rattle.sheet.proofs.Steps.{field-inside, kept, keep-next, keep-refused, keep-made, keep-bind, keep-twice, keep-through}
use Rattle.refusal.specs.Outcome as outcome

-- The rows of the fields that have to obey a rule are sound.
pub curve-sound : (field : CurveField) → Sound (curve_row field)
curve-sound SegmentCount = segment-count-sound
curve-sound Start = start-sound
curve-sound TermCount = term-count-sound
curve-sound Exponent = exponent-sound

-- ---- a field that has to obey a rule

module _ (s : Stream) (row : Row) (rule : ℕ → Bool) (at : ℕ) (x : (Outcome (ℕ × Cursor))) (e : code_said at x ≡ keeping coded (parse s (field_of row) at)) where
  pub ruled-halts : {r : Refusal} → x ≡ Err r → Err r ≡ keeping coded (parse s (ruled_of row rule) at)
  unfolding ruled_of
  ruled-halts h = sym (ap (keeping coded) (keep-refused coded s (field_of row) (taken_by rule) at (said_of (code_said at) h e)))

  pub ruled-steps : {code : ℕ} {next : Cursor} {takes : Bool} → x ≡ Ok (code, next) → takes ≡ rule code →
      cond takes (behind (record { at = at; code = code }) next) (Err (WrongCurve at)) ≡ keeping coded (parse s (ruled_of row rule) at)
  unfolding ruled_of
  ruled-steps {code} {next} {takes} h t =
      let (y, q, p) = keep-next coded s (field_of row) (taken_by rule) at (said_of (code_said at) h e) in
      ap (λ (b : Bool). cond b (behind (record { at = at; code = code }) next) (Err (WrongCurve at))) t
      ∙ ap (λ (c : Coded). cond (rule c.code) (behind c next) (Err (WrongCurve c.at))) (sym q)
      ∙ go y (rule y.code) ∙ sym (ap (keeping coded) p)
    where
      go : (y : Found) (b : Bool) →
          cond b (behind (coded y) next) (Err (WrongCurve y.at)) ≡ keeping coded (parse s (reject WrongCurve y.at if not b >> ends y) next.at)
      go y true = refl
      go y false = refl

-- A code that was accepted obeys the rule.
pub ruled-taken : (s : Stream) (row : Row) (rule : ℕ → Bool) (at : ℕ) {x : (Outcome (ℕ × Cursor))} {code : ℕ} {next : Cursor} → code_said at x ≡ keeping coded (parse s (ruled_of row rule) at) →
    x ≡ Ok (code, next) → rule code ≡ true
unfolding ruled_of
ruled-taken s row rule at {x} {code} {next} e h =
    let (y, q, p) = kept coded (parse s (ruled_of row rule) at) (said_of (code_said at) h e) in
    let (z, i, f, g) = parse-split s (field_of row) (taken_by rule) at p in
    sym (go y z i (rule z.code) refl g ∙ ap (λ (c : Coded). rule c.code) q)
  where
    go : (y z : Found) (i : ℕ) (b : Bool) → rule z.code ≡ b → Ok (parsed y next.at) ≡ parse s (reject WrongCurve z.at if not b >> ends z) i → true ≡ rule y.code
    go y z i true f g = sym (ap (λ u. rule u.found.code) (good-same g) ∙ f)
    go y z i false f g = no_value_lem (sym g)

-- ---- repeated formats

-- The state before the next item, with this many left.
abbrev pub passed_left : {A B : Type 0} → Stream → (B → Format A) → (B → A → B) → B → ℕ → ℕ → Outcome (Parsed B)
passed_left s one behind before left at = keeping (passed_by behind before) (parse s (repeated one behind left before) at)

module _ {A B : Type 0} (s : Stream) (one : B → Format A) (behind : B → A → B) (before : B) (left at : ℕ) where
  pub passed-done : left ≤ 0 → passed_left s one behind before left at ≡ Ok (parsed before at)
  unfolding repeated
  passed-done h = let z : left ≡ 0 = omega arith in ap (λ (k : ℕ). passed_left s one behind before k at) z

  module _ (more : 0 < left) where
    abbrev others : A → Format (List A)
    others x = repeated one behind (left - 1) (behind before x) >>= λ rest. ends (x ∷ rest)

    at_one : passed_left s one behind before left at ≡ keeping (passed_by behind before) (parse s (one before >>= others) at)
    unfolding repeated
    at_one = let m : left ≡ suc (left - 1) = omega arith in ap (λ (k : ℕ). passed_left s one behind before k at) m

    pub passed-halts : {r : Refusal} → Err r ≡ keeping (behind before) (parse s (one before) at) → passed_left s one behind before left at ≡ Err r
    passed-halts e = at_one ∙ ap (keeping (passed_by behind before)) (keep-refused (behind before) s (one before) others at e)

    pub passed-next : {after : B} {n : ℕ} → Ok (parsed after n) ≡ keeping (behind before) (parse s (one before) at) →
        passed_left s one behind before left at ≡ passed_left s one behind after (left - 1) n
    passed-next {after} {n} e =
        let (x, q, p) = keep-next (behind before) s (one before) others at e in
        at_one ∙ ap (keeping (passed_by behind before)) p
        ∙ keep-made (passed_by behind before) (λ rest. x ∷ rest) s (repeated one behind (left - 1) (behind before x)) n
        ∙ ap (λ b. passed_left s one behind b (left - 1) n) q

-- ---- a term

module _ (s : Stream) (before : Option ℕ) (at : ℕ) (x : (Outcome (ℕ × Cursor))) (e : code_said at x ≡ keeping coded (parse s (ruled_of exponent (rises before)) at)) where
  pub exponent-halts : {r : Refusal} → x ≡ Err r → Err r ≡ keeping (behind_term before) (parse s (term_of before) at)
  unfolding term_of
  exponent-halts h = sym (ap (keeping (behind_term before)) (keep-refused coded s (ruled_of exponent (rises before)) with_coefficient at (said_of (code_said at) h e)))

  module _ {code : ℕ} {middle : Cursor} (h : x ≡ Ok (code, middle)) (y : (Outcome (ℕ × Cursor))) (f : code_said middle.at y ≡ keeping coded (parse s (field_of coefficient) middle.at)) where
    at-coefficient : (p : Found) × (coded p ≡ record { at = at; code = code }) × (parse s (term_of before) at ≡ parse s (with_coefficient p) middle.at)
    unfolding term_of
    at-coefficient = keep-next coded s (ruled_of exponent (rises before)) with_coefficient at (said_of (code_said at) h e)

    pub coefficient-halts : {r : Refusal} → y ≡ Err r → Err r ≡ keeping (behind_term before) (parse s (term_of before) at)
    coefficient-halts g =
        let (p, q, w) = at-coefficient in
        sym (ap (keeping (behind_term before)) (w ∙ keep-refused coded s (field_of coefficient) (λ c. ends (term p c)) middle.at (said_of (code_said middle.at) g f)))

    pub term-stands : {code' : ℕ} {next : Cursor} → y ≡ Ok (code', next) → behind (Some code) next ≡ keeping (behind_term before) (parse s (term_of before) at)
    term-stands {code'} {next} g =
        let (p, q, w) = at-coefficient in
        let (c, q', w') = keep-next coded s (field_of coefficient) (λ c. ends (term p c)) middle.at (said_of (code_said middle.at) g f) in
        ap (λ (u : Coded). behind (Some u.code) next) (sym q) ∙ sym (ap (keeping (behind_term before)) (w ∙ w'))

-- The codes of a term, read as one field.
pub term-at-once : (s : Stream) (before : Option ℕ) (at : ℕ) {both : ℕ} → both ≡ field_at s.number at term_bits → at + term_bits ≤ s.bits → TermCodes before at both →
    Ok (parsed (Some (both % 2 ^ 7)) (at + term_bits)) ≡ keeping (behind_term before) (parse s (term_of before) at)
term-at-once s before at {both} e inside h =
    ap (λ (n : ℕ). Ok (parsed (Some (both % 2 ^ 7)) n)) places
    ∙ term-stands s before at (Ok ((both % 2 ^ 7), middle)) (ruled-steps s exponent (rises before) at (Ok ((both % 2 ^ 7), middle)) power refl (sym h.rising)) refl (Ok ((both / 2 ^ 7), end)) factor refl
  where
    N : ℕ
    N = s.number

    middle : Cursor
    middle = record { at = at + 7 }

    end : Cursor
    end = record { at = at + 7 + 32 }

    places : at + term_bits ≡ at + 7 + 32
    places = omega arith

    halves : both ≡ field_at N (at + 7) 32 * 2 ^ 7 + field_at N at 7
    halves = e ∙ field-add N at 32 7

    low-is : both % 2 ^ 7 ≡ field_at N at 7
    low-is = ap (λ (n : ℕ). n % 2 ^ 7) halves ∙ low (field_at N (at + 7) 32) 7 (field_lt N at 7)

    high_is : both / 2 ^ 7 ≡ field_at N (at + 7) 32
    high_is = ap (λ (n : ℕ). n / 2 ^ 7) halves ∙ high (field_at N (at + 7) 32) 7 (field_lt N at 7)

    power : code_said at (Ok ((both % 2 ^ 7), middle)) ≡ keeping coded (parse s (field_of exponent) at)
    power = field-inside s exponent at low-is (omega arith) h.power

    factor : code_said (at + 7) (Ok ((both / 2 ^ 7), end)) ≡ keeping coded (parse s (field_of coefficient) (at + 7))
    factor = field-inside s coefficient (at + 7) high_is (omega arith) h.factor

-- ---- a segment

-- The terms of a segment, which make a total; and a total that is too great.
module _ (s : Stream) (start total n at : ℕ) {many : Bool} (m : many ≡ ltb most_terms total) where
  abbrev limited : Bool → Outcome (Parsed Passed)
  limited b =
      outcome.◌>>◌ (outcome.refuse◌if◌ (TooManyTerms total) b) (keeping (λ terms. record { start = Some start; terms = total }) (parse s (terms_of n) at))

  pub too_many : many ≡ true → Err (TooManyTerms total) ≡ terms_behind s start total n at
  too_many t = ap limited (sym t ∙ m)

  pub terms-passed : many ≡ false → {v w : (Outcome (Option ℕ × Cursor))} → v ≡ w → step_said v ≡ keeping (passed_by behind_term None) (parse s (terms_of n) at) →
      keeping (λ last. record { start = Some start; terms = total }) (step_said w) ≡ terms_behind s start total n at
  terms-passed t h e =
      ap (keeping (λ last. record { start = Some start; terms = total })) (said_of step_said h e)
      ∙ keep-twice (λ last. record { start = Some start; terms = total }) (passed_by behind_term None) (parse s (terms_of n) at)
      ∙ ap limited (sym t ∙ m)

-- A segment from its start on.
module _ (s : Stream) (before : Passed) where
  abbrev final : Parsed FoundSegment → Outcome (Parsed Passed)
  final x = Ok (parsed (behind_segment before x.found) x.next)

  from-terms : (start count : Found) (at : ℕ) →
      outcome.◌>>=◌ (parse s (with_terms before start count) at) final ≡ terms_behind s start.code (before.terms + count.code) count.code at
  from-terms start count at = go (ltb most_terms (before.terms + count.code))
    where
      rest : Format FoundSegment
      rest = terms_of count.code >>= λ terms. ends (segment start count terms)

      go : (b : Bool) →
          outcome.◌>>=◌ (parse s (reject TooManyTerms (before.terms + count.code) if b >> rest) at) final
          ≡ outcome.◌>>◌ (outcome.refuse◌if◌ (TooManyTerms (before.terms + count.code)) b)
          (keeping (λ terms. record { start = Some start.code; terms = before.terms + count.code }) (parse s (terms_of count.code) at))
      go true = refl
      go false = sym (keep-bind (behind_segment before) (parse s rest at)) ∙ keep-made (behind_segment before) (segment start count) s (terms_of count.code) at

  pub segment-by : (at : ℕ) →
      outcome.◌>>=◌ (keeping coded (parse s (ruled_of segment_start (start_follows before.start)) at)) (λ x. count_behind s x.found.code before.terms x.next)
      ≡ keeping (behind_segment before) (parse s (segment_of before) at)
  unfolding segment_of
  segment-by at =
      sym (keep-bind (behind_segment before) (parse s (segment_of before) at)
      ∙ keep-through coded s (ruled_of segment_start (start_follows before.start)) (with_count before) at final
      (λ x. count_behind s x.found.code before.terms x.next)
      (λ x h. keep-through coded s (ruled_of term_count is_term_count) (with_terms before x.found) x.next final
      (λ c. terms_behind s x.found.code (before.terms + c.found.code) c.found.code c.next) (λ c g. from-terms x.found c.found c.next)))

-- ---- the curve

-- n of a format give n items.
repeated-length : {A B : Type 0} (s : Stream) (one : B → Format A) (behind : B → A → B) (n : ℕ) (before : B) (at : ℕ) {xs : List A} {m : ℕ} →
    Ok (parsed xs m) ≡ parse s (repeated one behind n before) at → length xs ≡ n
unfolding repeated
repeated-length s one behind zero before at e = ap (λ y. length y.found) (good-same e)
repeated-length s one behind (suc n) before at e =
    let (x, i, f, g) = parse-split s (one before) _ at e in
    let (rest, j, k, l) = parse-split s (repeated one behind n (behind before x)) (λ rest. ends (x ∷ rest)) i g in
    ap (λ y. length y.found) (good-same l) ∙ ap suc (repeated-length s one behind n (behind before x) i k)

-- A segment has as many terms as its count says, and not too many.
pub record Limits (before : Passed) (x : FoundSegment) : Type 0 where
  pub counted : length x.terms ≡ x.count.code
  pub few : before.terms + x.count.code ≤ most_terms

segment-limits : (s : Stream) (before : Passed) (at : ℕ) {x : FoundSegment} {m : ℕ} → Ok (parsed x m) ≡ parse s (segment_of before) at → Limits before x
unfolding segment_of terms_of
segment-limits s before at {x} {m} e =
    let (start, i, f, g) = parse-split s (ruled_of segment_start (start_follows before.start)) _ at e in
    let (count, j, k, l) = parse-split s (ruled_of term_count is_term_count) _ i g in
    go start count j (ltb most_terms (before.terms + count.code)) refl l
  where
    go : (start count : Found) (j : ℕ) (many : Bool) → ltb most_terms (before.terms + count.code) ≡ many →
        Ok (parsed x m) ≡ parse s (reject TooManyTerms (before.terms + count.code) if many >> (terms_of count.code >>= λ terms. ends (record { start = start; count = count; terms = terms }))) j →
        Limits before x
    go start count j true t l = no_value_lem (sym l)
    go start count j false t l =
        let (terms, i, f, g) = parse-split s (terms_of count.code) _ j l in
        let y = good-same g in
        let n : x.count.code ≡ count.code = ap (λ z. z.found.count.code) y in
        record {
          counted = ap (λ z. length z.found.terms) y ∙ repeated-length s term_of behind_term count.code None j f ∙ sym n;
          few = omega (arith, n, ltb-false most_terms (before.terms + count.code) t);
        }

pub total-few : (s : Stream) (before : Passed) (at : ℕ) {v : (Outcome (Option ℕ × ℕ × Cursor))} {start : Option ℕ} {total : ℕ} {end : Cursor} →
    segment_step_said v ≡ keeping (behind_segment before) (parse s (segment_of before) at) → v ≡ Ok (start, total, end) → total ≤ most_terms
total-few s before at {v} {start} {total} {end} e h =
    let (x, q, p) = kept (behind_segment before) (parse s (segment_of before) at) (said_of segment_step_said h e) in
    omega (arith, ap (λ (b : Passed). b.terms) q, (segment-limits s before at p).few)

-- The terms so far are those of the segments so far.
segments-total : (s : Stream) (n : ℕ) (before : Passed) (at : ℕ) {xs : List FoundSegment} {m : ℕ} → Ok (parsed xs m) ≡ parse s (repeated segment_of behind_segment n before) at →
    (passed_by behind_segment before xs).terms ≡ before.terms + length (all_terms xs)
unfolding repeated
segments-total s zero before at e = ap (λ y. (passed_by behind_segment before y.found).terms) (good-same e) ∙ omega arith ∙ sym (ap (λ y. before.terms + length (all_terms y.found)) (good-same e))
segments-total s (suc n) before at e =
    let (x, i, f, g) = parse-split s (segment_of before) _ at e in
    let (rest, j, k, l) = parse-split s (repeated segment_of behind_segment n (behind_segment before x)) (λ rest. ends (x ∷ rest)) i g in
    let y = good-same l in
    let total = segments-total s n (behind_segment before x) i k in
    let all : (passed_by behind_segment (behind_segment before x) rest).terms ≡ before.terms + length (x.terms ++ all_terms rest) =
    omega (arith, total, (segment-limits s before at f).counted, length-append x.terms (all_terms rest)) in
    ap (λ z. (passed_by behind_segment before z.found).terms) y ∙ all ∙ sym (ap (λ z. before.terms + length (all_terms z.found)) y)

module _ (s : Stream) (at : ℕ) (x : (Outcome (ℕ × Cursor))) (e : code_said at x ≡ keeping coded (parse s (field_of curve_domain) at)) where
  pub domain-halts : {r : Refusal} → x ≡ Err r → Err r ≡ keeping counts_of (parse s curve_of at)
  unfolding curve_of
  domain-halts h = sym (ap (keeping counts_of) (keep-refused coded s (field_of curve_domain) counted at (said_of (code_said at) h e)))

  module _ {code : ℕ} {second : Cursor} (h : x ≡ Ok (code, second)) (y : (Outcome (ℕ × Cursor)))
      (f : code_said second.at y ≡ keeping coded (parse s (ruled_of segment_count is_segment_count) second.at)) where
    at_count : parse s curve_of at ≡ parse s (ruled_of segment_count is_segment_count >>= drawn) second.at
    unfolding curve_of
    at_count = let (d, q, p) = keep-next coded s (field_of curve_domain) counted at (said_of (code_said at) h e) in p

    pub count-halts : {r : Refusal} → y ≡ Err r → Err r ≡ keeping counts_of (parse s curve_of at)
    count-halts g = sym (ap (keeping counts_of) (at_count ∙ keep-refused coded s (ruled_of segment_count is_segment_count) drawn second.at (said_of (code_said second.at) g f)))

    module _ {n : ℕ} {third : Cursor} (g : y ≡ Ok (n, third)) (v : (Outcome (Option ℕ × ℕ × Cursor)))
        (k : segment_step_said v ≡ keeping (passed_by behind_segment nothing_passed) (parse s (segments_of n) third.at)) where
      at-segments : parse s curve_of at ≡ parse s (segments_of n >>= λ segments. ends (curve segments)) third.at
      at-segments =
          let (c, q, p) = keep-next coded s (ruled_of segment_count is_segment_count) drawn second.at (said_of (code_said second.at) g f) in
          at_count ∙ p ∙ ap (λ (u : Coded). parse s (segments_of u.code >>= λ segments. ends (curve segments)) third.at) q

      pub segments-halt : {r : Refusal} → v ≡ Err r → Err r ≡ keeping counts_of (parse s curve_of at)
      segments-halt j =
          sym (ap (keeping counts_of) (at-segments ∙ keep-refused (passed_by behind_segment nothing_passed) s (segments_of n) (λ segments. ends (curve segments)) third.at (said_of segment_step_said j k)))

      pub curve-stands : {last : Option ℕ} {terms : ℕ} {end : Cursor} → v ≡ Ok (last, terms, end) →
          behind (record { domain = None; points = 0; segments = n; terms = terms }) end ≡ keeping counts_of (parse s curve_of at)
      unfolding segments_of
      curve-stands {last} {terms} {end} j =
          let (xs, q, p) = kept (passed_by behind_segment nothing_passed) (parse s (segments_of n) third.at) (said_of segment_step_said j k) in
          let Some : length xs ≡ n = repeated-length s segment_of behind_segment n nothing_passed third.at p in
          let all : length (all_terms xs) ≡ terms = omega (arith, segments-total s n nothing_passed third.at p, ap (λ (b : Passed). b.terms) q) in
          ap₂ (λ (a b : ℕ). behind (record { domain = None; points = 0; segments = a; terms = b }) end) (sym Some) (sym all)
          ∙ sym (ap (keeping counts_of) at-segments ∙ keep-made counts_of curve s (segments_of n) third.at ∙ ap (keeping (λ xs. counts_of (curve xs))) (sym p))
