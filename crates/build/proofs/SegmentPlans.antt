-- Laws of a segment's own fields and a term's: their tests, and their codes.
use Rattle.build.proofs.Names.{◌≡◌, sym, ap, subst, true, false, not, List, [], ◌∷◌, Option, ℕ, ◌+◌, ◌≤◌, arith, ltb-false, not-false, ltb, ℤ, pos, ◌*ℤ◌, w64, SFits, to_z, of_z, to_z-of_z, Refusal, Outcome, Ok}
use Rattle.build.proofs.Names.{Err, WrongCurve, TooManyTerms, good-bind, good-then, good-same, passed, bind-refused, Value, Whole, Single, Row, Segment, Term, encode, segment_start, term_count, exponent}
use Rattle.build.proofs.Names.{coefficient, is_term_count, most_terms, start_follows, exponent_follows, exponent_code, Sound, Real, start-sound, exponent-sound, coefficient-sound, reads-back, CodedField}
use Rattle.build.proofs.Names.{count_tested, start_code, Fitting, coded, PairCoded, segment_fields, term_fields, not-refused, terms-most}

-- ---- two pieces

pub two_down : {two : Outcome (List CodedField)} {r : Refusal} → two ≡ Err r → PairCoded two (Err r)
two_down e = record { said = sym e; fits = λ first second h. absurd (let z : ◌≡◌ {A = ℕ} 0 1 = cc in omega arith) }

pub two_good : {two : Outcome (List CodedField)} {a b : CodedField} → two ≡ Ok (a ∷ b ∷ []) → Fitting a.width a.code → Fitting b.width b.code → PairCoded two (Ok (a, b))
two_good {a = a} {b = b} e f g = record { said = sym e; fits = λ first second h. let p : a ≡ first = ap (λ (x : CodedField × CodedField). x.0) (good-same h) in let q : b ≡ second = ap (λ (x : CodedField × CodedField). x.1) (good-same h) in (rw p at f, rw q at g) }

fitting : (row : Row) (i : ℕ) (value : Value) (code : ℕ) → Sound row → Real value → encode row i value ≡ Ok code → Fitting row.width code
fitting row i value code s real e = record { some = s.some; most = omega (arith, s.most); fits = (reads-back row i 0 code value s real e).0 }

-- ---- a term count

module _ (i total n : ℕ) where
  pub count-wrong : is_term_count n ≡ false → count_tested i total n ≡ Err (WrongCurve i)
  unfolding count_tested
  count-wrong e = rw e

  pub count-many : is_term_count n ≡ true → ltb most_terms (total + n) ≡ true → count_tested i total n ≡ Err (TooManyTerms (total + n))
  unfolding count_tested
  count-many e f = rw (e, f)

  pub count-right : is_term_count n ≡ true → ltb most_terms (total + n) ≡ false → count_tested i total n ≡ Ok tt
  unfolding count_tested
  count-right e f = rw (e, f)

-- ---- a start

module _ (before : Option ℕ) (i total : ℕ) (s : Segment) where
  pub start-refused : {r : Refusal} → encode segment_start i (Whole s.start) ≡ Err r → start_code before i total s ≡ Err r
  unfolding start_code
  start-refused e = bind-refused _ e

  module _ {start : ℕ} (e : encode segment_start i (Whole s.start) ≡ Ok start) where
    pub start-wrong : start_follows before start ≡ false → start_code before i total s ≡ Err (WrongCurve i)
    unfolding start_code
    start-wrong f = rw (e, f)

    pub start-down : {r : Refusal} → start_follows before start ≡ true → count_tested i total s.terms ≡ Err r → start_code before i total s ≡ Err r
    unfolding start_code
    start-down f g = rw (e, f, g)

    pub start-good : start_follows before start ≡ true → count_tested i total s.terms ≡ Ok tt → start_code before i total s ≡ Ok start
    unfolding start_code
    start-good f g = rw (e, f, g)

  -- What an accepted start has passed.
  pub record StartPlanned (start : ℕ) : Type 0 where
    pub coded : encode segment_start i (Whole s.start) ≡ Ok start
    pub follows : start_follows before start ≡ true
    pub own : is_term_count s.terms ≡ true
    pub few : total + s.terms ≤ 30

  pub start-planned : (start : ℕ) → start_code before i total s ≡ Ok start → StartPlanned start
  unfolding start_code count_tested
  start-planned start e =
      let (code, e1, f1) = good-bind (encode segment_start i (Whole s.start)) _ start e in
      let (f, f2) = passed (WrongCurve i) (not (start_follows before code)) _ start f1 in
      let (t, f3) = good-then (count_tested i total s.terms) _ start f2 in
      let (n, f4) = passed (WrongCurve i) (not (is_term_count s.terms)) _ tt t in
      let m = not-refused (TooManyTerms (total + s.terms)) (ltb most_terms (total + s.terms)) f4 in
      subst StartPlanned (good-same f3) (record {
        coded = e1;
        follows = not-false (start_follows before code) f;
        own = not-false (is_term_count s.terms) n;
        few = ltb-false 30 (total + s.terms) m;
      })

  pub segment-refused : {r : Refusal} → start_code before i total s ≡ Err r → segment_fields before i total s ≡ Err r
  unfolding segment_fields
  segment-refused e = bind-refused _ e

  pub segment-few : {two : List CodedField} → segment_fields before i total s ≡ Ok two → total + s.terms ≤ 30
  unfolding segment_fields
  segment-few {two} e = let (start, own, same) = good-bind (start_code before i total s) _ two e in (start-planned start own).few

  pub segment-coded : {start : ℕ} → start_code before i total s ≡ Ok start → PairCoded (segment_fields before i total s) (Ok ((coded segment_start start), (coded term_count s.terms)))
  unfolding segment_fields
  segment-coded {start} e =
      let p = start-planned start e in
      two_good (rw e) (fitting segment_start i (Whole s.start) start start-sound tt p.coded) (record { some = omega arith; most = omega arith; fits = omega (arith, terms-most s.terms p.own) })

-- ---- a term

-- An exponent that is passed to a callee.
pub exponent-of-word : (before : Option ℤ) (i : ℕ) {e : ℤ} → SFits w64 e → exponent_code before i (pos 10 *ℤ to_z w64 (of_z w64 e)) ≡ exponent_code before i (pos 10 *ℤ e)
exponent-of-word before i f = ap (λ (z : ℤ). exponent_code before i (pos 10 *ℤ z)) (to_z-of_z f)

module _ (before : Option ℤ) (i : ℕ) (t : Term) where
  pub exponent-refused : {r : Refusal} → exponent_code before i (pos 10 *ℤ t.exponent) ≡ Err r → term_fields before i t ≡ Err r
  unfolding term_fields
  exponent-refused e = bind-refused _ e

  module _ {power : ℕ} (e : exponent_code before i (pos 10 *ℤ t.exponent) ≡ Ok power) where
    pub coefficient-refused : {r : Refusal} → encode coefficient i (Single t.coefficient) ≡ Err r → term_fields before i t ≡ Err r
    unfolding term_fields
    coefficient-refused f = rw (e, f)

    pub term-coded : {factor : ℕ} → Real (Single t.coefficient) → encode coefficient i (Single t.coefficient) ≡ Ok factor →
        PairCoded (term_fields before i t) (Ok ((coded exponent power), (coded coefficient factor)))
    unfolding term_fields
    term-coded {factor} real f =
        let (w, own) = passed (WrongCurve i) (not (exponent_follows before (pos 10 *ℤ t.exponent))) (encode exponent i (Whole (pos 10 *ℤ t.exponent))) power e in
        two_good (rw (e, f)) (fitting exponent i (Whole (pos 10 *ℤ t.exponent)) power exponent-sound tt own) (fitting coefficient i (Single t.coefficient) factor coefficient-sound real f)
