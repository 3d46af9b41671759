-- Laws of the value that reads back after storing: the proofs of `specs/Stored.antt`.
use Rattle.codes.proofs.Names.{◌≡◌, refl, sym, ap, ◌∙◌, subst, Bool, true, false, not, ◌||◌, cond, ℕ, ◌+◌, ◌-◌, ◌^◌, ◌≤◌, ◌<◌, arith, le-ltb, eq-eqb, ne_eqb, ltb-false, eqb-true, not-false, T, eqb, ltb, ℤ, pos}
use Rattle.codes.proofs.Names.{negsuc, nat_abs, lt_z, ones_lt, Float, binary32, fits, of_bits, to_bits, of_bits-to_bits, to_bits-of_bits, to_bits-lt, le-lt_z, le_z-parts, Refusal, Ok, ◌>>◌, refuse◌if◌, OutOfRange}
use Rattle.codes.proofs.Names.{OutsideTable, NotFinite, WrongSort, good-same, passed, neither, Value, Whole, Single, Missing, Rule, Plain, Stepped, Geometric, Ieee, Row, all_ones, top_code, stepped_value}
use Rattle.codes.proofs.Names.{stepped_code, progression, geometric_value, finite, meaning, stored_at, whole_code, single_code, decode, encode, kept_by, kept, Real, Sound, Rising, ReadsBack, StoredAgain, SteppedNearest}
use Rattle.codes.proofs.Names.{SteppedRises, SteppedRange, no_value_lem}
use lib.Ieee.Bits.{is_true}
use Rattle.codes.proofs.CodeLaws.{two-codes}
use Rattle.codes.proofs.StepLaws.{code-nearest, code-rises, code-back, code-most, value-above, value-rises}
use Rattle.codes.proofs.ScaleLaws.{values-rise}
use Rattle.codes.proofs.StoringLaws.{inside, no_less, own}
use Rattle.codes.proofs.FloatLaws.{no_nan, not-finite-bits}

-- A value after a test is returned if the test does not hold.
given : {A : Type 0} (r : Refusal) (t : Bool) (a b : A) → (refuse r if t >> Ok a) ≡ Ok b → (t ≡ false) × (a ≡ b)
given r t a b e = let p = passed r t (Ok a) b e in (p.0, good-same p.1)

-- A stored figure is from the lowest to the highest value.
ranged : {code : ℕ} (place : ℕ) (a b : Bool) (c : ℕ) → (refuse OutOfRange place if a || b >> Ok c) ≡ Ok code → (a ≡ false) × (b ≡ false) × (c ≡ code)
ranged {code} place a b c e = let p = given (OutOfRange place) (a || b) c code e in let n = neither a b p.0 in (n.0, n.1, p.1)

-- ---- stepped

module _ (row : Row) (start : ℤ) (step place : ℕ) (z : ℤ) (r : row.rule ≡ Stepped start step) where
  stepped-in : (code : ℕ) → encode row place (Whole z) ≡ Ok code → (lt_z z start ≡ false) × (lt_z (stepped_value start step (top_code row.width)) z ≡ false) × (stepped_code start step z ≡ code)
  unfolding encode
  stepped-in code e = ranged place (lt_z z start) (lt_z (stepped_value start step (top_code row.width)) z) (stepped_code start step z) (rw r at e)

pub stepped-nearest : SteppedNearest
stepped-nearest row start step place code z r some e =
    let p = stepped-in row start step place z r code e in
    rw p.2 at (code-nearest start step z some p.0)

pub stepped-rises : SteppedRises
stepped-rises row start step place c d y z r some l ey ez =
    let p = stepped-in row start step place y r c ey in
    let q = stepped-in row start step place z r d ez in
    rw (p.2, q.2) at (code-rises start step y z some p.0 q.0 (le_z-parts y z l.le))

either : (a : Bool) → (a || true) ≡ true
either true = refl
either false = refl

pub stepped-range : SteppedRange
unfolding encode
stepped-range row start step place z r =
    let top = stepped_value start step (top_code row.width) in (
      λ l h. rw (r, le-lt_z z start (le_z-parts start z l.le), le-lt_z top z (le_z-parts z top h.le)),
      λ l. rw (r, is_true (lt_z z start) l.lt),
      λ l. rw (r, is_true (lt_z top z) l.lt, either (lt_z z start)),
    )

-- ---- a stored value reads back

abbrev the : ℕ → Rule → Bool → Row
the w rule m = record { width = w; rule = rule; missing = m }

-- A code that is not the missing one, and its value in the row.
abbrev Room : ℕ → Bool → ℕ → Type 0
Room w m code = code + cond m 1 0 < 2 ^ w

below_top : (w : ℕ) (m : Bool) (code : ℕ) → 1 ≤ w → code ≤ top_code w → Room w m code
below_top w true code some h = omega (arith, two-codes w some)
below_top w false code some h = omega (arith, two-codes w some)

held : (w : ℕ) (rule : Rule) (m : Bool) (at code : ℕ) (v : Value) → Room w m code × (meaning rule w at code ≡ Ok v) → (code < 2 ^ w) × (decode (the w rule m) at code ≡ Ok v)
unfolding decode
held w rule true at code v (room, e) = (omega arith, rw (ne_eqb code (all_ones w) (λ e. omega arith)) e)
held w rule false at code v (room, e) = (omega arith, e)

whole_back : (w : ℕ) (rule : Rule) (m : Bool) (place at code : ℕ) (z : ℤ) → Sound (the w rule m) → whole_code rule w place z ≡ Ok code → Room w m code × (meaning rule w at code ≡ Ok (kept_by rule w (Whole z)))
whole_back w (Plain least greatest) m place at code (pos n) s e =
    let (low, high, same) = ranged place (ltb n least) (ltb greatest n) n e in
    (omega (arith, ltb-false greatest n high, s.rules.1), rw (← same, low, high))
whole_back w (Plain least greatest) m place at code (negsuc n) s e = no_value_lem e
whole_back w (Stepped start step) m place at code z s e =
    let top = stepped_value start step (top_code w) in
    let (low, high, same) = ranged place (lt_z z start) (lt_z top z) (stepped_code start step z) e in
    let most : code ≤ top_code w = rw same at (code-most start step (top_code w) z s.rules.0 low high) in
    (below_top w m code s.some most, rw (same, le-ltb (top_code w) code most))
whole_back w (Geometric scale) m place at code z s e =
    let value = geometric_value (progression scale) in
    let (low, high, same) = ranged place (lt_z z (pos (value 0))) (lt_z (pos (value (top_code w))) z) (stored_at value (top_code w) (nat_abs z)) e in
    let most : code ≤ top_code w = rw same at (inside value (top_code w) (nat_abs z)) in
    (below_top w m code s.some most, rw (same, le-ltb (top_code w) code most))
whole_back w Ieee m place at code z s e = no_value_lem e

single-back : (w : ℕ) (m : Bool) (place at code : ℕ) (x : Float) → w ≡ 32 → T (fits binary32 x) → single_code Ieee place x ≡ Ok code → Room w m code × (meaning Ieee w at code ≡ Ok (Single x))
single-back w m place at code x h f e =
    (below_top w m code (omega arith) (rw h (omega (arith, rw p.1 at (to_bits-lt binary32 x f), not-ones))), rw (h, ne_eqb code (2 ^ 32 - 1) not-ones, bits, number))
  where
    p : (not (finite x) ≡ false) × (to_bits binary32 x ≡ code)
    p = given (OutOfRange place) (not (finite x)) (to_bits binary32 x) code e

    number : finite x ≡ true
    number = not-false (finite x) p.0

    bits : of_bits binary32 code ≡ x
    bits = rw p.1 at (of_bits-to_bits binary32 x f)

    not-ones : code ≡ 2 ^ 32 - 1 → ⊥
    not-ones q =
        let b : true ≡ false = sym (ap finite bits ∙ number) ∙ (ap (λ (n : ℕ). finite (of_bits binary32 n)) q ∙ not-finite-bits (2 ^ 32 - 1) (omega arith)) in
        subst T b tt

missing-back : (w : ℕ) (rule : Rule) (m : Bool) (place at code : ℕ) → (refuse WrongSort place if not m >> Ok (all_ones w)) ≡ Ok code → (code < 2 ^ w) × (decode (the w rule m) at code ≡ Ok Missing)
unfolding decode
missing-back w rule true place at code e =
    let q = good-same e in
    (rw q at (ones_lt w), rw (eq-eqb code (all_ones w) (sym q)))
missing-back w rule false place at code e = no_value_lem e

back : (w : ℕ) (rule : Rule) (m : Bool) (place at code : ℕ) (v : Value) → Sound (the w rule m) → Real v → encode (the w rule m) place v ≡ Ok code → (code < 2 ^ w) × (decode (the w rule m) at code ≡ Ok (kept_by rule w v))
unfolding encode
back w rule m place at code Missing s real e = missing-back w rule m place at code e
back w rule m place at code (Whole z) s real e = held w rule m at code _ (whole_back w rule m place at code z s e)
back w (Plain least greatest) m place at code (Single x) s real e = no_value_lem e
back w (Stepped start step) m place at code (Single x) s real e = no_value_lem e
back w (Geometric scale) m place at code (Single x) s real e = no_value_lem e
back w Ieee m place at code (Single x) s real e = held w Ieee m at code (Single x) (single-back w m place at code x s.rules real e)

pub reads-back : ReadsBack
unfolding kept
reads-back row place at code v s real e = back row.width row.rule row.missing place at code v s real e

-- ---- a value that was read is stored at its code

again : (w : ℕ) (rule : Rule) (m : Bool) (place at code : ℕ) (v : Value) → Sound (the w rule m) → code < 2 ^ w → meaning rule w at code ≡ Ok v → encode (the w rule m) place v ≡ Ok code
unfolding encode
again w (Plain least greatest) m place at code v s h e =
    let (test, same) = given (OutsideTable at) (ltb code least || ltb greatest code) (Whole (pos code)) v e in
    rw (← same, test)
again w (Stepped start step) m place at code v s h e =
    let (test, same) = given (OutsideTable at) (ltb (top_code w) code) (Whole (stepped_value start step code)) v e in
    rw (← same, value-above start step code, value-rises start step code (top_code w) (ltb-false (top_code w) code test), code-back start step code s.rules.0)
again w (Geometric scale) m place at code v s h e =
    let value = geometric_value (progression scale) in
    let (test, same) = given (OutsideTable at) (ltb (top_code w) code) (Whole (pos (value code))) v e in
    let rising : Rising value (top_code w) = rw s.rules (values-rise scale) in
    let most = ltb-false (top_code w) code test in
    let low = le-ltb (value code) (value 0) (no_less value (top_code w) 0 code rising (omega arith) most) in
    let high = le-ltb (value (top_code w)) (value code) (no_less value (top_code w) code (top_code w) rising most (omega arith)) in
    rw (← same, low, high, own value (top_code w) code rising most)
again w Ieee m place at code v s h e =
    let x = of_bits binary32 code in
    let (test, same) = given (NotFinite at) (not (finite x)) (Single x) v (passed (OutsideTable at) (eqb code (all_ones w)) _ v e).1 in
    rw (← same, test, to_bits-of_bits binary32 code (rw s.rules at h) (no_nan x (not-false (finite x) test)))

-- All ones means missing, or the code means what the rule says.
stored : (w : ℕ) (rule : Rule) (m : Bool) (place at code : ℕ) (v : Value) → Sound (the w rule m) → code < 2 ^ w → decode (the w rule m) at code ≡ Ok v → encode (the w rule m) place v ≡ Ok code
unfolding decode encode
stored w rule false place at code v s h e = again w rule false place at code v s h e
stored w rule true place at code v s h e = go (eqb code (all_ones w)) refl e
  where
    go : (t : Bool) → eqb code (all_ones w) ≡ t → cond t (Ok Missing) (meaning rule w at code) ≡ Ok v → encode (the w rule true) place v ≡ Ok code
    go true k e = rw (← (good-same e), eqb-true code (all_ones w) k)
    go false k e = again w rule true place at code v s h e

pub stored-again : StoredAgain
stored-again row place at code v s h e = stored row.width row.rule row.missing place at code v s h e
