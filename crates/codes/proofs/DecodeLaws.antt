-- Laws of judgements and of what follows them.
use Rattle.codes.proofs.Names.{◌≡◌, refl, sym, ap, ◌∙◌, Bool, true, false, not, ◌&&◌, cond, ℕ, not-false, eqb, binary32, of_bits, Outcome, Ok, Err, ◌>>◌, refuse◌if◌, OutsideTable, NotFinite, Refusal, passed}
use Rattle.codes.proofs.Names.{Single, Missing, Ieee, Outcome, Ok, Err, Row, all_ones, finite, meaning, decode, judge, ruled, single_ruled}

-- Without its value, an outcome is the tests before it.
pub left_out : {A : Type 0} (o : Outcome (Unit {0})) (a : A) → ((o >> Ok a) >> Ok tt) ≡ o
left_out (Ok u) a = refl
left_out (Err r) a = refl

left-out-2 : {A : Type 0} (p q : Outcome (Unit {0})) (a : A) → ((p >> (q >> Ok a)) >> Ok tt) ≡ (p >> q)
left-out-2 (Ok u) q a = left_out q a
left-out-2 (Err r) q a = refl

-- A row can hold a code that its rule accepts, missing or not.
pub stands-by-rule : (row : Row) (at code : ℕ) → Ok (tt {0}) ≡ ruled row at code → Ok (tt {0}) ≡ judge row at code
unfolding decode
stands-by-rule row at code h = go (row.missing && eqb code (all_ones row.width))
  where
    go : (b : Bool) → Ok (tt {0}) ≡ (cond b (Ok Missing) (meaning row.rule row.width at code) >> Ok tt)
    go true = refl
    go false = h

-- A judgement followed by an outcome: the judgement's refusal, or the outcome.
module _ {A : Type 0} {j : Outcome (Unit {0})} {o : Outcome (Unit {0})} (x : Outcome A) (e : j ≡ o) where
  pub turned : {r : Refusal} → j ≡ Err r → Err r ≡ (o >> x)
  turned k = rw (← e, k)

  pub stood : j ≡ (Ok tt) → x ≡ (o >> x)
  stood k = rw (← e, k)

-- A test that does not refuse is false; so is each test of a code that a row can hold.
pub tested : (r : Refusal) (t : Bool) → (refuse r if t) ≡ Ok (tt {0}) → t ≡ false
tested r t e = (passed r t (Ok (tt {0})) tt (ap (λ (o : Outcome (Unit {0})). o >> Ok (tt {0})) e)).0

pub untouched : (r : Refusal) (t : Bool) {j : Outcome (Unit {0})} → j ≡ (refuse r if t) → j ≡ (Ok tt) → t ≡ false
untouched r t e k = tested r t (sym e ∙ k)

-- The bits of a Single that pass the rule are finite.
pub single-stands : (at code : ℕ) {j : Outcome (Unit {0})} → j ≡ single_ruled at code → j ≡ (Ok tt) → finite (of_bits binary32 code) ≡ true
single-stands at code e k =
    let x = of_bits binary32 code in
    let (t, q) = passed (OutsideTable at) (eqb code (all_ones 32)) (refuse NotFinite at if not (finite x)) tt (sym e ∙ k) in
    not-false (finite x) (tested (NotFinite at) (not (finite x)) q)

-- The rule of a Single in a row, and the value of its bits.
pub single-by-rule : (row : Row) (at code : ℕ) → row.rule ≡ Ieee → row.width ≡ 32 → single_ruled at code ≡ ruled row at code
single-by-rule row at code r w =
    let x = of_bits binary32 code in
    rw (r, w) (sym (left-out-2 (refuse OutsideTable at if eqb code (all_ones 32)) (refuse NotFinite at if not (finite x)) (Single x)))

in-turn : {A : Type 0} (p q : Outcome (Unit {0})) (x : Outcome A) → ((p >> q) >> x) ≡ (p >> (q >> x))
in-turn (Ok u) q x = refl
in-turn (Err r) q x = refl

pub single-means : (at code : ℕ) → (single_ruled at code >> Ok (Single (of_bits binary32 code))) ≡ meaning Ieee 32 at code
single-means at code = in-turn (refuse OutsideTable at if eqb code (all_ones 32)) (refuse NotFinite at if not (finite (of_bits binary32 code))) _
