-- Laws of the fast path of `encode_by`: the place matters only in refusals.
use Rattle.codes.proofs.Names.{◌≡◌, sym, ◌∙◌, Bool, not, ℕ, ◌^◌, ◌<◌, Float, binary32, to_bits, ℤ, pos, nat_abs, Ok, ◌>>◌, refuse◌if◌, WrongSort, OutOfRange, no_value_lem, passed, Value, Whole, Single, Missing}
use Rattle.codes.proofs.Names.{Rule, Plain, Stepped, Geometric, Ieee, Row, Outcome, Ok, all_ones, top_code, stepped_value, stepped_code, progression, geometric_value, finite, outside, stored_at, whole_code, single_code}
use Rattle.codes.proofs.Names.{encode, Sound, Real, DirectCode}
use Rattle.codes.proofs.StoredLaws.{reads-back}

module _ (p q : ℕ) where
  -- A figure in its range is accepted at any place.
  ranged : (t : Bool) (n : ℕ) {code : ℕ} → (refuse OutOfRange p if t >> Ok n) ≡ Ok code → (refuse OutOfRange q if t >> Ok n) ≡ Ok code
  ranged t n {code} e = let h = passed (OutOfRange p) t (Ok n) code e in rw h.0 h.1

  whole-anywhere : (rule : Rule) (w : ℕ) (z : ℤ) {code : ℕ} → whole_code rule w p z ≡ Ok code → whole_code rule w q z ≡ Ok code
  whole-anywhere (Plain least greatest) w z e = ranged (outside (pos least) (pos greatest) z) (nat_abs z) e
  whole-anywhere (Stepped start step) w z e = ranged (outside start (stepped_value start step (top_code w)) z) (stepped_code start step z) e
  whole-anywhere (Geometric scale) w z e =
      let value = geometric_value (progression scale) in
      ranged (outside (pos (value 0)) (pos (value (top_code w))) z) (stored_at value (top_code w) (nat_abs z)) e
  whole-anywhere Ieee w z e = no_value_lem e

  single-anywhere : (rule : Rule) (x : Float) {code : ℕ} → single_code rule p x ≡ Ok code → single_code rule q x ≡ Ok code
  single-anywhere (Plain least greatest) x e = no_value_lem e
  single-anywhere (Stepped start step) x e = no_value_lem e
  single-anywhere (Geometric scale) x e = no_value_lem e
  single-anywhere Ieee x e = ranged (not (finite x)) (to_bits binary32 x) e

  code-anywhere : (row : Row) (v : Value) {code : ℕ} → encode row p v ≡ Ok code → encode row q v ≡ Ok code
  unfolding encode
  code-anywhere row (Whole z) e = whole-anywhere row.rule row.width z e
  code-anywhere row (Single x) e = single-anywhere row.rule x e
  code-anywhere row Missing {code} e = let h = passed (WrongSort p) (not row.missing) (Ok (all_ones row.width)) code e in rw h.0 h.1

-- If the answer at one place is a code, it is the code at every place.
pub tells : (row : Row) (place : ℕ) (v : Value) (e : Outcome ℕ) (code : ℕ) → Sound row → Real v → e ≡ encode row place v → (code < 2 ^ 32 → e ≡ Ok code) → DirectCode row v code
tells row place v e code s real said h = λ few.
    let coded : encode row place v ≡ Ok code = sym said ∙ (h few) in
    (λ q. code-anywhere place q row v coded, (reads-back row place 0 code v s real coded).0)
