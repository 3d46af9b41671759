-- Laws of Singles: which bit patterns are finite.
use Rattle.codes.proofs.Names.{◌≡◌, refl, sym, ◌∙◌, subst, Bool, true, false, not, cond, ℕ, zero, suc, ◌+◌, ◌/◌, ◌%◌, ◌^◌, ◌≤◌, ◌<◌, arith, eq-eqb, ne_eqb, count_trailing_zeros, T, eqb, leb, le→leb, lt→ltb, ℤ, pos}
use Rattle.codes.proofs.Names.{negsuc, nat_abs, Float, nan, inf, fin, ne, odd, of_fields, of_bits, to_bits, is_nan, fits, in_float, nan_bits, binary32, binary64, of_int, round, units, size, climb, span, div}
use Rattle.codes.proofs.Names.{differs_from_itself, nan_differs, of_bits-to_bits, nan_bits_is, billion, finite}

-- A finite number is no NaN.
pub no_nan : (x : Float) → finite x ≡ true → T (not (is_nan x))
unfolding is_nan
no_nan nan h = subst (λ (t : Bool). T t) (sym h) tt
no_nan (inf s) h = tt
no_nan (fin s m e) h = tt

-- Finite or not, by the exponent field.
odd-finite : (d : ℕ) (s : Bool) (q k l : ℕ) → finite (odd d s q k l) ≡ true
unfolding odd
odd-finite d s zero k l = refl
odd-finite d s (suc q) k l = refl

field-finite : (a b s : Bool) (x : Float) → finite x ≡ true → finite (cond a (cond b (inf s) nan) x) ≡ not a
field-finite true true s x h = refl
field-finite true false s x h = refl
field-finite false b s x h = h

fields-finite : (s : Bool) (x t : ℕ) → finite (of_fields binary32 s x t) ≡ not (eqb x 255)
unfolding of_fields
fields-finite s zero t = odd-finite 24 s t 0 149
fields-finite s (suc x) t = field-finite (eqb (suc x) 255) (eqb t 0) s (odd 24 s (2 ^ 23 + t) x 149) (odd-finite 24 s (2 ^ 23 + t) x 149)

-- A pattern is finite if, without the sign bit, it is below the pattern of infinity.
low_field : (n : ℕ) → n < 0x7f80_0000 → not (eqb (n / 2 ^ 23) 255) ≡ true
low_field n h = rw (ne_eqb (n / 2 ^ 23) 255 (λ e. omega arith))

high-field : (n : ℕ) → 0x7f80_0000 ≤ n → n < 2 ^ 31 → not (eqb (n / 2 ^ 23) 255) ≡ false
high-field n h k = rw (eq-eqb (n / 2 ^ 23) 255 (omega arith))

pub finite-bits : (n : ℕ) → n % 2 ^ 31 < 0x7f80_0000 → finite (of_bits binary32 n) ≡ true
unfolding of_bits
finite-bits n h = fields-finite (leb (2 ^ 31) n) (n % 2 ^ 31 / 2 ^ 23) (n % 2 ^ 23) ∙ low_field (n % 2 ^ 31) h

pub not-finite-bits : (n : ℕ) → 0x7f80_0000 ≤ n % 2 ^ 31 → finite (of_bits binary32 n) ≡ false
unfolding of_bits
not-finite-bits n h = fields-finite (leb (2 ^ 31) n) (n % 2 ^ 31 / 2 ^ 23) (n % 2 ^ 23) ∙ high-field (n % 2 ^ 31) h (omega arith)

pub pattern-no-nan : (n : ℕ) → finite (of_bits binary32 n) ≡ true → T (not (nan_bits binary32 n))
pattern-no-nan n h = rw nan_bits_is (no_nan (of_bits binary32 n) h)

-- A float differs from itself exactly if it is NaN.
pub nan_is : (x : Float) → ne x x ≡ true → finite x ≡ false
nan_is x h = rw (differs_from_itself x (subst T (sym h) tt))

pub not-nan : (x : Float) → ne x x ≡ false → T (not (is_nan x))
unfolding is_nan
not-nan nan h = subst T (sym nan_differs ∙ h) tt
not-nan (inf s) h = tt
not-nan (fin s m e) h = tt

-- An f32 is determined by its bits.
module _ (x : Float) (f : T (fits binary32 x)) where
  pub finite-single : to_bits binary32 x % 2 ^ 31 < 0x7f80_0000 → finite x ≡ true
  finite-single h = rw (of_bits-to_bits binary32 x f) at (finite-bits (to_bits binary32 x) h)

  pub not-finite-single : 0x7f80_0000 ≤ to_bits binary32 x % 2 ^ 31 → finite x ≡ false
  not-finite-single h = rw (of_bits-to_bits binary32 x f) at (not-finite-bits (to_bits binary32 x) h)

-- An f64 holds every whole number up to 2^53.
pub in-float : (z : ℤ) → nat_abs z ≤ 2 ^ 53 → T (in_float binary64 z)
unfolding in_float
in-float (pos n) h = le→leb n (2 ^ 53) h
in-float (negsuc n) h = lt→ltb n (2 ^ 53) h

-- The literal that the physical figure divides by.
pub billion-is : of_bits binary64 0x41cd_cd65_0000_0000 ≡ of_int binary64 (pos billion)
unfolding of_bits of_int of_fields round units odd size climb span count_trailing_zeros
billion-is = refl

-- 0 / 0, which the code returns for NaN.
pub no_number : div binary32 (of_bits binary32 0) (of_bits binary32 0) ≡ nan
unfolding div of_bits of_fields odd
no_number = refl
