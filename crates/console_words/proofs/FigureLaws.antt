-- Laws of decimal numbers, digit by digit.
use Rattle.console_words.proofs.Names.{◌≡◌, refl, sym, ap, ◌∙◌, Bool, true, false, true≢false, false≢true, ◌&&◌, List, [], ◌∷◌, Option, None, Some, same_Some, none-some}
use Rattle.console_words.proofs.Names.{ℕ, zero, suc, ◌+◌, ◌-◌, ◌*◌, ◌^◌, ◌≤◌, ◌<◌, sub-zero, add-one, arith, le-leb, lt-leb, lt-ltb, le-ltb, ltb-true, ltb-false, ltb, ℤ, pos, neg_ℤ, sub_ℕ, length}
use Rattle.console_words.proofs.Names.{get_or, drop, drop_of_length-le, drop-cons, says◌if◌, is_digit, longer, all_digits, spelling, number, above, below}

-- ---- tests

pub and-false : (t : Bool) → (t && false) ≡ false
and-false true = refl
and-false false = refl

pub says_is : {A : Type 0} (a : A) (t : Bool) (x : A) → Some x ≡ (says a if t) → (t ≡ true) × (x ≡ a)
says_is a true x e = (refl, same_Some x a e)
says_is a false x e = absurd (none-some x (sym e))

pub says-not : {A : Type 0} (a : A) (t : Bool) → None ≡ (says a if t) → t ≡ false
says-not a true e = absurd (none-some a e)
says-not a false e = refl

both : (s t : Bool) → (s && t) ≡ true → (s ≡ true) × (t ≡ true)
both true t e = (refl, e)
both false t e = absurd (false≢true e)

-- ---- a word's digits

-- The number that the digits left spell, after others that spell n.
abbrev pub read_on : ℕ → List ℕ → Option ℕ
read_on n word = says spelling n word if all_digits word && ltb (spelling n word) (2 ^ 64)

spelling-grows : (n : ℕ) (word : List ℕ) → n ≤ spelling n word
spelling-grows n [] = omega arith
spelling-grows n (b ∷ word) = omega (arith, spelling-grows (10 * n + (b - 48)) word)

pub number-starts : (word : List ℕ) → (length word ≡ 0 → ⊥) → read_on 0 word ≡ number word
number-starts [] h = absurd (h refl)
number-starts (b ∷ word) h = refl

pub number-none : (word : List ℕ) → length word ≡ 0 → None ≡ number word
number-none [] h = refl
number-none (b ∷ word) h = absurd (omega arith)

-- A digit is read; or a character is no digit, or the number does not fit.
taken : (n b m : ℕ) (word : List ℕ) → Some m ≡ longer n b → (m < 2 ^ 64) × (read_on m word ≡ read_on n (b ∷ word))
taken n b m word e =
    let v = 10 * n + (b - 48) in
    let h = says_is v (is_digit b && ltb v (2 ^ 64)) m e in
    let k = both (is_digit b) (ltb v (2 ^ 64)) h.0 in
    (omega (arith, h.1, ltb-true v (2 ^ 64) k.1), rw (h.1, k.0))

not_taken : (n b : ℕ) (word : List ℕ) → None ≡ longer n b → None ≡ read_on n (b ∷ word)
not_taken n b word e = by (is_digit b) (ltb (10 * n + (b - 48)) (2 ^ 64)) refl refl (says-not (10 * n + (b - 48)) (is_digit b && ltb (10 * n + (b - 48)) (2 ^ 64)) e)
  where
    by : (s t : Bool) → is_digit b ≡ s → ltb (10 * n + (b - 48)) (2 ^ 64) ≡ t → (s && t) ≡ false → None ≡ read_on n (b ∷ word)
    by true true p q f = absurd (true≢false f)
    by true false p q f = rw (le-ltb (spelling (10 * n + (b - 48)) word) (2 ^ 64) (omega (arith, spelling-grows (10 * n + (b - 48)) word, ltb-false (10 * n + (b - 48)) (2 ^ 64) q)), and-false)
    by false t p q f = rw p

pub number-on : (word : List ℕ) (n at m : ℕ) (r : (Option ℕ)) → at < length word → r ≡ longer n (get_or word at 0) → r ≡ Some m → (m < 2 ^ 64) × (read_on m (drop (at + 1) word) ≡ read_on n (drop at word))
number-on word n at m r h e k = rw (add-one, drop-cons word at 0 h) (taken n (get_or word at 0) m (drop (suc at) word) (sym (k) ∙ e))

pub number-stop : (word : List ℕ) (n at : ℕ) (r : (Option ℕ)) → at < length word → r ≡ longer n (get_or word at 0) → r ≡ None → None ≡ read_on n (drop at word)
number-stop word n at r h e k = rw (drop-cons word at 0 h) (not_taken n (get_or word at 0) (drop (suc at) word) (sym (k) ∙ e))

pub number-end : (word : List ℕ) (n at : ℕ) → length word ≤ at → n < 2 ^ 64 → Some n ≡ read_on n (drop at word)
number-end word n at h l = rw (drop_of_length-le word h, lt-ltb n (2 ^ 64) l)

-- ---- a figure

-- The figure fits an i64, or not.
pub above-is : (n : ℕ) (z : ℤ) → n < 2 ^ 63 → z ≡ sub_ℕ n 0 → Some z ≡ above (Some n)
above-is n z h e = rw (lt-ltb n (2 ^ 63) h) (ap {B = Option ℤ} Some (e ∙ rw (le-ltb n 0 (omega arith), sub-zero)))

pub above-not : (n : ℕ) → 2 ^ 63 ≤ n → None ≡ above (Some n)
above-not n h = rw (le-ltb n (2 ^ 63) h)

minus_is : (n : ℕ) → sub_ℕ 0 n ≡ neg_ℤ (pos n)
minus_is zero = refl
minus_is (suc n) =
    let e : suc n - 1 ≡ n = omega arith in
    rw (lt-ltb 0 (suc n) (omega arith), e)

pub below-is : (n : ℕ) (z : ℤ) → n ≤ 2 ^ 63 → z ≡ sub_ℕ 0 n → Some z ≡ below (Some n)
below-is n z h e = rw (le-leb n (2 ^ 63) h) (ap {B = Option ℤ} Some (e ∙ minus_is n))

pub below-not : (n : ℕ) → 2 ^ 63 < n → None ≡ below (Some n)
below-not n h = rw (lt-leb n (2 ^ 63) h)
