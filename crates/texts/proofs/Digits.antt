-- Laws of a date's digits: they read back.
use Rattle.texts.proofs.Names.{◌≡◌, refl, sym, ap, ◌∙◌, List, ℕ, ◌+◌, ◌-◌, ◌*◌, ◌/◌, ◌%◌, ◌<◌, ◌≤◌, div-div-eq-div-mul, arith, length, get_or, date_of, date_text}
use Rattle.texts.proofs.Calendar.{count, counted}
use Rattle.texts.proofs.Finding.{ranged}

place-values : (n a b c u v w x : ℕ) → n ≡ 10 * a + x → a ≡ 10 * b + w → b ≡ 10 * c + v → c ≡ u
    → 100 * (10 * (48 + u - 48) + (48 + v - 48)) + (10 * (48 + w - 48) + (48 + x - 48)) ≡ n
place-values n a b c u v w x p q r s = omega arith

four-digits : (n : ℕ) → n < 10_000 → 100 * (10 * (48 + n / 1_000 % 10 - 48) + (48 + n / 100 % 10 - 48)) + (10 * (48 + n / 10 % 10 - 48) + (48 + n / 1 % 10 - 48)) ≡ n
four-digits n h =
    place-values n (n / 10) (n / 100) (n / 1_000) (n / 1_000 % 10) (n / 100 % 10) (n / 10 % 10) (n / 1 % 10)
    (omega arith) (omega (arith, div-div-eq-div-mul n 10 10)) (omega (arith, div-div-eq-div-mul n 100 10)) (omega arith)

two_digits : (n : ℕ) → n < 100 → 10 * (48 + n / 10 % 10 - 48) + (48 + n / 1 % 10 - 48) ≡ n
two_digits n h = omega arith

-- The number that two characters spell.
abbrev pub number : List ℕ → ℕ → ℕ
number text at = 10 * (get_or text at 0 - 48) + (get_or text (at + 1) 0 - 48)

-- The text of a code reads as its date.
pub read : (text : List ℕ) (code y z m d : ℕ) → y ≡ number text 0 → z ≡ number text 2 → m ≡ number text 5 → d ≡ number text 8
    → code ≤ 65_535 → date_text code ≡ text → date_of code ≡ record { year = 100 * y + z; month = m; day = d }
unfolding date_text
read text code y z m d ey ez em ed le e =
    let q = ranged code (date_of code).year (date_of code).month (date_of code).day le refl in
    let same : (at : ℕ) → number text at ≡ number (date_text code) at = λ at. ap (λ (l : List ℕ). number l at) (sym e) in
    let p : 100 * y + z ≡ (date_of code).year = rw (ey ∙ same 0, ez ∙ same 2) (four-digits (date_of code).year (omega arith)) in
    let r : m ≡ (date_of code).month = em ∙ same 5 ∙ two_digits (date_of code).month (omega arith) in
    let s : d ≡ (date_of code).day = ed ∙ same 8 ∙ two_digits (date_of code).day (omega arith) in
    rw (p, r, s)

pub date-length : (code : ℕ) → length (date_text code) ≡ 10
unfolding date_text
date-length code = refl

pub dates-differ : (j k : ℕ) → j ≤ 65_535 → k ≤ 65_535 → date_text j ≡ date_text k → j ≡ k
dates-differ j k hj hk e =
    let p = read (date_text k) j _ _ _ _ refl refl refl refl hj e in
    let q = read (date_text k) k _ _ _ _ refl refl refl refl hk refl in
    sym (counted j).1 ∙ ap count (p ∙ sym q) ∙ (counted k).1
