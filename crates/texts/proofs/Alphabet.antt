-- Laws of letter codes: the 32 letters differ, and so do the texts of different codes.
use Rattle.texts.proofs.Names.{◌≡◌, refl, sym, ap, ◌∙◌, subst, Bool, true, false, not, ◌||◌, List, ℕ, zero, suc, ◌+◌, ◌*◌, ◌/◌, ◌%◌, ◌^◌, ◌-◌, ◌<◌, ◌≤◌, pow-suc, one-le-pow, arith, T, eqb, eqb→eq, lit<, length, get_or, zero-le, Option, None, Some, MatchOption, unwrap_or, AllWithin, HoldsAt}
use Rattle.texts.proofs.Names.{drop, eq-eqb, letters, letters_text, OnlyCode}
use Rattle.texts.proofs.Below.{below, at}

-- If two numbers have one letter, they are one number.
differs : ℕ → ℕ → Bool
differs i j = not (eqb (get_or letters i 0) (get_or letters j 0)) || eqb i j

by-test : (a b : Bool) → a ≡ true → T (not a || b) → T b
by-test true b e t = t
by-test false b e t = absurd (subst T (sym e) tt)

pub distinct : (i j : ℕ) → i < 32 → j < 32 → get_or letters i 0 ≡ get_or letters j 0 → i ≡ j
unfolding differs
distinct i j hi hj e =
    eqb→eq i j
    (by-test (eqb (get_or letters i 0) (get_or letters j 0)) (eqb i j) (eq-eqb _ _ e)
    (at (differs i) 32 (at (λ k. below (differs k) 32) 32 tt i hi) j hj))

-- r is the code of a character that is a letter.
abbrev pub LetterCode : ℕ → ℕ → Type 0
LetterCode character r = OnlyCode (λ code. get_or letters code 0) character 31 r

-- The place of a character among the letters is its code.
pub first-letter : (character : ℕ) (r : Option ℕ) → MatchOption r (AllWithin (λ x. x ≡ character → ⊥) letters 0 32) (λ i. (i < 32) × HoldsAt (λ x. x ≡ character) letters i × AllWithin (λ x. x ≡ character → ⊥) letters 0 i)
    → (unwrap_or r 0 < 32) × LetterCode character (unwrap_or r 0)
first-letter character None none = (omega arith, λ code le e. absurd (none code 0 zero-le (omega arith) e))
first-letter character (Some i) p = (p.0, λ code le e. distinct i code p.0 (omega arith) (p.1 0 ∙ sym e))

pub only_one : (text : List ℕ) (a : ℕ) → LetterCode (get_or text 0 0) a → OnlyCode (letters_text 1) text 31 a
unfolding letters_text
only_one text a ha code le e =
    let p : a ≡ code % 32 = ha (code % 32) (omega arith) (ap (λ (l : List ℕ). get_or l 0 0) e) in
    omega arith

pub only_three : (text : List ℕ) (a b c : ℕ) → LetterCode (get_or text 0 0) a → LetterCode (get_or text 1 0) b → LetterCode (get_or text 2 0) c → OnlyCode (letters_text 3) text 32_767 (a + 32 * (b + 32 * c))
unfolding letters_text
only_three text a b c ha hb hc code le e =
    let p : a ≡ code % 32 = ha (code % 32) (omega arith) (ap (λ (l : List ℕ). get_or l 0 0) e) in
    let q : b ≡ code / 32 % 32 = hb (code / 32 % 32) (omega arith) (ap (λ (l : List ℕ). get_or l 1 0) e) in
    let s : c ≡ code / 32 / 32 % 32 = hc (code / 32 / 32 % 32) (omega arith) (ap (λ (l : List ℕ). get_or l 2 0) e) in
    omega arith

pub letters-length : (n code : ℕ) → length (letters_text n code) ≡ n
unfolding letters_text
letters-length zero code = refl
letters-length (suc n) code = ap suc (letters-length n (code / 32))

pub letters-differ : (n a b : ℕ) → a ≤ 32 ^ n - 1 → b ≤ 32 ^ n - 1 → letters_text n a ≡ letters_text n b → a ≡ b
unfolding letters_text
letters-differ zero a b ha hb e = omega arith
letters-differ (suc n) a b ha hb e =
    let p : a % 32 ≡ b % 32 = distinct (a % 32) (b % 32) (omega arith) (omega arith) (ap (λ (l : List ℕ). get_or l 0 0) e) in
    let q : a / 32 ≡ b / 32 = letters-differ n (a / 32) (b / 32) (omega (arith, pow-suc 32 n, one-le-pow n 32 (lit< tt))) (omega (arith, pow-suc 32 n, one-le-pow n 32 (lit< tt))) (ap (drop 1) e) in
    omega arith
