-- Laws of the answer that has a code's text.
use Rattle.texts.proofs.Names.{◌≡◌, refl, sym, ap, true, false, cond, List, ◌++◌, ℕ, ◌≤◌, ◌<◌, zero-le, ◌-◌, arith, length, take, replicate, length-append, take-append_seam, Outcome, Ok, Err, WrongSort, NoSuch, OutOfRange, Refusal, chosen, no_value_lem}
use Rattle.texts.proofs.Names.{Text, letters_text, date_text, text_of, text_said, same, code_of, OnlyCode, code_if_shown}
use Rattle.texts.proofs.Turning.{Plainly, letter, date, initials, other, in-range, too-low, too-high, no-such-text, wrong-length, code-shown, no-such-code}

-- The answer of a code in range.
told : {field : ℕ} (p : Plainly field) (code : ℕ) → p.least ≤ code → code ≤ p.greatest → text_said (text_of field code) ≡ Ok (record { length = p.long; characters = p.text code ++ replicate (10 - p.long) 0 })
told p code low high = rw (in-range p code low high, p.lengths code) refl

pub letter_told : (field code : ℕ) → field ≡ 3 → 1 ≤ code → code ≤ 26 → text_said (text_of field code) ≡ Ok (record { length = 1; characters = letters_text 1 code ++ replicate 9 0 })
letter_told field code f low high = told (letter f) code low high

pub date_told : (field code : ℕ) → field ≡ 18 → code ≤ 65_534 → text_said (text_of field code) ≡ Ok (record { length = 10; characters = date_text code })
unfolding date_text
date_told field code f high = told (date f) code zero-le high

pub initials_told : (field code : ℕ) → field ≡ 19 → code ≤ 32_767 → text_said (text_of field code) ≡ Ok (record { length = 3; characters = letters_text 3 code ++ replicate 7 0 })
initials_told field code f high = told (initials f) code zero-le high

pub letter_low : (field code : ℕ) → field ≡ 3 → code < 1 → text_said (text_of field code) ≡ Err (OutOfRange field)
letter_low field code f low = ap text_said (too-low (letter f) code low)

pub letter_high : (field code : ℕ) → field ≡ 3 → 26 < code → text_said (text_of field code) ≡ Err (OutOfRange field)
letter_high field code f high = ap text_said (too-high (letter f) code high)

pub date_high : (field code : ℕ) → field ≡ 18 → 65_534 < code → text_said (text_of field code) ≡ Err (OutOfRange field)
date_high field code f high = ap text_said (too-high (date f) code high)

pub initials_high : (field code : ℕ) → field ≡ 19 → 32_767 < code → text_said (text_of field code) ≡ Err (OutOfRange field)
initials_high field code f high = ap text_said (too-high (initials f) code high)

pub no_text : (field code : ℕ) → (field ≡ 3 → ⊥) → (field ≡ 18 → ⊥) → (field ≡ 19 → ⊥) → text_said (text_of field code) ≡ Err (NoSuch field)
no_text field code a b c = ap text_said (no-such-text field code (other a b c))

pub ruleset text_laws = (letter_told, date_told, initials_told, letter_low, letter_high, date_high, initials_high, no_text)

-- A text at the front of the ten characters.
pub record Front (o : Outcome (List ℕ)) (t : Text) : Type 0 where
  pub text : List ℕ
  pub is : o ≡ Ok text
  pub front : take t.length t.characters ≡ text
  pub within : t.length ≤ length t.characters

pub front_of : (o : Outcome (List ℕ)) (t : Text) → text_said o ≡ Ok t → Front o t
front_of (Ok l) t e =
    let z : record { length = length l; characters = l ++ replicate (10 - length l) 0 } ≡ t = cc in
    record {
      text = l;
      is = refl;
      front = rw (← z) (take-append_seam l (replicate (10 - length l) 0));
      within = rw (← z) (omega (arith, length-append l (replicate (10 - length l) 0)));
    }
front_of (Err r) t e = no_value_lem e

pub said-refused : (o : Outcome (List ℕ)) (r : Refusal) → text_said o ≡ Err r → o ≡ Err r
said-refused (Ok l) r e = no_value_lem (sym e)
said-refused (Err s) r e = cc

-- ---- the answers of `code_if_shown`

compared : (field code : ℕ) (text : List ℕ) (t : Text) → text_said (text_of field code) ≡ Ok t
    → code_if_shown field code text ≡ cond (same (take t.length t.characters) text) (Ok code) (Err (OutOfRange field))
unfolding code_if_shown
compared field code text t e =
    let s = front_of (text_of field code) t e in
    rw (s.is, s.front) (chosen code (OutOfRange field) (same s.text text))

pub not_shown : (field code : ℕ) (text : List ℕ) (r : Refusal) → text_said (text_of field code) ≡ Err r → code_if_shown field code text ≡ Err r
unfolding code_if_shown
not_shown field code text r e = rw (said-refused (text_of field code) r e) refl

pub same_shown : (field code : ℕ) (text : List ℕ) (t : Text) → text_said (text_of field code) ≡ Ok t → same (take t.length t.characters) text ≡ true → code_if_shown field code text ≡ Ok code
same_shown field code text t e s = rw s at (compared field code text t e)

pub other_shown : (field code : ℕ) (text : List ℕ) (t : Text) → text_said (text_of field code) ≡ Ok t → same (take t.length t.characters) text ≡ false → code_if_shown field code text ≡ Err (OutOfRange field)
other_shown field code text t e s = rw s at (compared field code text t e)

pub ruleset shown_laws = (not_shown, same_shown, other_shown)

-- ---- the answers of `code_of`

pub letter_code : (field code : ℕ) (text : List ℕ) → field ≡ 3 → length text ≡ 1 → OnlyCode (letters_text 1) text 31 code → code_of field text ≡ code_if_shown field code text
letter_code field code text f e only = code-shown (letter f) text code e only

pub date_code : (field code : ℕ) (text : List ℕ) → field ≡ 18 → length text ≡ 10 → OnlyCode date_text text 65_535 code → code_of field text ≡ code_if_shown field code text
date_code field code text f e only = code-shown (date f) text code e only

pub initials_code : (field code : ℕ) (text : List ℕ) → field ≡ 19 → length text ≡ 3 → OnlyCode (letters_text 3) text 32_767 code → code_of field text ≡ code_if_shown field code text
initials_code field code text f e only = code-shown (initials f) text code e only

pub letter_length : (field : ℕ) (text : List ℕ) → field ≡ 3 → (length text ≡ 1 → ⊥) → code_of field text ≡ Err (WrongSort field)
letter_length field text f differ = wrong-length (letter f) text differ

pub date_length : (field : ℕ) (text : List ℕ) → field ≡ 18 → (length text ≡ 10 → ⊥) → code_of field text ≡ Err (WrongSort field)
date_length field text f differ = wrong-length (date f) text differ

pub initials_length : (field : ℕ) (text : List ℕ) → field ≡ 19 → (length text ≡ 3 → ⊥) → code_of field text ≡ Err (WrongSort field)
initials_length field text f differ = wrong-length (initials f) text differ

pub no_code : (field : ℕ) (text : List ℕ) → (field ≡ 3 → ⊥) → (field ≡ 18 → ⊥) → (field ≡ 19 → ⊥) → code_of field text ≡ Err (NoSuch field)
no_code field text a b c = no-such-code field text (other a b c)

pub ruleset code_laws = (letter_code, date_code, initials_code, letter_length, date_length, initials_length, no_code)
