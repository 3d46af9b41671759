-- Laws of text and codes: each is turned into the other and back.
use Rattle.texts.proofs.Names.{◌≡◌, refl, sym, ap, subst, ◌∙◌, ◌⊎◌, inl, inr, ⊎_elim, Bool, true, false, not, ◌&&◌, ◌||◌, cond, or-true, List, ℕ, ◌<◌, ◌≤◌, arith, eqb, ltb, leb, length, pos, leb-false, eq-eqb}
use Rattle.texts.proofs.Names.{ne_eqb, eqb-true, eqb-false, ltb-false, lt-ltb, le-ltb, Outcome, Ok, Err, ◌>>◌, ◌>>=◌, refuse◌if◌, NoSuch, WrongSort, OutOfRange, Refusal, no_value_lem, neither, Whole, Plain}
use Rattle.texts.proofs.Names.{all_ones, encode, letters_text, date_text, texted, text_of, same, whose_text, code_of, OnlyCode, code_if_shown}
use Rattle.texts.proofs.Same.{same_refl}
use Rattle.texts.proofs.Alphabet.{letters-length, letters-differ}
use Rattle.texts.proofs.Digits.{date-length, dates-differ}
use Rattle.texts.proofs.Whose.{whose-one, whose-text}

-- ---- a field whose codes are plain numbers

-- The width, the least and greatest code, whether all ones is
-- missing, and the length and texts of the codes, all different.
pub record Plainly (field : ℕ) : Type 0 where
  pub width : ℕ
  pub least : ℕ
  pub greatest : ℕ
  pub missing : Bool
  pub long : ℕ
  pub text : ℕ → List ℕ
  pub is : texted field ≡ Ok (record { row = record { width = width; rule = Plain least greatest; missing = missing }; length = long; text_of = text })
  pub fits : greatest ≤ all_ones width
  pub lengths : (code : ℕ) → length (text code) ≡ long
  pub differ : (j k : ℕ) → j ≤ all_ones width → k ≤ all_ones width → text j ≡ text k → j ≡ k

refuse-or : (r : Refusal) (b : Bool) (a : ℕ) → ((refuse r if b) >> Ok a) ≡ cond b (Err r) (Ok a)
refuse-or r true a = refl
refuse-or r false a = refl

module _ {field : ℕ} (p : Plainly field) where
  abbrev outside_of : ℕ → Bool
  outside_of code = ltb code p.least || ltb p.greatest code

  abbrev held : ℕ → Outcome ℕ
  held code = cond (outside_of code) (Err (OutOfRange field)) (Ok code)

  encoded : (code : ℕ) → encode (record { width = p.width; rule = Plain p.least p.greatest; missing = p.missing }) field (Whole (pos code)) ≡ held code
  unfolding encode
  encoded code = refuse-or (OutOfRange field) (outside_of code) code

  text-is : (code : ℕ) → text_of field code ≡ (held code >>= λ k. Ok (p.text k))
  unfolding text_of
  text-is code = rw (p.is, encoded code)

  pub too-low : (code : ℕ) → code < p.least → text_of field code ≡ Err (OutOfRange field)
  too-low code h = text-is code ∙ rw (lt-ltb code p.least h)

  pub too-high : (code : ℕ) → p.greatest < code → text_of field code ≡ Err (OutOfRange field)
  too-high code h = text-is code ∙ rw (lt-ltb p.greatest code h, or-true (ltb code p.least))

  pub in-range : (code : ℕ) → p.least ≤ code → code ≤ p.greatest → text_of field code ≡ Ok (p.text code)
  in-range code low high = text-is code ∙ rw (le-ltb code p.least low, le-ltb p.greatest code high)

  code_is : (t : List ℕ) → length t ≡ p.long → code_of field t ≡ (whose_text p.text t (Err (OutOfRange field)) (all_ones p.width) >>= held)
  unfolding code_of
  code_is t e = rw (p.is, eq-eqb _ _ e) (simp encoded)

  pub wrong-length : (t : List ℕ) → (length t ≡ p.long → ⊥) → code_of field t ≡ Err (WrongSort field)
  unfolding code_of
  wrong-length t differ = rw (p.is, ne_eqb _ _ differ)

  settled : (t : List ℕ) (code : ℕ) (o a b : Bool) → outside_of code ≡ o → leb code (all_ones p.width) ≡ a → same (p.text code) t ≡ b
      → (cond (a && b) (Ok code) (Err (OutOfRange field)) >>= held)
      ≡ ((cond o (Err (OutOfRange field)) (Ok code) >>= λ k. Ok (p.text k)) >>= λ shown. ((refuse OutOfRange field if not (same shown t)) >> Ok code))
  settled t code true true true eo ea eb = rw eo
  settled t code true true false eo ea eb = refl
  settled t code true false b eo ea eb = refl
  settled t code false true true eo ea eb = rw (eo, eb)
  settled t code false true false eo ea eb = rw eb
  settled t code false false b eo ea eb =
      absurd (omega (arith, p.fits, leb-false code (all_ones p.width) ea, ltb-false p.greatest code (neither (ltb code p.least) (ltb p.greatest code) eo).1))

  -- The code of a text is the only one that can have it, if that one does.
  pub code-shown : (t : List ℕ) (code : ℕ) → length t ≡ p.long → OnlyCode p.text t (all_ones p.width) code → code_of field t ≡ code_if_shown field code t
  unfolding code_if_shown
  code-shown t code e only =
      rw (code_is t e, text-is code, whose-one p.text t (OutOfRange field) (all_ones p.width) code only _ _ refl refl)
      (settled t code (outside_of code) (leb code (all_ones p.width)) (same (p.text code) t) refl refl refl)

  -- If a code has a text, it is in range, and the text is its own.
  text-held : (code : ℕ) (t : List ℕ) → text_of field code ≡ Ok t → (code ≤ all_ones p.width) × (p.text code ≡ t)
  text-held code t e = by (outside_of code) refl (sym (text-is code) ∙ e)
    where
      by : (o : Bool) → outside_of code ≡ o → (cond o (Err (OutOfRange field)) (Ok code) >>= λ k. Ok (p.text k)) ≡ Ok t → (code ≤ all_ones p.width) × (p.text code ≡ t)
      by true eo q = no_value_lem q
      by false eo q = (omega (arith, p.fits, ltb-false p.greatest code (neither (ltb code p.least) (ltb p.greatest code) eo).1), cc)

  text-there : (code : ℕ) (t : List ℕ) → text_of field code ≡ Ok t → code_of field t ≡ Ok code
  unfolding code_if_shown
  text-there code t e =
      let h = text-held code t e in
      code-shown t code (ap length (sym h.1) ∙ p.lengths code) (λ k le q. p.differ code k h.0 le (h.1 ∙ sym q))
      ∙ rw (e, same_refl t)

  held_back : (t : List ℕ) (code k : ℕ) (o : Bool) → outside_of k ≡ o → p.text k ≡ t → cond o (Err (OutOfRange field)) (Ok k) ≡ Ok code → text_of field code ≡ Ok t
  held_back t code k true eo q e = no_value_lem e
  held_back t code k false eo q e =
      let z : k ≡ code = cc in
      subst (λ (j : ℕ). text_of field j ≡ Ok t) z (text-is k ∙ rw (eo, q))

  found_back : (t : List ℕ) (code : ℕ) (o : Outcome ℕ) → whose_text p.text t (Err (OutOfRange field)) (all_ones p.width) ≡ o
      → (o >>= held) ≡ Ok code → text_of field code ≡ Ok t
  found_back t code (Err r) eo e = no_value_lem e
  found_back t code (Ok k) eo e = held_back t code k (outside_of k) refl (whose-text p.text t (OutOfRange field) (all_ones p.width) k eo) e

  code-there : (t : List ℕ) (code : ℕ) → code_of field t ≡ Ok code → text_of field code ≡ Ok t
  code-there t code e = by (eqb (length t) p.long) refl
    where
      by : (b : Bool) → eqb (length t) p.long ≡ b → text_of field code ≡ Ok t
      by true eb = found_back t code _ refl (sym (code_is t (eqb-true (length t) p.long eb)) ∙ e)
      by false eb = no_value_lem (sym (wrong-length t (eqb-false (length t) p.long eb)) ∙ e)

-- ---- the fields that have a text

abbrev pub letter : {field : ℕ} → field ≡ 3 → Plainly field
letter e =
    record {
      width = 5;
      least = 1;
      greatest = 26;
      missing = false;
      long = 1;
      text = letters_text 1;
      is = ap texted e;
      fits = omega arith;
      lengths = letters-length 1;
      differ = letters-differ 1;
    }

abbrev pub date : {field : ℕ} → field ≡ 18 → Plainly field
date e =
    record {
      width = 16;
      least = 0;
      greatest = 65_534;
      missing = true;
      long = 10;
      text = date_text;
      is = ap texted e;
      fits = omega arith;
      lengths = date-length;
      differ = dates-differ;
    }

abbrev pub initials : {field : ℕ} → field ≡ 19 → Plainly field
initials e =
    record {
      width = 15;
      least = 0;
      greatest = 32_767;
      missing = false;
      long = 3;
      text = letters_text 3;
      is = ap texted e;
      fits = omega arith;
      lengths = letters-length 3;
      differ = letters-differ 3;
    }

pub other : {field : ℕ} → (field ≡ 3 → ⊥) → (field ≡ 18 → ⊥) → (field ≡ 19 → ⊥) → texted field ≡ Err (NoSuch field)
other a b c = rw (ne_eqb _ _ a, ne_eqb _ _ b, ne_eqb _ _ c)

has-text : (field : ℕ) → Plainly field ⊎ (texted field ≡ Err (NoSuch field))
has-text field = by _ _ _ refl refl refl
  where
    by : (a b c : Bool) → eqb field 3 ≡ a → eqb field 18 ≡ b → eqb field 19 ≡ c → Plainly field ⊎ (texted field ≡ Err (NoSuch field))
    by true b c ea eb ec = inl (letter (eqb-true field 3 ea))
    by false true c ea eb ec = inl (date (eqb-true field 18 eb))
    by false false true ea eb ec = inl (initials (eqb-true field 19 ec))
    by false false false ea eb ec = inr (rw (ea, eb, ec))

pub no-such-text : (field code : ℕ) {r : Refusal} → texted field ≡ Err r → text_of field code ≡ Err r
unfolding text_of
no-such-text field code e = rw e

pub no-such-code : (field : ℕ) (t : List ℕ) {r : Refusal} → texted field ≡ Err r → code_of field t ≡ Err r
unfolding code_of
no-such-code field t e = rw e

-- ---- there and back

-- The text of a code has that code.
pub text-back : (field code : ℕ) (t : List ℕ) → text_of field code ≡ Ok t → code_of field t ≡ Ok code
text-back field code t e =
    ⊎_elim (λ p. text-there p code t e) (λ n. no_value_lem (sym (no-such-text field code n) ∙ e)) (has-text field)

-- The code of a text has that text.
pub code-back : (field code : ℕ) (t : List ℕ) → code_of field t ≡ Ok code → text_of field code ≡ Ok t
code-back field code t e =
    ⊎_elim (λ p. code-there p t code e) (λ n. no_value_lem (sym (no-such-code field t n) ∙ e)) (has-text field)
