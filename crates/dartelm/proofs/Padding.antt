-- Laws of lists followed by zeros: a page's bytes and a text's
-- characters, copied to the start of an array of zeros.
use Rattle.dartelm.proofs.Names.{◌≡◌, sym, ap, ◌∙◌, Bool, true, false, cond, List, [], ◌++◌, append_assoc, ℕ, zero, suc, ◌+◌, ◌-◌, ◌≤◌, arith, unary_clauses, ltb, length, take, drop, replicate, length-append}
use Rattle.dartelm.proofs.Names.{length-take, length-drop, length-replicate, replicate-append-replicate, take-length, Outcome, Ok, Err, Refusal, Sizes, image_sizes, part_of, page_bytes, Text, good-same, no_value_lem}
use Rattle.dartelm.proofs.Names.{text_said, said-refused, struct_of, padded, text_answer, page_answer, page_call}

-- ---- zeros

zeros-behind : (k n : ℕ) → k ≤ n → drop {A = ℕ} k (replicate n 0) ≡ replicate (n - k) 0
zeros-behind zero n h = simp unary_clauses
zeros-behind (suc k) zero h = absurd (omega arith)
zeros-behind (suc k) (suc n) h = simp unary_clauses (zeros-behind k n (omega arith))

-- The result of a copy into an array of n zeros.
pub copied : (n : ℕ) (source after : List ℕ) → length source ≤ n → after ≡ take (length source) source ++ drop (length source) (replicate n 0) → after ≡ padded n 0 source
copied n source after h e = e ∙ rw (take-length source, zeros-behind (length source) n h)

-- Zeros after zeros.
padded-again : (m n : ℕ) (l : List ℕ) → length l ≤ m → m ≤ n → padded n 0 (padded m 0 l) ≡ padded n 0 l
padded-again m n l h k =
    let behind : n - length (padded m 0 l) ≡ n - m = rw (length-append, length-replicate) (omega arith) in
    let both : m - length l + (n - m) ≡ n - length l = omega arith in
    rw (behind, append_assoc, replicate-append-replicate, both)

-- ---- a page has at most 31 stream bytes

within : (b : Bool) (l : List ℕ) → length l ≤ 31 → length (cond b l []) ≤ 31
within true l h = h
within false l h = omega arith

part : (image : List ℕ) (i : ℕ) (o : Outcome Sizes) → length (part_of image i o) ≤ 31
part image i (Ok z) = within (ltb i z.pages) _ (simp (length-drop, length-take) (omega arith))
part image i (Err r) = omega arith

pub page-short : (kind : ℕ) (image : List ℕ) (i : ℕ) → length (page_bytes kind image i) ≤ 31
unfolding page_bytes
page-short kind image i = part image i (image_sizes kind (length image))

pub page-told : (kind : ℕ) (image : List ℕ) (i : ℕ) (part after : List ℕ) (n : ℕ) → part ≡ page_bytes kind image i → n ≡ length part
    → after ≡ take (length part) part ++ drop (length part) (replicate 31 0) → record { count = n; bytes = after } ≡ page_call kind image i
page-told kind image i part after n e f g =
    let h = page-short kind image i in
    rw (f, copied 31 part after (omega (arith, ap length e)) g) (ap page_answer e)

-- ---- a text, from its ten characters

module _ (o : Outcome (List ℕ)) {t : Outcome Text} (e : t ≡ text_said o) where
  pub text-refused : {r : Refusal} → t ≡ Err r → o ≡ Err r
  text-refused f = said-refused o _ (sym e ∙ f)

  pub text-told : {x : Text} {after : List ℕ} → t ≡ Ok x → length x.characters ≡ 10
      → after ≡ take (length x.characters) x.characters ++ drop (length x.characters) (replicate 11 0)
      → record { number = 0; place = 0; length = x.length; characters = after } ≡ struct_of text_answer [] o
  text-told {x} {after} f ten g = go o (sym e ∙ f)
    where
      go : (p : Outcome (List ℕ)) → text_said p ≡ Ok x → record { number = 0; place = 0; length = x.length; characters = after } ≡ struct_of text_answer [] p
      go (Ok text) h =
          let w : x.characters ≡ padded 10 0 text = ap (λ (y : Text). y.characters) (sym (good-same h)) in
          let m : x.length ≡ length text = ap (λ (y : Text). y.length) (sym (good-same h)) in
          let l : length text + (10 - length text) ≡ 10 = simp (length-append, length-replicate) at (ap length (sym w) ∙ ten) in
          rw (m, copied 11 x.characters after (omega arith) g, w, padded-again 10 11 text (omega arith) (omega arith))
      go (Err r) h = no_value_lem h
