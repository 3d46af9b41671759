-- Laws of the bytes of hexadecimal digits, in order.
use Rattle.console_words.proofs.Names.{◌≡◌, refl, sym, ap, ◌∙◌, Bool, true, false, true≢false, false≢true, ◌&&◌, ◌||◌, List, [], ◌∷◌, Option, None, Some, ℕ, zero, suc, ◌+◌, ◌-◌, ◌*◌, ◌/◌, ◌%◌, ◌≤◌, ◌<◌, arith, ltb, length, get_or, drop, list_any, is_none, is_minus, says◌if◌, fits, counted, value_of, counts, digit_of, byte_of, paired, bytes, digits, spelt}
use Rattle.console_words.proofs.FigureLaws.{says_is}
use Rattle.console_words.proofs.FilledLaws.{no_room}

-- ---- a word

pub bytes-minus : (word : List ℕ) → is_minus word ≡ true → bytes word ≡ []
bytes-minus [] h = absurd (false≢true h)
bytes-minus (b ∷ word) h = rw h

pub bytes-empty : (word : List ℕ) → length word ≡ 0 → bytes word ≡ None ∷ []
bytes-empty [] h = refl
bytes-empty (b ∷ word) h = absurd (omega arith)

pub bytes-paired : (word : List ℕ) → is_minus word ≡ false → (length word ≡ 0 → ⊥) → bytes word ≡ paired word
bytes-paired [] h k = absurd (k refl)
bytes-paired (b ∷ word) h k = rw h

-- Whether a word has a character that is no digit.
abbrev pub has_other : List ℕ → Bool
has_other word = list_any (λ b. is_none (value_of b)) word

-- The byte of two characters, by whether they are digits.
abbrev byte_if : ℕ → ℕ → Bool → Bool → Option ℕ
byte_if a b s t = says 16 * counts a + counts b if s && t

abbrev pair_other : ℕ → ℕ → Bool → Bool → Bool → Bool
pair_other a b s t more = is_none (says counts a if s) || (is_none (says counts b if t) || more)

-- As many pairs of digits as the word is long; a digit alone at its end; and a character that is no digit.
pub paired-long : (word : List ℕ) (n : ℕ) → length word ≡ 2 * n → length (paired word) ≡ n
paired-long [] n e = omega arith
paired-long (a ∷ []) n e = absurd (omega arith)
paired-long (a ∷ b ∷ word) n e = omega (arith, paired-long word (n - 1) (omega arith))

pub paired-fit : (word : List ℕ) (n room : ℕ) → has_other word ≡ false → length word ≡ 2 * n → n ≤ room → fits (paired word) room ≡ true
paired-fit [] n room h e k = refl
paired-fit (a ∷ []) n room h e k = absurd (omega arith)
paired-fit (a ∷ b ∷ word) n zero h e k = absurd (omega arith)
paired-fit (a ∷ b ∷ word) n (suc room) h e k = by (ltb (counts a) 16) (ltb (counts b) 16) h (λ g. paired-fit word (n - 1) room g (omega arith) (omega arith))
  where
    by : (s t : Bool) → pair_other a b s t (has_other word) ≡ false → (has_other word ≡ false → fits (paired word) room ≡ true) → fits (byte_if a b s t ∷ paired word) (suc room) ≡ true
    by false t g r = absurd (true≢false g)
    by true false g r = absurd (true≢false g)
    by true true g r = r g

pub paired-odd : (word : List ℕ) (n room : ℕ) → length word ≡ 2 * n + 1 → fits (paired word) room ≡ false
paired-odd [] n room e = absurd (omega arith)
paired-odd (a ∷ []) n room e = refl
paired-odd (a ∷ b ∷ word) n room e = by (byte_of a b) room (λ m. paired-odd word (n - 1) m (omega arith))
  where
    by : (o : Option ℕ) (room : ℕ) → ((m : ℕ) → fits (paired word) m ≡ false) → fits (o ∷ paired word) room ≡ false
    by None room r = refl
    by (Some x) zero r = refl
    by (Some x) (suc room) r = r room

pub paired-other : (word : List ℕ) (room : ℕ) → has_other word ≡ true → fits (paired word) room ≡ false
paired-other [] room h = absurd (false≢true h)
paired-other (a ∷ []) room h = refl
paired-other (a ∷ b ∷ word) room h = by (ltb (counts a) 16) (ltb (counts b) 16) room h (λ m. paired-other word m)
  where
    by : (s t : Bool) (room : ℕ) → pair_other a b s t (has_other word) ≡ true → ((m : ℕ) → has_other word ≡ true → fits (paired word) m ≡ false) → fits (byte_if a b s t ∷ paired word) room ≡ false
    by false t room g r = refl
    by true false room g r = refl
    by true true zero g r = refl
    by true true (suc room) g r = r room g

-- A word of pairs: its bytes are counted or not.
module _ (word : List ℕ) (m : is_minus word ≡ false) (h : length word ≡ 0 → ⊥) (room : ℕ) where
  pub bytes-odd : length word % 2 ≡ 1 → None ≡ counted (bytes word) room
  bytes-odd e = rw (bytes-paired word m h, paired-odd word (length word / 2) room (omega arith))

  pub bytes-other : has_other word ≡ true → None ≡ counted (bytes word) room
  bytes-other e = rw (bytes-paired word m h, paired-other word room e)

  module _ (odd : length word % 2 ≡ 1 → ⊥) where
    half : length word ≡ 2 * (length word / 2)
    half = omega arith

    pub bytes-many : room < length word / 2 → None ≡ counted (bytes word) room
    bytes-many l = rw (bytes-paired word m h, no_room (paired word) room (omega (arith, paired-long word (length word / 2) half)))

    pub bytes-all : has_other word ≡ false → length word / 2 ≤ room → Some (length word / 2) ≡ counted (bytes word) room
    bytes-all e l = rw (bytes-paired word m h, paired-fit word (length word / 2) room e half l, paired-long word (length word / 2) half)

-- ---- the byte of an index, once the bytes are counted

fits-rest : (o : Option ℕ) (said : List (Option ℕ)) (room : ℕ) → fits (o ∷ said) room ≡ true → fits said (room - 1) ≡ true
fits-rest None said room h = absurd (false≢true h)
fits-rest (Some x) said zero h = absurd (false≢true h)
fits-rest (Some x) said (suc room) h = let n : suc room - 1 ≡ room = omega arith in rw n h

-- The two characters of an index are there, and are its byte.
pub record Pair (word : List ℕ) (said : List (Option ℕ)) (at : ℕ) : Type 0 where
  pub there : 2 * at + 1 < length word
  pub is : drop at said ≡ byte_of (get_or word (2 * at) 0) (get_or word (2 * at + 1) 0) ∷ drop (at + 1) said

pair-of : (word : List ℕ) (room at : ℕ) → fits (paired word) room ≡ true → at < length (paired word) → Pair word (paired word) at
pair-of [] room at f h = absurd (omega arith)
pair-of (a ∷ []) room at f h = absurd (false≢true f)
pair-of (a ∷ b ∷ word) room zero f h = record { there = omega arith; is = refl }
pair-of (a ∷ b ∷ word) room (suc at) f h =
    let p = pair-of word (room - 1) at (fits-rest (byte_of a b) (paired word) room f) (omega arith) in
    let e : 2 * suc at ≡ suc (suc (2 * at)) = omega arith in
    let g : suc (suc (2 * at)) + 1 ≡ suc (suc (2 * at + 1)) = omega arith in
    let j : suc at + 1 ≡ suc (at + 1) = omega arith in
    record { there = omega (arith, p.there); is = rw (e, g, j) p.is }

pub byte-next : (word : List ℕ) (room count at : ℕ) → Some count ≡ counted (bytes word) room → at < count → Pair word (bytes word) at
byte-next word room count at e h =
    let k = says_is (length (bytes word)) (fits (bytes word) room) count e in
    go word k.0 (omega (arith, k.1))
  where
    by : (word : List ℕ) (t : Bool) → is_minus word ≡ t → (length word ≡ 0 → ⊥) → fits (bytes word) room ≡ true → at < length (bytes word) → Pair word (bytes word) at
    by word true m n f l = absurd (omega (arith, ap length (bytes-minus word m)))
    by word false m n f l = let p = bytes-paired word m n in rw p (pair-of word room at (rw p at f) (rw p at l))

    go : (word : List ℕ) → fits (bytes word) room ≡ true → at < length (bytes word) → Pair word (bytes word) at
    go [] f l = absurd (false≢true f)
    go (b ∷ word) f l = by (b ∷ word) (is_minus (b ∷ word)) refl (λ i. omega arith) f l

-- ---- the digits of bytes

digits-length : (bytes : List ℕ) → length (digits bytes) ≡ 2 * length bytes
digits-length [] = refl
digits-length (b ∷ bytes) = omega (arith, digits-length bytes)

digits-at : (bytes : List ℕ) (k : ℕ) → k < length bytes → (get_or (digits bytes) (2 * k) 0 ≡ digit_of (get_or bytes k 0 / 16)) × (get_or (digits bytes) (2 * k + 1) 0 ≡ digit_of (get_or bytes k 0 % 16))
digits-at [] k h = absurd (omega arith)
digits-at (b ∷ bytes) zero h = (refl, refl)
digits-at (b ∷ bytes) (suc k) h =
    let e : 2 * suc k ≡ suc (suc (2 * k)) = omega arith in
    let f : suc (suc (2 * k)) + 1 ≡ suc (suc (2 * k + 1)) = omega arith in
    rw (e, f) (digits-at bytes k (omega arith))

pub spelt-some : (bytes : List ℕ) → (length bytes ≡ 0 → ⊥) → spelt bytes ≡ digits bytes
spelt-some [] h = absurd (h refl)
spelt-some (b ∷ bytes) h = refl

module _ (bytes : List ℕ) (h : length bytes ≡ 0 → ⊥) where
  pub spelt-long : 2 * length bytes ≡ length (spelt bytes)
  spelt-long = rw (spelt-some bytes h) (sym (digits-length bytes))

  module _ (i : ℕ) (l : i < length (spelt bytes)) where
    within : i / 2 < length bytes
    within = omega (arith, spelt-long)

    pub spelt-high : i % 2 ≡ 0 → digit_of (get_or bytes (i / 2) 0 / 16) ≡ get_or (spelt bytes) i 0
    spelt-high e = sym (rw (spelt-some bytes h) (ap (λ (x : ℕ). get_or (digits bytes) x 0) (let n : i ≡ 2 * (i / 2) = omega arith in n) ∙ (digits-at bytes (i / 2) within).0))

    pub spelt-low : (i % 2 ≡ 0 → ⊥) → digit_of (get_or bytes (i / 2) 0 % 16) ≡ get_or (spelt bytes) i 0
    spelt-low e = sym (rw (spelt-some bytes h) (ap (λ (x : ℕ). get_or (digits bytes) x 0) (let n : i ≡ 2 * (i / 2) + 1 = omega arith in n) ∙ (digits-at bytes (i / 2) within).1))
