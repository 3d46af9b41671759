-- Laws of bytes and the number that they form.
use Rattle.memory.proofs.Names.{◌≡◌, refl, sym, ap, ap₂, ◌∙◌, List, [], ◌∷◌, ◌++◌, ℕ, zero, suc, ◌+◌, ◌-◌, ◌*◌, ◌/◌, ◌%◌, ◌^◌, ◌<◌, mul_assoc, add-mul, add_assoc, mod-lt, mod-one, zero-div, le_refl, arith, dec_lt}
use Rattle.memory.proofs.Names.{length, take, drop, get_or, set, length-set, drop-cons, take-set-le, drop-set-lt, get_or-set_same, get_or-drop, digits_lt, pow_pos, pow-add, high, low, mod-pow-add, shr-shr, Bytes}
use Rattle.memory.proofs.Names.{number, bytes_of, bit, field_at, put_at}
use Rattle.memory.proofs.FieldLaws.{field-field}

-- ---- lists of bytes

pub bytes_take : (n : ℕ) (bytes : List ℕ) → Bytes bytes → Bytes (take n bytes)
bytes_take zero bytes h i = omega arith
bytes_take (suc n) [] h i = omega arith
bytes_take (suc n) (b ∷ bytes) h zero = h 0
bytes_take (suc n) (b ∷ bytes) h (suc i) = bytes_take n bytes (λ j. h (suc j)) i

pub bytes_drop : (n : ℕ) (bytes : List ℕ) → Bytes bytes → Bytes (drop n bytes)
bytes_drop n bytes h i = rw (get_or-drop n bytes i 0) (h (n + i))

pub bytes-append : (l k : List ℕ) → Bytes l → Bytes k → Bytes (l ++ k)
bytes-append [] k hl hk i = hk i
bytes-append (b ∷ l) k hl hk zero = hl 0
bytes-append (b ∷ l) k hl hk (suc i) = bytes-append l k (λ j. hl (suc j)) hk i

pub bytes-set : (bytes : List ℕ) (i b : ℕ) → Bytes bytes → b < 256 → Bytes (set bytes i b)
bytes-set [] i b h hb j = h j
bytes-set (x ∷ bytes) zero b h hb zero = hb
bytes-set (x ∷ bytes) zero b h hb (suc j) = h (suc j)
bytes-set (x ∷ bytes) (suc i) b h hb zero = h zero
bytes-set (x ∷ bytes) (suc i) b h hb (suc j) = bytes-set bytes i b (λ n. h (suc n)) hb j

pub bytes-of : (n N : ℕ) → Bytes (bytes_of n N)
bytes-of zero N i = omega arith
bytes-of (suc n) N zero = mod-lt N (pow_pos 8)
bytes-of (suc n) N (suc i) = bytes-of n (N / 256) i

pub bytes-length : (n N : ℕ) → length (bytes_of n N) ≡ n
bytes-length zero N = refl
bytes-length (suc n) N = ap suc (bytes-length n (N / 256))

-- ---- bytes to number and back

pow-byte : (k : ℕ) → 2 ^ (8 * suc k) ≡ 2 ^ (8 * k) * 256
pow-byte k = ap (λ (x : ℕ). 2 ^ x) (omega arith) ∙ pow-add 2 (8 * k) 8

pub number_lt : (bytes : List ℕ) → Bytes bytes → number bytes < 2 ^ (8 * length bytes)
number_lt [] h = omega arith
number_lt (b ∷ bytes) h = rw (pow-byte (length bytes)) (digits_lt (number_lt bytes (λ i. h (suc i))) (h 0))

pub number-bytes : (n N : ℕ) → number (bytes_of n N) ≡ N % 2 ^ (8 * n)
number-bytes zero N = sym (mod-one N)
number-bytes (suc n) N =
    ap (λ (x : ℕ). x * 256 + N % 256) (number-bytes n (N / 256)) ∙ sym (mod-pow-add N (8 * n) 8) ∙ ap (λ (x : ℕ). N % 2 ^ x) (omega arith)

pub bytes-number : (bytes : List ℕ) → Bytes bytes → bytes_of (length bytes) (number bytes) ≡ bytes
bytes-number [] h = refl
bytes-number (b ∷ bytes) h =
    ap₂ {C = List ℕ} (λ (x y : ℕ). x ∷ bytes_of (length bytes) y) (low (number bytes) 8 (h 0)) (high (number bytes) 8 (h 0))
    ∙ ap (λ (x : List ℕ). b ∷ x) (bytes-number bytes (λ i. h (suc i)))

-- Lists of bytes of one length are equal if their numbers are.
pub number-ext : (l k : List ℕ) → length l ≡ length k → Bytes l → Bytes k → number l ≡ number k → l ≡ k
number-ext l k e hl hk h = sym (bytes-number l hl) ∙ ap₂ bytes_of e h ∙ bytes-number k hk

-- Document 01's order of bits: bit n is bit n mod 8 of byte n / 8, bit 0 lowest.
pub bit_at : (bytes : List ℕ) → Bytes bytes → (n : ℕ) → bit (number bytes) n ≡ bit (get_or bytes (n / 8) 0) (n % 8)
bit_at [] h n = ap (λ (x : ℕ). x % 2) (zero-div (2 ^ n) ∙ sym (zero-div (2 ^ (n % 8))))
bit_at (b ∷ bytes) h n = go (bit_at bytes (λ i. h (suc i)) (n - 8)) (dec_lt n 8)
  where
    go : bit (number bytes) (n - 8) ≡ bit (get_or bytes ((n - 8) / 8) 0) ((n - 8) % 8) → Dec (n < 8)
        → bit (number bytes * 256 + b) n ≡ bit (get_or (b ∷ bytes) (n / 8) 0) (n % 8)
    go ih (yes s) =
        let p : n / 8 ≡ 0 = omega arith in
        let q : n % 8 ≡ n = omega arith in
        let o : (number bytes * 256 + b) / 1 % 256 ≡ b = omega (arith, h 0) in
        let r : 0 + n ≡ n = omega arith in
        rw (p, q) (ap (bit (number bytes * 256 + b)) (sym r) ∙ sym (field-field (number bytes * 256 + b) 0 8 n 1 (omega arith)) ∙ ap (λ (x : ℕ). bit x n) o)
    go ih (no s) =
        let p : n / 8 ≡ suc ((n - 8) / 8) = omega arith in
        let q : n % 8 ≡ (n - 8) % 8 = omega arith in
        let r : n ≡ 8 + (n - 8) = omega arith in
        rw (p, q)
        (ap (bit (number bytes * 256 + b)) r ∙ ap (λ (x : ℕ). x % 2) (sym (shr-shr (number bytes * 256 + b) 8 (n - 8)))
        ∙ ap (λ (x : ℕ). bit x (n - 8)) (high (number bytes) 8 (h 0)) ∙ ih)

-- ---- a part of the bytes

-- The number splits in the first i bytes and, above them, the rest.
pub number-split : (bytes : List ℕ) (i : ℕ) → number bytes ≡ number (drop i bytes) * 2 ^ (8 * i) + number (take i bytes)
number-split bytes zero = omega arith
number-split [] (suc i) = omega arith
number-split (b ∷ bytes) (suc i) =
    let ih : number bytes ≡ number (drop i bytes) * 2 ^ (8 * i) + number (take i bytes) = number-split bytes i in
    let e : number (drop i bytes) * 2 ^ (8 * suc i) ≡ number (drop i bytes) * 2 ^ (8 * i) * 256 =
    ap (λ (x : ℕ). number (drop i bytes) * x) (pow-byte i) ∙ sym (mul_assoc (number (drop i bytes)) (2 ^ (8 * i)) 256) in
    omega arith

front-lt : (bytes : List ℕ) (i : ℕ) → Bytes bytes → number (take i bytes) < 2 ^ (8 * i)
front-lt bytes zero h = omega arith
front-lt [] (suc i) h = pow_pos (8 * suc i)
front-lt (b ∷ bytes) (suc i) h = rw (pow-byte i) (digits_lt (front-lt bytes i (λ j. h (suc j))) (h 0))

module _ (bytes : List ℕ) (hb : Bytes bytes) where
  pub number-drop : (i : ℕ) → number (drop i bytes) ≡ number bytes / 2 ^ (8 * i)
  number-drop i = sym (ap (λ (x : ℕ). x / 2 ^ (8 * i)) (number-split bytes i) ∙ high (number (drop i bytes)) (8 * i) (front-lt bytes i hb))

  pub number-take : (i : ℕ) → number (take i bytes) ≡ number bytes % 2 ^ (8 * i)
  number-take i = sym (ap (λ (x : ℕ). x % 2 ^ (8 * i)) (number-split bytes i) ∙ low (number (drop i bytes)) (8 * i) (front-lt bytes i hb))

-- Bytes i to i + n are a field.
pub number-part : (bytes : List ℕ) → Bytes bytes → (i n : ℕ) → number (take n (drop i bytes)) ≡ field_at (number bytes) (8 * i) (8 * n)
number-part bytes hb i n =
    number-take (drop i bytes) (bytes_drop i bytes hb) n ∙ ap (λ (x : ℕ). x % 2 ^ (8 * n)) (number-drop bytes hb i)

module _ (bytes : List ℕ) (hb : Bytes bytes) (i : ℕ) (hi : i < length bytes) where
  pub number_at : field_at (number bytes) (8 * i) 8 ≡ get_or bytes i 0
  number_at =
      ap (λ (x : ℕ). x % 256) (sym (number-drop bytes hb i)) ∙ ap (λ (x : List ℕ). number x % 256) (drop-cons bytes i 0 hi)
      ∙ low (number (drop (suc i) bytes)) 8 (hb i)

  drop-set : (b : ℕ) → drop i (set bytes i b) ≡ b ∷ drop (suc i) bytes
  drop-set b =
      drop-cons (set bytes i b) i 0 (omega (arith, length-set bytes i b))
      ∙ ap₂ {C = List ℕ} (λ x y. x ∷ y) (get_or-set_same bytes i b 0 hi) (drop-set-lt (suc i) bytes i b (le_refl (suc i)))

  -- Storing a byte is putting a field of 8 bits.
  pub number-set : (b : ℕ) → number (set bytes i b) ≡ put_at (number bytes) (8 * i) 8 b
  number-set b =
      let D : ℕ = number (drop (suc i) bytes) in
      let P : ℕ = 2 ^ (8 * i) in
      let q : 2 ^ (8 + 8 * i) ≡ 256 * P = pow-add 2 8 (8 * i) in
      let hd : D ≡ number bytes / 2 ^ (8 + 8 * i) = number-drop bytes hb (suc i) ∙ ap (λ (x : ℕ). number bytes / 2 ^ x) (omega arith) in
      number-split (set bytes i b) i
      ∙ ap₂ (λ (x y : List ℕ). number x * P + number y) (drop-set b) (take-set-le i bytes i b (le_refl i))
      ∙ ap₂ (λ (x y : ℕ). x + y) (add-mul (D * 256) b P ∙ ap (λ (x : ℕ). x + b * P) (mul_assoc D 256 P ∙ ap₂ (λ (x y : ℕ). x * y) hd (sym q)))
      (number-take bytes hb i)
      ∙ add_assoc _ _ _
