-- Laws of bytes written into a buffer in order, and of the bytes of entries.
use Rattle.index.proofs.Names.{◌≡◌, refl, sym, ap, ap₂, ◌∙◌, List, [], ◌∷◌, ◌++◌, append_assoc, ℕ, zero, suc, ◌+◌, ◌-◌, ◌*◌, ◌/◌, ◌%◌, ◌≤◌, zero-add, add-one, arith, length, take, drop, set, length-append}
use Rattle.index.proofs.Names.{length-drop, length-take-le, take_at, drop_at, drop-drop, sets-eq, bytes_of, Layout, Entry, entry_bytes, laid, entry_of, first_entries}

module _ (buffer : List ℕ) (at : ℕ) (xs : List ℕ) (inside : at + length xs ≤ length buffer) where
  front_length : length (take at buffer ++ xs) ≡ at + length xs
  front_length = omega (arith, length-append (take at buffer) xs, length-take-le at buffer (omega arith))

  pub laid-length : length (laid buffer at xs) ≡ length buffer
  laid-length = omega (arith, length-append (take at buffer ++ xs) (drop (at + length xs) buffer), front_length, length-drop (at + length xs) buffer)

  pub laid_more : (ys : List ℕ) → laid (laid buffer at xs) (at + length xs) ys ≡ laid buffer at (xs ++ ys)
  laid_more ys =
      let front : List ℕ = take at buffer ++ xs in
      let behind : List ℕ = drop (at + length xs) buffer in
      let n : at + length xs + length ys ≡ at + length (xs ++ ys) = omega (arith, length-append xs ys) in
      ap₂ (λ (l r : List ℕ). l ++ ys ++ r) (take_at front behind (at + length xs) front_length)
      (sym (drop-drop (length ys) (at + length xs) (laid buffer at xs)) ∙ ap (drop (length ys)) (drop_at front behind (at + length xs) front_length)
      ∙ drop-drop (length ys) (at + length xs) buffer ∙ ap (λ (k : ℕ). drop k buffer) n)
      ∙ ap (λ (l : List ℕ). l ++ drop (at + length (xs ++ ys)) buffer) (append_assoc (take at buffer) xs ys)

-- From the start of the buffer.
pub laid-start : (buffer bytes : List ℕ) → laid buffer 0 bytes ≡ bytes ++ drop (length bytes) buffer
laid-start buffer bytes = ap (λ (n : ℕ). bytes ++ drop n buffer) (zero-add (length bytes))

-- Over bytes written there earlier.
laid-over : (buffer xs ys : List ℕ) → length xs ≤ length ys → laid (laid buffer 0 xs) 0 ys ≡ laid buffer 0 ys
laid-over buffer xs ys h =
    let k : ℕ = length ys - length xs in
    let n : 0 + length ys ≡ 0 + length xs + k = omega arith in
    ap (λ (l : List ℕ). ys ++ l)
    (ap (λ (m : ℕ). drop m (laid buffer 0 xs)) n
    ∙ sym (drop-drop k (0 + length xs) (laid buffer 0 xs))
    ∙ ap (drop k) (drop_at xs (drop (0 + length xs) buffer) (0 + length xs) (omega arith))
    ∙ drop-drop k (0 + length xs) buffer ∙ ap (λ (m : ℕ). drop m buffer) (sym n))

-- ---- entries

pub bytes_count : (es : List Entry) → length (entry_bytes es) ≡ 4 * length es
bytes_count [] = refl
bytes_count (e ∷ es) = omega (arith, bytes_count es)

pub bytes-append : (es gs : List Entry) → entry_bytes (es ++ gs) ≡ entry_bytes es ++ entry_bytes gs
bytes-append [] gs = refl
bytes-append (e ∷ es) gs =
    ap (λ (q : List ℕ). e.offset % 256 ∷ e.offset / 256 % 256 ∷ e.length % 256 ∷ e.length / 256 % 256 ∷ q) (bytes-append es gs)

-- Two bytes stored one after the other.
pub two-laid : (index : List ℕ) (at word : ℕ) {low high : ℕ} → at + 2 ≤ length index → low ≡ word % 256 → high ≡ word / 256 % 256 →
    set (set index at low) (at + 1) high ≡ laid index at (bytes_of 2 word)
two-laid index at word inside l h =
    let next : at + 1 ≡ suc at = omega arith in
    rw (next, l, h) (sets-eq (bytes_of 2 word) index at inside)

-- ---- entries in order

pub first-length : (layout : Layout) (n : ℕ) → length (first_entries layout n) ≡ n
first-length layout zero = refl
first-length layout (suc n) = omega (arith, length-append (first_entries layout n) (entry_of layout n ∷ []), first-length layout n)

module _ (layout : Layout) where
  abbrev bytes : ℕ → List ℕ
  bytes n = entry_bytes (first_entries layout n)

  bytes-length : (n : ℕ) → length (bytes n) ≡ 4 * n
  bytes-length n = omega (arith, bytes_count (first_entries layout n), first-length layout n)

  pub first-long : (buffer : List ℕ) (n : ℕ) → 4 * n ≤ length buffer → length (laid buffer 0 (bytes n)) ≡ length buffer
  first-long buffer n inside = laid-length buffer 0 (bytes n) (omega (arith, bytes-length n))

  -- More entries written over fewer.
  pub first-over : (buffer : List ℕ) (m n : ℕ) → m ≤ n → laid (laid buffer 0 (bytes m)) 0 (bytes n) ≡ laid buffer 0 (bytes n)
  first-over buffer m n h = laid-over buffer (bytes m) (bytes n) (omega (arith, bytes-length m, bytes-length n))

  -- A buffer with the first entries written begins with them.
  pub first-begun : (buffer index : List ℕ) (n : ℕ) → index ≡ laid buffer 0 (bytes n) → index ≡ laid index 0 (bytes n)
  first-begun buffer index n e = e ∙ sym (first-over buffer n n (omega arith)) ∙ ap (λ (l : List ℕ). laid l 0 (bytes n)) (sym e)

  -- One more entry, written after them.
  pub first_more : (buffer : List ℕ) {index after : List ℕ} {e : Entry} (i : ℕ) → 4 * i ≤ length buffer → index ≡ laid buffer 0 (bytes i) → e ≡ entry_of layout i →
      after ≡ laid index (4 * i) (entry_bytes (e ∷ [])) → after ≡ laid buffer 0 (bytes (i + 1))
  first_more buffer {index} {after} {e} i inside before here step =
      let n : 4 * i ≡ 0 + length (bytes i) = omega (arith, bytes-length i) in
      let new : List ℕ = entry_bytes (entry_of layout i ∷ []) in
      step ∙ ap (λ (x : Entry). laid index (4 * i) (entry_bytes (x ∷ []))) here
      ∙ ap₂ (λ (l : List ℕ) (k : ℕ). laid l k new) before n
      ∙ laid_more buffer 0 (bytes i) (omega arith) new
      ∙ ap (laid buffer 0) (sym (bytes-append (first_entries layout i) (entry_of layout i ∷ [])))
      ∙ ap (λ (k : ℕ). laid buffer 0 (bytes k)) (sym (add-one i))
