-- Laws of the code's shifts and masks.
use Rattle.stream.proofs.Names.{◌≡◌, sym, ap, ap₂, ◌∙◌, ℕ, ◌+◌, ◌-◌, ◌*◌, ◌/◌, ◌%◌, ◌^◌, ◌≤◌, ◌<◌, mod-lt, le_refl, one-mul, lt_trans, lt_of_le_of_lt, lt_of_lt_of_le, div-mul-le_self, mul_assoc, add_comm, arith}
use Rattle.stream.proofs.Names.{lit<, bit_or, bit_and, or_shifted_r, or_zero_r, or_block, and_mask, and_high, and_block, pow_pos, pow_mono, pow-add, split, mod-mod-pow, ones_lt, ones_split, shr-shr, shr_lt, shr_le}
use Rattle.stream.proofs.Names.{shr_mod, shl_lt, shl_exact, put_at, low-lt}

-- `1 << width`
pub one_shl : (width : ℕ) → width < 64 → 1 * 2 ^ width % 2 ^ 64 ≡ 2 ^ width
one_shl width h = shl_exact 1 width 64 (le_refl 2) (omega arith) ∙ one-mul (2 ^ width)

pub one-shl-pos : (width : ℕ) → width < 64 → 1 ≤ 1 * 2 ^ width % 2 ^ 64
one-shl-pos width h = omega (arith, one_shl width h, pow_pos width)

-- `word & ((1 << width) - 1)`
pub low_bits : (word width : ℕ) → width < 64 → bit_and word (1 * 2 ^ width % 2 ^ 64 - 1) ≡ word % 2 ^ width
low_bits word width h = ap (λ (x : ℕ). bit_and word (x - 1)) (one_shl width h) ∙ and_mask word width

pub low-bits-lt : (word width : ℕ) → width < 64 → bit_and word (1 * 2 ^ width % 2 ^ 64 - 1) < 2 ^ width
low-bits-lt word width h = rw (low_bits word width h) (mod-lt word (pow_pos width))

-- `word >> low`
pub high-bits-lt : (word width low : ℕ) → low ≤ width → word < 2 ^ width → word / 2 ^ low < 2 ^ (width - low)
high-bits-lt word width low h lt =
    let e : width - low + low ≡ width = omega arith in
    shr_lt (width - low) low (rw e lt)

-- `word` with its first `bits` cleared
high_bits : (word bits : ℕ) → word < 2 ^ 64 → bits < 64 → bit_and word (0xffff_ffff_ffff_ffff - (1 * 2 ^ bits % 2 ^ 64 - 1)) ≡ word / 2 ^ bits * 2 ^ bits
high_bits word bits hw h =
    let j : ℕ = 64 - bits in
    let e : 64 ≡ j + bits = omega arith in
    let mask : 0xffff_ffff_ffff_ffff - (1 * 2 ^ bits % 2 ^ 64 - 1) ≡ 2 ^ (j + bits) - 2 ^ bits =
    rw (← e) (omega (arith, one_shl bits h, pow_pos bits)) in
    ap (bit_and word) mask ∙ and_high word j bits ∙ ap (λ (x : ℕ). x * 2 ^ bits) (shr_mod j bits (rw (← e) hw))

-- A word with the 8 bits after its first `bits` removed.
pub left_out : (word bits : ℕ) → word < 2 ^ 64 → bits < 64
    → bit_or (bit_and word (1 * 2 ^ bits % 2 ^ 64 - 1)) (bit_and (word / 2 ^ 8) (0xffff_ffff_ffff_ffff - (1 * 2 ^ bits % 2 ^ 64 - 1)))
    ≡ word / 2 ^ (8 + bits) * 2 ^ bits + word % 2 ^ bits
left_out word bits hw h =
    ap₂ bit_or (low_bits word bits h)
    (high_bits (word / 2 ^ 8) bits (lt_of_le_of_lt (shr_le word 8) hw) h ∙ ap (λ (x : ℕ). x * 2 ^ bits) (shr-shr word 8 bits))
    ∙ or_shifted_r (word / 2 ^ (8 + bits)) bits (word % 2 ^ bits) (mod-lt word (pow_pos bits))

-- A word with a byte inserted after its first `bits`.
pub put-between : (word bits check : ℕ) → word < 2 ^ 56 → bits ≤ 56 → check < 2 ^ 8
    → bit_or (bit_or (bit_and word (1 * 2 ^ bits % 2 ^ 64 - 1)) (check * 2 ^ bits % 2 ^ 64)) (bit_and word (0xffff_ffff_ffff_ffff - (1 * 2 ^ bits % 2 ^ 64 - 1)) * 2 ^ 8 % 2 ^ 64)
    ≡ word / 2 ^ bits * 2 ^ (8 + bits) + (check * 2 ^ bits + word % 2 ^ bits)
put-between word bits check hw h hc =
    let hi : ℕ = word / 2 ^ bits in
    let few : bits < 64 = omega arith in
    let lt : hi * 2 ^ bits < 2 ^ 56 = lt_of_le_of_lt (div-mul-le_self word (2 ^ bits)) hw in
    ap₂ bit_or
    (ap₂ bit_or (low_bits word bits few) (shl_exact 8 bits 64 hc (omega arith)) ∙ or_shifted_r check bits (word % 2 ^ bits) (mod-lt word (pow_pos bits)))
    (ap (λ (x : ℕ). x * 2 ^ 8 % 2 ^ 64) (high_bits word bits (lt_trans hw (lit< tt)) few) ∙ shl_exact 56 8 64 lt (omega arith)
    ∙ mul_assoc hi (2 ^ bits) (2 ^ 8) ∙ ap (λ (x : ℕ). hi * x) (sym (pow-add 2 bits 8) ∙ ap (λ (x : ℕ). 2 ^ x) (add_comm bits 8)))
    ∙ or_shifted_r hi (8 + bits) (check * 2 ^ bits + word % 2 ^ bits) (low-lt word bits 8 check hc)

-- A word with the field of `width` bits at bit `low` cleared, and a code put there.
module _ (word low width code : ℕ) (hn : word < 2 ^ 64) (hw : width < 64) (h : width + low ≤ 64) (hc : code < 2 ^ width) where
  abbrev mask : ℕ
  mask = (1 * 2 ^ width % 2 ^ 64 - 1) * 2 ^ low % 2 ^ 64

  mask_is : mask ≡ (2 ^ width - 1) * 2 ^ low
  mask_is = ap (λ (x : ℕ). (x - 1) * 2 ^ low % 2 ^ 64) (one_shl width hw) ∙ shl_exact width low 64 (ones_lt width) h

  abbrev hi : ℕ
  hi = word / 2 ^ (width + low)

  lo-lt : word % 2 ^ low < 2 ^ (width + low)
  lo-lt = lt_of_lt_of_le (mod-lt word (pow_pos low)) (pow_mono (omega arith))

  cleared : bit_and word (2 ^ 64 - 1 - mask) ≡ hi * 2 ^ (width + low) + word % 2 ^ low
  cleared =
      let j : ℕ = 64 - (width + low) in
      let e : 64 ≡ j + (width + low) = omega arith in
      let outside : 2 ^ 64 - 1 - mask ≡ (2 ^ j - 1) * 2 ^ (width + low) + (2 ^ low - 1) =
      omega (arith, mask_is, ap (λ (n : ℕ). 2 ^ n) e, ones_split j (width + low), ones_split width low) in
      ap₂ bit_and (sym (split word (width + low))) outside
      ∙ and_block (width + low) hi (2 ^ j - 1) (word % 2 ^ (width + low)) (2 ^ low - 1) (mod-lt word (pow_pos (width + low)))
      (lt_of_lt_of_le (ones_lt low) (pow_mono (omega arith)))
      ∙ ap₂ (λ (a b : ℕ). a * 2 ^ (width + low) + b) (and_mask hi j ∙ shr_mod j (width + low) (rw (← e) hn))
      (and_mask (word % 2 ^ (width + low)) low ∙ mod-mod-pow word width low)

  pub put_word : bit_or (bit_and word (2 ^ 64 - 1 - mask)) (code * 2 ^ low % 2 ^ 64) ≡ put_at word low width code
  put_word =
      let at_low : code * 2 ^ low % 2 ^ 64 ≡ 0 * 2 ^ (width + low) + code * 2 ^ low = omega (arith, shl_exact width low 64 hc h) in
      ap₂ bit_or cleared at_low
      ∙ or_block (width + low) hi 0 (word % 2 ^ low) (code * 2 ^ low) lo-lt (shl_lt width low hc)
      ∙ ap₂ (λ (a b : ℕ). a * 2 ^ (width + low) + b) (or_zero_r hi) (or_shifted_r code low (word % 2 ^ low) (mod-lt word (pow_pos low)))
