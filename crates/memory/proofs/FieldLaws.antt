-- Laws of the fields of a number: reading one, putting one, and what a put leaves unchanged.
use Rattle.memory.proofs.Names.{◌≡◌, sym, ap, ap₂, ◌∙◌, ℕ, ◌+◌, ◌-◌, ◌*◌, ◌/◌, ◌%◌, ◌^◌, ◌≤◌, ◌<◌, add-mul, mul_assoc, add_assoc, add_comm, mod-lt, arith, digits_lt, pow_pos, pow-add, split, high, low}
use Rattle.memory.proofs.Names.{mod-pow-add, field, mod-mod-pow, shr-shr, shr_lt, bit, field_at, put_at}

-- ---- reading

pub field_lt : (N n w : ℕ) → field_at N n w < 2 ^ w
field_lt N n w = mod-lt (N / 2 ^ n) (pow_pos w)

-- A field of v + w bits is v bits above w bits.
pub field-add : (N n v w : ℕ) → field_at N n (v + w) ≡ field_at N (n + w) v * 2 ^ w + field_at N n w
field-add N n v w = mod-pow-add (N / 2 ^ n) v w ∙ ap (λ (x : ℕ). x % 2 ^ v * 2 ^ w + field_at N n w) (shr-shr N n w)

-- A field of a field.
pub field-field : (N n w m v : ℕ) → v + m ≤ w → field_at (field_at N n w) m v ≡ field_at N (n + m) v
field-field N n w m v h =
    let e : w ≡ (w - (v + m)) + v + m = omega arith in
    ap (λ (k : ℕ). N / 2 ^ n % 2 ^ k / 2 ^ m % 2 ^ v) e
    ∙ ap (λ (x : ℕ). x % 2 ^ v) (field (N / 2 ^ n) (w - (v + m) + v) m)
    ∙ mod-mod-pow (N / 2 ^ n / 2 ^ m) (w - (v + m)) v
    ∙ ap (λ (x : ℕ). x % 2 ^ v) (shr-shr N n m)

-- Bit i of a field is bit i from the field's first bit on.
pub field-bit : (N n w i : ℕ) → i < w → bit (field_at N n w) i ≡ bit N (n + i)
field-bit N n w i h = field-field N n w i 1 (omega arith)

-- Two numbers with the same first S bits have the same fields there.
pub field-mod : (A B S : ℕ) → A % 2 ^ S ≡ B % 2 ^ S → (n w : ℕ) → n + w ≤ S → field_at A n w ≡ field_at B n w
field-mod A B S e n w h = within A ∙ ap (λ (x : ℕ). x % 2 ^ (w + n) / 2 ^ n) e ∙ sym (within B)
  where
    k : S ≡ (S - (w + n)) + (w + n)
    k = omega arith

    within : (M : ℕ) → field_at M n w ≡ M % 2 ^ S % 2 ^ (w + n) / 2 ^ n
    within M =
        sym (field M w n) ∙ ap (λ (x : ℕ). x / 2 ^ n) (sym (mod-mod-pow M (S - (w + n)) (w + n)))
        ∙ ap (λ (j : ℕ). M % 2 ^ j % 2 ^ (w + n) / 2 ^ n) (sym k)

-- Two digits are determined by their number.
pub digits : (x y w : ℕ) {c d : ℕ} → c < 2 ^ w → d < 2 ^ w → x * 2 ^ w + c ≡ y * 2 ^ w + d → (x ≡ y) × (c ≡ d)
digits x y w hc hd e =
    (sym (high x w hc) ∙ ap (λ (n : ℕ). n / 2 ^ w) e ∙ high y w hd, sym (low x w hc) ∙ ap (λ (n : ℕ). n % 2 ^ w) e ∙ low y w hd)

-- A number is determined by the part above a field, the field, and the part below it.
pub parts-ext : (A B n w : ℕ) → A / 2 ^ (w + n) ≡ B / 2 ^ (w + n) → field_at A n w ≡ field_at B n w → A % 2 ^ n ≡ B % 2 ^ n → A ≡ B
parts-ext A B n w h f l =
    sym (split A (w + n))
    ∙ ap₂ (λ (x y : ℕ). x * 2 ^ (w + n) + y) h
    (mod-pow-add A w n ∙ ap₂ (λ (x y : ℕ). x * 2 ^ n + y) f l ∙ sym (mod-pow-add B w n))
    ∙ split B (w + n)

-- ---- putting

module _ (N n w code : ℕ) (hc : code < 2 ^ w) where
  pub low-lt : code * 2 ^ n + N % 2 ^ n < 2 ^ (w + n)
  low-lt = rw (pow-add 2 w n) (digits_lt hc (mod-lt N (pow_pos n)))

  -- The part above the field is unchanged.
  pub put-high : put_at N n w code / 2 ^ (w + n) ≡ N / 2 ^ (w + n)
  put-high = high (N / 2 ^ (w + n)) (w + n) low-lt

  pub put_low : put_at N n w code % 2 ^ (w + n) ≡ code * 2 ^ n + N % 2 ^ n
  put_low = low (N / 2 ^ (w + n)) (w + n) low-lt

  -- The field reads back the code that was put.
  pub put-field : field_at (put_at N n w code) n w ≡ code
  put-field =
      sym (field (put_at N n w code) w n) ∙ ap (λ (x : ℕ). x / 2 ^ n) put_low ∙ high code n (mod-lt N (pow_pos n))

  -- The part below the field is unchanged.
  pub put-below : put_at N n w code % 2 ^ n ≡ N % 2 ^ n
  put-below =
      sym (mod-mod-pow (put_at N n w code) w n) ∙ ap (λ (x : ℕ). x % 2 ^ n) put_low ∙ low code n (mod-lt N (pow_pos n))

  -- From any bit after the field on, all is unchanged.
  pub put-shr : (m : ℕ) → n + w ≤ m → put_at N n w code / 2 ^ m ≡ N / 2 ^ m
  put-shr m h = from (put_at N n w code) ∙ ap (λ (x : ℕ). x / 2 ^ (m - (w + n))) put-high ∙ sym (from N)
    where
      from : (M : ℕ) → M / 2 ^ m ≡ M / 2 ^ (w + n) / 2 ^ (m - (w + n))
      from M =
          let e : m ≡ (w + n) + (m - (w + n)) = omega arith in
          ap (λ (k : ℕ). M / 2 ^ k) e ∙ sym (shr-shr M (w + n) (m - (w + n)))

  -- A field that does not overlap is unchanged, after the put field or before it.
  pub put-after : (m v : ℕ) → n + w ≤ m → field_at (put_at N n w code) m v ≡ field_at N m v
  put-after m v h = ap (λ (x : ℕ). x % 2 ^ v) (put-shr m h)

  pub put-before : (m v : ℕ) → m + v ≤ n → field_at (put_at N n w code) m v ≡ field_at N m v
  put-before = field-mod (put_at N n w code) N n put-below

  -- A put within the first S bits leaves the number within them.
  pub put-lt : (S : ℕ) → N < 2 ^ S → n + w ≤ S → put_at N n w code < 2 ^ S
  put-lt S hN h =
      let e : S ≡ (S - (w + n)) + (w + n) = omega arith in
      let g : N < 2 ^ ((S - (w + n)) + (w + n)) = rw (← e) hN in
      rw (e, pow-add 2 (S - (w + n)) (w + n)) (digits_lt (shr_lt (S - (w + n)) (w + n) g) low-lt)

  -- The first S bits after a put.
  pub put-mod : (S : ℕ) → n + w ≤ S → put_at N n w code % 2 ^ S ≡ put_at (N % 2 ^ S) n w code
  put-mod S h =
      let u : ℕ = S - (w + n) in
      let e : S ≡ u + (w + n) = omega arith in
      let f : S ≡ (S - n) + n = omega arith in
      ap (λ (k : ℕ). put_at N n w code % 2 ^ k) e
      ∙ mod-pow-add (put_at N n w code) u (w + n)
      ∙ ap₂ (λ (x y : ℕ). x % 2 ^ u * 2 ^ (w + n) + y) put-high put_low
      ∙ sym (ap₂ (λ (x y : ℕ). x * 2 ^ (w + n) + (code * 2 ^ n + y))
      (ap (λ (k : ℕ). N % 2 ^ k / 2 ^ (w + n)) e ∙ field N u (w + n))
      (ap (λ (k : ℕ). N % 2 ^ k % 2 ^ n) f ∙ mod-mod-pow N (S - n) n))

-- Putting the code that is there changes nothing.
pub put_same : (N n w : ℕ) → put_at N n w (field_at N n w) ≡ N
put_same N n w =
    let h : field_at N n w < 2 ^ w = field_lt N n w in
    parts-ext _ N n w (put-high N n w _ h) (put-field N n w _ h) (put-below N n w _ h)

-- Two fields side by side are one.
pub put-put : (N n v w c d : ℕ) → c < 2 ^ w → put_at (put_at N n w c) (w + n) v d ≡ put_at N n (v + w) (d * 2 ^ w + c)
put-put N n v w c d hc =
    let P : ℕ = put_at N n w c in
    let h : P / 2 ^ (v + (w + n)) ≡ N / 2 ^ (v + w + n) =
    ap (λ (k : ℕ). P / 2 ^ k) (add_comm v (w + n)) ∙ put-shr N n w c hc (w + n + v) (omega arith) ∙ ap (λ (k : ℕ). N / 2 ^ k) (omega arith) in
    ap₂ (λ (p q : ℕ). p + q)
    (ap₂ (λ (p q : ℕ). p * 2 ^ q) h (sym (add_assoc v w n)))
    (ap (λ (q : ℕ). d * 2 ^ (w + n) + q) (put_low N n w c hc)
    ∙ ap (λ (q : ℕ). q + (c * 2 ^ n + N % 2 ^ n)) (ap (λ (k : ℕ). d * k) (pow-add 2 w n) ∙ sym (mul_assoc d (2 ^ w) (2 ^ n)))
    ∙ sym (add_assoc (d * 2 ^ w * 2 ^ n) (c * 2 ^ n) (N % 2 ^ n))
    ∙ ap (λ (q : ℕ). q + N % 2 ^ n) (sym (add-mul (d * 2 ^ w) c (2 ^ n))))

-- A field put into a wider one, and that one put back, is the field put.
pub put-in : (N n w m v code : ℕ) → code < 2 ^ v → v + m ≤ w → put_at N n w (put_at (field_at N n w) m v code) ≡ put_at N (n + m) v code
put-in N n w m v code hc h =
    let e : w ≡ (w - (v + m)) + (v + m) = omega arith in
    ap (λ (k : ℕ). put_at N n k (put_at (field_at N n k) m v code)) e ∙ within (w - (v + m))
  where
    within : (u : ℕ) → put_at N n (u + (v + m)) (put_at (field_at N n (u + (v + m))) m v code) ≡ put_at N (n + m) v code
    within u =
        let F : ℕ = field_at N n (u + (v + m)) in
        let B : ℕ = put_at N (m + n) v code in
        let lo : F % 2 ^ m ≡ field_at N n m =
        ap (λ (k : ℕ). N / 2 ^ n % 2 ^ k % 2 ^ m) (sym (add_assoc u v m)) ∙ mod-mod-pow (N / 2 ^ n) (u + v) m in
        let hi : F / 2 ^ (v + m) ≡ field_at B (v + m + n) u =
        field (N / 2 ^ n) u (v + m) ∙ ap (λ (k : ℕ). k % 2 ^ u) (shr-shr N n (v + m) ∙ ap (λ (k : ℕ). N / 2 ^ k) (omega arith))
        ∙ sym (put-after N (m + n) v code hc (v + m + n) u (omega arith)) in
        sym (put-put N n u (v + m) (code * 2 ^ m + F % 2 ^ m) (F / 2 ^ (v + m)) (low-lt F m v code hc))
        ∙ ap₂ (λ (x y : ℕ). put_at x (v + m + n) u y)
        (sym (put-put N n v m (F % 2 ^ m) code (mod-lt F (pow_pos m)))
        ∙ ap (λ (x : ℕ). put_at x (m + n) v code) (ap (λ (x : ℕ). put_at N n m x) lo ∙ put_same N n m))
        hi
        ∙ put_same B (v + m + n) u
        ∙ ap (λ (k : ℕ). put_at N k v code) (add_comm m n)
