-- Laws of zeros of either sign in products and sums. They let the
-- nested rule begin at a power whose coefficient is 0. Any format.
use Rattle.figures.proofs.Names.{◌≡◌, refl, sym, ap, ◌∙◌, subst, Bool, true, false, not, ◌&&◌, cond, ℕ, zero, suc, ◌+◌, ◌-◌, ◌*◌, ◌^◌, ◌≤◌, ◌<◌, not-le_of_lt, mul-le-mul_right, mul-lt-mul_of_pos_right, mul-pos}
use Rattle.figures.proofs.Names.{arith, T, ltb, ltb→lt, nltb→le, pow_pos, Float, nan, inf, fin, Format, prec, low, up, down, unlike, round, sum, add, mul, fits, down_pos, HasValue, round_exact, finite, overflow}
use Rattle.figures.proofs.Names.{round_same, le_of_mul-le-mul_right, mul-le-mul_left, grid, two, two-le_pos, lit≤, binary32, binary64, ◌⊎◌, inl, inr}
use borrow.Author.Tests.{lt-ltb, le-ltb}
use Rattle.figures.proofs.Signed.{round-none}
use Rattle.figures.proofs.Monotone.{minus-none}
use Rattle.figures.proofs.Operations.{mul-value, InUnits, in-units}
use Rattle.figures.proofs.Rounding.{Half, Near, rounded-near}

-- ---- a sum, for any fractions equal to the two values

module _ (f : Format) (A B C A' B' C' : ℕ) (some : 0 < C) (some' : 0 < C') (a : A * C' ≡ A' * C) (b : B * C' ≡ B' * C) where
  less : A < B → B' ≤ A' → ⊥
  less l g = not-le_of_lt (mul-lt-mul_of_pos_right l some') (omega (arith, a, b, mul-le-mul_right C g))

  more : B ≤ A → A' < B' → ⊥
  more g l = not-le_of_lt (mul-lt-mul_of_pos_right l some) (omega (arith, a, b, mul-le-mul_right C' g))

  over : (s : Bool) → round f s (A + B) C ≡ round f s (A' + B') C'
  over s = round_same f s (A + B) C (A' + B') C' some some' (omega (arith, a, b))

  rest : (n n' : ℕ) → B ≡ A + n → B' ≡ A' + n' → n * C' ≡ n' * C
  rest n n' p p' = omega (arith, a, b, ap (λ (z : ℕ). z * C') p, ap (λ (z : ℕ). z * C) p')

  past : (n n' : ℕ) → A ≡ B + n → A' ≡ B' + n' → n * C' ≡ n' * C
  past n n' p p' = omega (arith, a, b, ap (λ (z : ℕ). z * C') p, ap (λ (z : ℕ). z * C) p')

  up_by : (s : Bool) → A ≤ B → A' ≤ B' → round f s (B - A) C ≡ round f s (B' - A') C'
  up_by s l l' = round_same f s (B - A) C (B' - A') C' some some' (rest (B - A) (B' - A') (omega arith) (omega arith))

  down_by : (s : Bool) → B ≤ A → B' ≤ A' → round f s (A - B) C ≡ round f s (A' - B') C'
  down_by s l l' = round_same f s (A - B) C (A' - B') C' some some' (past (A - B) (A' - B') (omega arith) (omega arith))

  -- The sign of a sum is that of the larger; if the two cancel it is plus.
  signed : (s : Bool) → B ≤ A → B' ≤ A' → round f (s && ltb B A) (A - B) C ≡ round f (s && ltb B' A') (A' - B') C'
  signed false l l' = down_by false l l'
  signed true l l' = go (ltb B A) (ltb B' A') (ltb→lt B A) (nltb→le B A) (ltb→lt B' A') (nltb→le B' A')
    where
      go : (o o' : Bool) → (T o → B < A) → (T (not o) → A ≤ B) → (T o' → B' < A') → (T (not o') → A' ≤ B') → round f (true && o) (A - B) C ≡ round f (true && o') (A' - B') C'
      go true true h k h' k' = down_by true l l'
      go false false h k h' k' = down_by false l l'
      go true false h k h' k' = absurd (not-le_of_lt (mul-lt-mul_of_pos_right (h tt) some') (omega (arith, a, b, mul-le-mul_right C (k' tt))))
      go false true h k h' k' = absurd (not-le_of_lt (mul-lt-mul_of_pos_right (h' tt) some) (omega (arith, a, b, mul-le-mul_right C' (k tt))))

  apart : (s t : Bool) → cond (ltb A B) (round f t (B - A) C) (round f (s && ltb B A) (A - B) C) ≡ cond (ltb A' B') (round f t (B' - A') C') (round f (s && ltb B' A') (A' - B') C')
  apart s t = go (ltb A B) (ltb A' B') (ltb→lt A B) (nltb→le A B) (ltb→lt A' B') (nltb→le A' B')
    where
      go : (o o' : Bool) → (T o → A < B) → (T (not o) → B ≤ A) → (T o' → A' < B') → (T (not o') → B' ≤ A') →
          cond o (round f t (B - A) C) (round f (s && ltb B A) (A - B) C) ≡ cond o' (round f t (B' - A') C') (round f (s && ltb B' A') (A' - B') C')
      go true true h k h' k' = up_by t (omega (arith, h tt)) (omega (arith, h' tt))
      go false false h k h' k' = signed s (k tt) (k' tt)
      go true false h k h' k' = absurd (less (h tt) (k' tt))
      go false true h k h' k' = absurd (more (k tt) (h' tt))

  -- Equal fractions have equal sums.
  pub sum_same : (s t : Bool) → sum f s A t B C ≡ sum f s A' t B' C'
  unfolding sum
  sum_same false false = over false
  sum_same true true = over true
  sum_same false true = apart false true
  sum_same true false = apart true false

module _ (f : Format) (s t : Bool) (a c b d : ℕ) (hc : 0 < c) (hd : 0 < d) where
  pub add-value : (x y : Float) → HasValue x s a c → HasValue y t b d → add f x y ≡ sum f s (a * d) t (b * c) (c * d)
  unfolding add
  add-value nan y p q = absurd p
  add-value (inf s') y p q = absurd p
  add-value (fin s' m e) nan p q = absurd q
  add-value (fin s' m e) (inf t') p q = absurd q
  add-value (fin s' m e) (fin t' n k) p q =
      rw (p.0, q.0)
      (sum_same f (m * up e * down k) (n * up k * down e) (down e * down k) (a * d) (b * c) (c * d) (mul-pos (down_pos e) (down_pos k)) (mul-pos hc hd)
      (omega (arith, ap (λ (z : ℕ). z * (down k * d)) p.1)) (omega (arith, ap (λ (z : ℕ). z * (down e * c)) q.1)) s t)

-- ---- zeros

pub round-zero : (f : Format) (s : Bool) (c : ℕ) → 0 < c → HasValue (round f s 0 c) s 0 1
round-zero f false c some = subst (λ (z : Float). HasValue z false 0 1) (sym (round-none f c some)) (refl, refl)
round-zero f true c some = subst (λ (z : Float). HasValue z true 0 1) (sym (minus-none f c some)) (refl, refl)

-- Two zeros.
zero-sum : (f : Format) (s t : Bool) (C : ℕ) → 0 < C → HasValue (sum f s 0 t 0 C) (s && t) 0 1
unfolding sum
zero-sum f false false C some = round-zero f false C some
zero-sum f false true C some = round-zero f false C some
zero-sum f true false C some = round-zero f false C some
zero-sum f true true C some = round-zero f true C some

-- A zero, and a number that is not zero.
left-zero : (f : Format) (s t : Bool) (b C : ℕ) → sum f s 0 t (suc b) C ≡ round f t (suc b) C
unfolding sum
left-zero f false false b C = ap (λ (n : ℕ). round f false n C) {x = 0 + suc b} {y = suc b} (omega arith)
left-zero f false true b C = rw (lt-ltb 0 (suc b) (omega arith)) (ap (λ (n : ℕ). round f true n C) {x = suc b - 0} {y = suc b} (omega arith))
left-zero f true false b C = rw (lt-ltb 0 (suc b) (omega arith)) (ap (λ (n : ℕ). round f false n C) {x = suc b - 0} {y = suc b} (omega arith))
left-zero f true true b C = ap (λ (n : ℕ). round f true n C) {x = 0 + suc b} {y = suc b} (omega arith)

right_zero : (f : Format) (s t : Bool) (a C : ℕ) → sum f s (suc a) t 0 C ≡ round f s (suc a) C
unfolding sum
right_zero f false false a C = ap (λ (n : ℕ). round f false n C) {x = suc a + 0} {y = suc a} (omega arith)
right_zero f false true a C = rw (le-ltb (suc a) 0 (omega arith)) (ap (λ (n : ℕ). round f false n C) {x = suc a - 0} {y = suc a} (omega arith))
right_zero f true false a C = rw (le-ltb (suc a) 0 (omega arith), lt-ltb 0 (suc a) (omega arith)) (ap (λ (n : ℕ). round f true n C) {x = suc a - 0} {y = suc a} (omega arith))
right_zero f true true a C = ap (λ (n : ℕ). round f true n C) {x = suc a + 0} {y = suc a} (omega arith)

-- The sum of +0 and a zero is +0.
plus-zero : (f : Format) (t : Bool) (C : ℕ) → sum f false 0 t 0 C ≡ round f false 0 C
unfolding sum
plus-zero f false C = refl
plus-zero f true C = refl

-- ---- values that products and sums do not distinguish

pub data Alike (x y : Float) : Type 0 where
  same : x ≡ y → Alike x y
  equal : (s : Bool) (a c : ℕ) → 0 < c → HasValue x s a c → HasValue y s a c → Alike x y
  zeros : (s t : Bool) → HasValue x s 0 1 → HasValue y t 0 1 → Alike x y

module _ (f : Format) (y : Float) (t : Bool) (b d : ℕ) (hd : 0 < d) (q : HasValue y t b d) where
  pub zero-times : (x : Float) (s : Bool) → HasValue x s 0 1 → HasValue (mul f x y) (unlike s t) 0 1
  zero-times x s p =
      subst (λ (z : Float). HasValue z (unlike s t) 0 1) (sym (mul-value f s t 0 1 b d (omega arith) hd x y p q))
      (subst (λ (n : ℕ). HasValue (round f (unlike s t) n (1 * d)) (unlike s t) 0 1) {x = 0} {y = 0 * b} (omega arith) (round-zero f (unlike s t) (1 * d) (omega arith)))

  pub mul-alike : (x x' : Float) → Alike x x' → Alike (mul f x y) (mul f x' y)
  mul-alike x x' (same e) = same (ap (λ (z : Float). mul f z y) e)
  mul-alike x x' (equal s a c some p p') = same (mul-value f s t a c b d some hd x y p q ∙ sym (mul-value f s t a c b d some hd x' y p' q))
  mul-alike x x' (zeros s s' p p') = zeros (unlike s t) (unlike s' t) (zero-times x s p) (zero-times x' s' p')

-- A zero and a number y.
pub zero-plus-zero : (f : Format) (x y : Float) (s t : Bool) (d : ℕ) → 0 < d → HasValue x s 0 1 → HasValue y t 0 d → HasValue (add f x y) (s && t) 0 1
zero-plus-zero f x y s t d hd p q =
    subst (λ (z : Float). HasValue z (s && t) 0 1) (sym (add-value f s t 0 1 0 d (omega arith) hd x y p q))
    (subst (λ (n : ℕ). HasValue (sum f s n t (0 * 1) (1 * d)) (s && t) 0 1) {x = 0} {y = 0 * d} (omega arith) (zero-sum f s t (1 * d) (omega arith)))

zero-plus : (f : Format) (x y : Float) (s t : Bool) (b d : ℕ) → 0 < d → HasValue x s 0 1 → HasValue y t (suc b) d → add f x y ≡ round f t (suc b) d
zero-plus f x y s t b d hd p q =
    add-value f s t 0 1 (suc b) d (omega arith) hd x y p q
    ∙ ap (λ (n : ℕ). sum f s n t (suc b * 1) (1 * d)) {x = 0 * d} {y = 0} (omega arith)
    ∙ ap (λ (n : ℕ). sum f s 0 t n (1 * d)) {x = suc b * 1} {y = suc b} (omega arith)
    ∙ left-zero f s t b (1 * d)
    ∙ ap (λ (n : ℕ). round f t (suc b) n) {x = 1 * d} {y = d} (omega arith)

pub add-alike : (f : Format) (x x' y : Float) (t : Bool) (b d : ℕ) → 0 < d → HasValue y t b d → Alike x x' → Alike (add f x y) (add f x' y)
add-alike f x x' y t b d hd q (same e) = same (ap (λ (z : Float). add f z y) e)
add-alike f x x' y t b d hd q (equal s a c some p p') = same (add-value f s t a c b d some hd x y p q ∙ sym (add-value f s t a c b d some hd x' y p' q))
add-alike f x x' y t zero d hd q (zeros s s' p p') = zeros (s && t) (s' && t) (zero-plus-zero f x y s t d hd p q) (zero-plus-zero f x' y s' t d hd p' q)
add-alike f x x' y t (suc b) d hd q (zeros s s' p p') = same (zero-plus f x y s t b d hd p q ∙ sym (zero-plus f x' y s' t b d hd p' q))

-- A number that is not −0, and two values that are not distinguished.
pub plus-alike : (f : Format) (x y y' : Float) (s : Bool) (a c : ℕ) → 0 < c → HasValue x s a c → (a ≡ 0 → s ≡ false) → Alike y y' → add f x y ≡ add f x y'
plus-alike f x y y' s a c hc p plain (same e) = ap (add f x) e
plus-alike f x y y' s a c hc p plain (equal t b d some q q') = add-value f s t a c b d hc some x y p q ∙ sym (add-value f s t a c b d hc some x y' p q')
plus-alike f x y y' s a c hc p plain (zeros t t' q q') = to-plain a t y p plain q ∙ sym (to-plain a t' y' p plain q')
  where
    to-plain : (a : ℕ) (t : Bool) (y : Float) → HasValue x s a c → (a ≡ 0 → s ≡ false) → HasValue y t 0 1 → add f x y ≡ round f s a c
    to-plain zero t y p plain q =
        add-value f s t 0 c 0 1 hc (omega arith) x y p q
        ∙ ap (λ (n : ℕ). sum f s (0 * 1) t n (c * 1)) {x = 0 * c} {y = 0} (omega arith)
        ∙ ap (λ (z : Bool). sum f z 0 t 0 (c * 1)) (plain refl)
        ∙ plus-zero f t (c * 1)
        ∙ ap (λ (n : ℕ). round f false 0 n) {x = c * 1} {y = c} (omega arith)
        ∙ ap (λ (z : Bool). round f z 0 c) (sym (plain refl))
    to-plain (suc a) t y p plain q =
        add-value f s t (suc a) c 0 1 hc (omega arith) x y p q
        ∙ ap (λ (n : ℕ). sum f s n t (0 * c) (c * 1)) {x = suc a * 1} {y = suc a} (omega arith)
        ∙ ap (λ (n : ℕ). sum f s (suc a) t n (c * 1)) {x = 0 * c} {y = 0} (omega arith)
        ∙ right_zero f s t a (c * 1)
        ∙ ap (λ (n : ℕ). round f s (suc a) n) {x = c * 1} {y = c} (omega arith)

-- ---- a zero and a number of the format

pub zero-plus-held : (f : Format) (x y : Float) (s : Bool) → HasValue x s 0 1 → T (fits f y) → T (finite y) → Alike (add f x y) y
zero-plus-held f x y s p h k = go u.count u.value u.less u.is
  where
    u : InUnits f y
    u = in-units f y h k

    go : (n : ℕ) → HasValue y u.negative n (2 ^ low f) → n < overflow f → n ≡ u.digits * 2 ^ u.shift → Alike (add f x y) y
    go zero q l e = zeros (s && u.negative) u.negative (zero-plus-zero f x y s u.negative (2 ^ low f) (pow_pos (low f)) p q) (none y q)
      where
        none : (y : Float) → HasValue y u.negative 0 (2 ^ low f) → HasValue y u.negative 0 1
        none nan q = q
        none (inf t) q = q
        none (fin t m e) q = (q.0, omega (arith, le_of_mul-le-mul_right {m = m * up e} {n = 0} {k = 2 ^ low f} (omega (arith, q.1)) (pow_pos (low f))))
    go (suc b) q l e =
        equal u.negative (suc b) (2 ^ low f) (pow_pos (low f))
        (subst (λ (z : Float). HasValue z u.negative (suc b) (2 ^ low f)) (sym (zero-plus f x y s u.negative b (2 ^ low f) (pow_pos (low f)) p q))
        (round_exact f u.negative (suc b) (2 ^ low f) u.digits u.shift (pow_pos (low f)) u.few (rw e at l) (ap (λ (z : ℕ). z * 2 ^ low f) e)))
        q

-- ---- a quotient that is not zero

-- A value of at least a unit is not rounded to 0.
pub grid-some : (f : Format) (n c : ℕ) → 0 < c → c < n * 2 ^ low f * 2 → grid f n c ≡ 0 → ⊥
grid-some f n c some more e = go (rounded-near (prec f) (two-le_pos (prec f) (two f)) (n * 2 ^ low f) c some)
  where
    four : (f : Format) → 4 ≤ 2 ^ prec f
    four binary32 = lit≤ tt
    four binary64 = lit≤ tt

    go : Half (n * 2 ^ low f) c (grid f n c) ⊎ Near (prec f) (n * 2 ^ low f) c (grid f n c) → ⊥
    go (inl u) = absurd (omega (arith, u.low, more, ap (λ (z : ℕ). z * c) e))
    go (inr u) = absurd (omega (arith, u.low, more, ap (λ (z : ℕ). z * c * 2 ^ prec f) e, mul-le-mul_left (n * 2 ^ low f) (four f)))
