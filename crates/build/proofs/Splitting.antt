-- Laws of splitting slots into sorts, whole numbers and Singles.
use Rattle.build.proofs.Names.{◌≡◌, refl, ap, ap₂, ◌∙◌, List, [], ◌∷◌, ℕ, suc, ◌+◌, ◌≤◌, ◌<◌, ℕ_discrete, arith, ℤ, pos, Float, nan, length, get_or, set, length-set, get_or-set_same, get_or-set_other, Value, Whole}
use Rattle.build.proofs.Names.{Single, Missing, Slot, Sheet, slot, value_lent, slots_lent, LentLengths, SplitValues, sheet_lent}

-- The first n slots are split; `none` is the slot past the last.
pub record SplitTo (none : Slot) (slots : List Slot) (tags : List ℕ) (wholes : List ℤ) (singles : List Float) (n : ℕ) : Type 0 where
  pub most : n ≤ 21
  pub long : LentLengths tags wholes singles
  pub each : (j : ℕ) → j < n → value_lent tags wholes singles j ≡ (get_or slots j none).value

pub split-none : {none : Slot} {slots : List Slot} {tags : List ℕ} {wholes : List ℤ} {singles : List Float} → LentLengths tags wholes singles → SplitTo none slots tags wholes singles 0
split-none l = record { most = omega arith; long = l; each = λ j h. absurd (omega arith) }

-- One more slot, by its sort.
module _ {none : Slot} {slots : List Slot} {tags : List ℕ} {wholes : List ℤ} {singles : List Float} {n : ℕ} (s : SplitTo none slots tags wholes singles n) (h : n < 21) where
  step : (sorts' : List ℕ) (wholes' : List ℤ) (singles' : List Float) → LentLengths sorts' wholes' singles' →
      ((j : ℕ) → (j ≡ n → ⊥) → value_lent sorts' wholes' singles' j ≡ value_lent tags wholes singles j) →
      value_lent sorts' wholes' singles' n ≡ (get_or slots n none).value → SplitTo none slots sorts' wholes' singles' (n + 1)
  step sorts' wholes' singles' l others here = record { most = omega arith; long = l; each = λ j k. go j k (ℕ_discrete j n) }
    where
      go : (j : ℕ) → j < n + 1 → Dec (j ≡ n) → value_lent sorts' wholes' singles' j ≡ (get_or slots j none).value
      go j k (yes e) = rw e here
      go j k (no e) = others j e ∙ s.each j (omega arith)

  pub spread-whole : {z : ℤ} → (get_or slots n none).value ≡ Whole z → SplitTo none slots (set tags n 0) (set wholes n z) singles (n + 1)
  spread-whole {z} e =
      step (set tags n 0) (set wholes n z) singles
      (record { sorted = length-set tags n 0 ∙ s.long.sorted; whole = length-set wholes n z ∙ s.long.whole; single = s.long.single })
      (λ j no. rw (get_or-set_other tags n j 0 2 no, get_or-set_other wholes n j z (pos 0) no))
      (rw (e, get_or-set_same tags n 0 2 (omega (arith, s.long.sorted)), get_or-set_same wholes n z (pos 0) (omega (arith, s.long.whole))))

  pub spread-single : {x : Float} → (get_or slots n none).value ≡ Single x → SplitTo none slots (set tags n 1) wholes (set singles n x) (n + 1)
  spread-single {x} e =
      step (set tags n 1) wholes (set singles n x)
      (record { sorted = length-set tags n 1 ∙ s.long.sorted; whole = s.long.whole; single = length-set singles n x ∙ s.long.single })
      (λ j no. rw (get_or-set_other tags n j 1 2 no, get_or-set_other singles n j x nan no))
      (rw (e, get_or-set_same tags n 1 2 (omega (arith, s.long.sorted)), get_or-set_same singles n x nan (omega (arith, s.long.single))))

  pub spread-missing : (get_or slots n none).value ≡ Missing → SplitTo none slots (set tags n 2) wholes singles (n + 1)
  spread-missing e =
      step (set tags n 2) wholes singles
      (record { sorted = length-set tags n 2 ∙ s.long.sorted; whole = s.long.whole; single = s.long.single })
      (λ j no. rw (get_or-set_other tags n j 2 2 no))
      (rw (e, get_or-set_same tags n 2 2 (omega (arith, s.long.sorted))))

-- All slots are split.
all-lent : (none : Slot) (slots : List Slot) (tags : List ℕ) (wholes : List ℤ) (singles : List Float) →
    length tags ≡ length slots → length wholes ≡ length slots → length singles ≡ length slots →
    ((j : ℕ) → j < length slots → value_lent tags wholes singles j ≡ (get_or slots j none).value) → slots_lent tags wholes singles ≡ slots
all-lent none [] [] wholes singles a b c f = refl
all-lent none [] (x ∷ tags) wholes singles a b c f = absurd (omega arith)
all-lent none (s ∷ slots) [] wholes singles a b c f = absurd (omega arith)
all-lent none (s ∷ slots) (x ∷ tags) [] singles a b c f = absurd (omega arith)
all-lent none (s ∷ slots) (x ∷ tags) (y ∷ wholes) [] a b c f = absurd (omega arith)
all-lent none (s ∷ slots) (x ∷ tags) (y ∷ wholes) (z ∷ singles) a b c f =
    ap₂ (λ (v : Value) (l : List Slot). slot v ∷ l) (f 0 (omega arith))
    (all-lent none slots tags wholes singles (omega arith) (omega arith) (omega arith) (λ j h. f (suc j) (omega arith)))

pub split-all : {none : Slot} {slots : List Slot} {tags : List ℕ} {wholes : List ℤ} {singles : List Float} {n : ℕ} →
    SplitTo none slots tags wholes singles n → 21 ≤ n → length slots ≡ 21 → SplitValues slots tags wholes singles
split-all {none} {slots} {tags} {wholes} {singles} s h e = record {
  long = s.long;
  each = all-lent none slots tags wholes singles (omega (arith, s.long.sorted)) (omega (arith, s.long.whole)) (omega (arith, s.long.single)) (λ j k. s.each j (omega arith));
}

-- The sheet whose slots were split is the lent sheet.
pub split-sheet : (sheet : Sheet) {tags : List ℕ} {wholes : List ℤ} {singles : List Float} → SplitValues sheet.fields tags wholes singles →
    sheet_lent sheet.template sheet.end_bit sheet.level tags wholes singles ≡ sheet
split-sheet sheet s = ap (λ (l : List Slot). record { template = sheet.template; fields = l; end_bit = sheet.end_bit; level = sheet.level }) s.each
