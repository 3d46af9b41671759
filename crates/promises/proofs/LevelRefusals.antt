-- Proof of Note 6: 20 is returned only if the level may not write the field.
use Rattle.promises.proofs.Names.{row_number, ◌≡◌, refl, sym, ap, ◌∙◌, subst, Bool, true, false, not, ◌||◌, List, [], ◌∷◌, ℕ, ◌<◌, arith, eqb, ltb, length, eqb-false, ltb-false, Refusal, Outcome, Ok, Err, ◌>>=◌, ◌>>◌}
use Rattle.promises.proofs.Names.{refuse◌if◌, NoSuch, ChangedAlone, LevelTooLow, OutOfRange, OtherCode, occurs, By, check_order, neither, bind_assoc, by-among, by-bind, by-then, by-test, by_last, by_number, Value}
use Rattle.promises.proofs.Names.{Level, decode, encode, line_of, may_write, Found, Contents, contents, field, changeable, code_for, rewritten, change, propose, may_stand, may_commit, commit, NotHeld, RefusedOnlyThere}
use Rattle.promises.proofs.Refusals.{contents-by, decode-by, encode-by, rewritten-by}

-- The rows that a call adds to 8, 12 and 20; 20 is not among them.
abbrev added : List ℕ
added = 1 ∷ 5 ∷ 6 ∷ 9 ∷ 10 ∷ 19 ∷ []

same_number : {A : Type 0} {r q : Refusal} → ◌≡◌ {A = Outcome A} (Err r) (Err q) → (row_number r) ≡ (row_number q)
same_number {A} {r} {q} e = ap (λ (x : Refusal). row_number x) (let f : r ≡ q = cc in f)

then-assoc : {A B C : Type 0} (o : Outcome A) (f : A → Outcome B) (next : Outcome C) → ((o >>= f) >> next) ≡ (o >>= λ a. f a >> next)
then-assoc (Ok a) f next = refl
then-assoc (Err r) f next = refl

module _ (level : Level) (kind : ℕ) (image : List ℕ) (f : ℕ) (r : Refusal) (twenty : (row_number r) ≡ 20) where
  -- The tests of a field, and the rest of a call.
  tested : {B : Type 0} (c : Contents) (next : Found → Outcome B) → ((x : Found) → By added (next x)) → contents kind image ≡ Ok c →
      (changeable c level f >>= next) ≡ Err r → NotHeld level kind image f
  unfolding changeable
  tested c next h accepted e = go (eqb f 0 || ltb (length c.fields) f) (line_of c.template f).sets (may_write level (line_of c.template f).mark) refl refl refl e
    where
      x : Found
      x = field c f

      go : (none sets may : Bool) → (eqb f 0 || ltb (length c.fields) f) ≡ none → (line_of c.template f).sets ≡ sets → may_write level (line_of c.template f).mark ≡ may →
          ((((refuse NoSuch f if none) >> Ok x) >>= λ y. (refuse ChangedAlone f if sets) >> ((refuse LevelTooLow f if not may) >> Ok y)) >>= next) ≡ Err r →
          NotHeld level kind image f
      go true sets may a b m e = absurd (omega (arith, same_number e))
      go false true may a b m e = absurd (omega (arith, same_number e))
      go false false true a b m e = absurd (let n = by_number added (next x) r e (h x) in omega (arith, subst (λ (k : ℕ). 0 < occurs k added) twenty n))
      go false false false a b m e =
          let n = neither (eqb f 0) (ltb (length c.fields) f) a in
          record {
            holds = c;
            accepted = accepted;
            first = omega (arith, eqb-false f 0 n.0);
            last = ltb-false (length c.fields) f n.1;
            alone = b;
            held = m;
          }

  -- A call that begins with the check.
  checked : {B : Type 0} (next : Contents → Outcome B) → ((c : Contents) → contents kind image ≡ Ok c → next c ≡ Err r → NotHeld level kind image f) →
      (contents kind image >>= next) ≡ Err r → NotHeld level kind image f
  checked next h e = go (contents kind image) refl (contents-by kind image) e
    where
      go : (o : Outcome Contents) → contents kind image ≡ o → By check_order o → (o >>= next) ≡ Err r → NotHeld level kind image f
      go (Err q) a b e = absurd (let n = same_number e ∙ twenty in omega (arith, subst (λ (k : ℕ). 0 < occurs k check_order) n b))
      go (Ok c) a b e = h c a e

  coded_by : (x : Found) (v : Value) → By added (encode x.row f v)
  coded_by x v = by-among (9 ∷ 10 ∷ []) added (encode x.row f v) (omega arith) (encode-by x.row f v)

  changed : (v : Value) → change kind image level f v ≡ Err r → NotHeld level kind image f
  unfolding change code_for
  changed v e = checked _ (λ c a d.
      tested c _ (λ x. by-bind added (encode x.row f v) _ (coded_by x v) (λ code. rewritten-by added kind image (field c f) code (omega arith))) a
      (sym (bind_assoc (changeable c level f) _ _) ∙ d)) e

  proposed : (v : Value) → propose kind image level f v ≡ Err r → NotHeld level kind image f
  unfolding propose code_for
  proposed v e = checked _ (λ c a d.
      tested c _ (λ x. by-bind added (encode x.row f v) _ (coded_by x v) (λ code.
      by-bind added (decode (field c f).row (field c f).at code) _ (by-among (5 ∷ 6 ∷ []) added (decode (field c f).row (field c f).at code) (omega arith) (decode-by (field c f).row (field c f).at code)) (λ back. tt))) a
      (sym (bind_assoc (changeable c level f) _ _) ∙ d)) e

  committed : (present new : ℕ) → commit kind image level f present new ≡ Err r → NotHeld level kind image f
  unfolding commit may_commit
  committed present new e = checked _ (λ c a d.
      tested c _ (λ x. by-then added (refuse OtherCode f if not (eqb x.code present) >> refuse OutOfRange f if not (may_stand x.row new)) (rewritten kind image (field c f) new)
      (by-test added (OtherCode f) (not (eqb x.code present)) (refuse OutOfRange f if not (may_stand x.row new)) (omega arith) (by_last added (OutOfRange f) (not (may_stand x.row new)) (omega arith)))
      (rewritten-by added kind image (field c f) new (omega arith))) a
      (sym (then-assoc (changeable c level f) _ _) ∙ d)) e

pub refused-only-there : RefusedOnlyThere
refused-only-there level kind image f r n =
    record { changed = changed level kind image f r n; proposed = proposed level kind image f r n; committed = committed level kind image f r n }
