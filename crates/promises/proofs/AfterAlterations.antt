-- Proof of demand 2 after each change or commit: the image
-- is accepted, and its contents are what they make of it.
use Rattle.promises.proofs.Names.{◌≡◌, refl, sym, ap, ◌∙◌, subst, Bool, true, false, not, cond, List, [], ◌∷◌, ℕ, zero, suc, ◌-◌, arith, eqb, length, eqb-true, eqb-false, not-false, Refusal, Outcome, Ok}
use Rattle.promises.proofs.Names.{Err, ◌>>◌, ◌>>=◌, refuse◌if◌, WrongImage, afterwards, good-same, no_value_lem, passed, Sizes, Bytes, image_sizes, Value, Level, decode, kept, Real, Found, Contents, contents}
use Rattle.promises.proofs.Names.{field, Accepted, contents-accepted, with_field, code_for, recoded_in, may_commit, code-found, change-unread, change-is, change-made, made-length, made_bytes, stored-contents}
use Rattle.promises.proofs.Names.{same-value, commit-unread, commit-is, committed, stands-means, commit-made, commit-length, commit-bytes, committed-contents, Change, Commit, Alteration, changes, commits}
use Rattle.promises.proofs.Names.{RealAlteration, changed_by, committed_by, altered_by, altered, replaced, change_in, commit_in, left, held_by, held, AfterAlterations, ChangedToTheSame}

-- ---- another kind

-- The kind with an image's length.
kind_of : ℕ → ℕ
kind_of bytes = cond (eqb bytes 40) 0 (cond (eqb bytes 128) 1 2)

told : {A : Type 0} (bytes n : ℕ) (a b : A) → ((refuse WrongImage if not (eqb bytes n)) >> Ok a) ≡ Ok b → n ≡ bytes
told bytes n a b e = sym (eqb-true bytes n (not-false (eqb bytes n) (passed WrongImage (not (eqb bytes n)) (Ok a) b e).0))

kind-told : (kind bytes : ℕ) (z : Sizes) → image_sizes kind bytes ≡ Ok z → kind ≡ kind_of bytes
unfolding image_sizes kind_of
kind-told zero bytes z e = ap kind_of (told bytes 40 _ _ e)
kind-told (suc zero) bytes z e = ap kind_of (told bytes 128 _ _ e)
kind-told (suc (suc zero)) bytes z e = ap kind_of (told bytes 512 _ _ e)
kind-told (suc (suc (suc k))) bytes z e = absurd (let q : ◌≡◌ {A = ℕ} 0 1 = cc in omega arith)

-- An image is of one kind: with any other it is refused.
pub same_kind : (kind other : ℕ) (image : List ℕ) (c d : Contents) → contents kind image ≡ Ok c → contents other image ≡ Ok d → other ≡ kind
same_kind kind other image c d e h =
    let a = contents-accepted kind image c e in
    let b = contents-accepted other image d h in
    kind-told other (length image) b.sizes b.sized ∙ sym (kind-told kind (length image) a.sizes a.sized)

other-kind : (kind other : ℕ) (image : List ℕ) (c : Contents) → contents kind image ≡ Ok c → (other ≡ kind → ⊥) → (r : Refusal) × (contents other image ≡ Err r)
other-kind kind other image c e n = go (contents other image) refl
  where
    go : (o : Outcome Contents) → contents other image ≡ o → (r : Refusal) × (contents other image ≡ Err r)
    go (Err r) h = (r, h)
    go (Ok d) h = absurd (n (same_kind kind other image c d e h))

-- ---- one change

-- The contents after a change of the sheet's own kind.
after-own : (image : List ℕ) (c : Contents) (ch : Change) → Bytes image → Real ch.value → contents ch.kind image ≡ Ok c →
    contents ch.kind (changed_by image ch) ≡ Ok (left c (change_in c ch.level ch.field ch.value))
after-own image c ch bytes real e = go (code_for c level f v) refl
  where
    k : ℕ
    k = ch.kind

    level : Level
    level = ch.level

    f : ℕ
    f = ch.field

    v : Value
    v = ch.value

    a : Accepted k image c
    a = contents-accepted k image c e

    after : (o : Outcome ℕ) → code_for c level f v ≡ o →
        contents k (changed_by image ch) ≡ contents k (afterwards image (o >>= λ code. Ok (recoded_in a.sizes image (field c f) code)))
    after o h =
        ap (λ u. contents k (afterwards image u)) (change-is k image c a.sizes e a.sized level f v)
        ∙ ap (λ u. contents k (afterwards image (u >>= λ code. Ok (recoded_in a.sizes image (field c f) code)))) h

    go : (o : Outcome ℕ) → code_for c level f v ≡ o → contents k (changed_by image ch) ≡ Ok (left c (o >>= λ code. Ok (replaced c f code (kept (field c f).row v))))
    go (Err r) h = after (Err r) h ∙ e
    go (Ok code) h =
        let (free, stored) = code-found c level f v code h in
        after (Ok code) h ∙ stored-contents k image c a.sizes bytes e a.sized level f free v real code stored

-- ---- one commit

-- A code that a field can hold has a value, so nothing is refused after the tests.
after-own-commit : (image : List ℕ) (c : Contents) (co : Commit) → Bytes image → contents co.kind image ≡ Ok c →
    contents co.kind (committed_by image co) ≡ Ok (left c (commit_in c co.level co.field co.present co.new))
after-own-commit image c co bytes e = go (may_commit c level f present new) refl
  where
    k : ℕ
    k = co.kind

    level : Level
    level = co.level

    f : ℕ
    f = co.field

    present : ℕ
    present = co.present

    new : ℕ
    new = co.new

    a : Accepted k image c
    a = contents-accepted k image c e

    after : (o : Outcome (Unit {0})) → may_commit c level f present new ≡ o →
        contents k (committed_by image co) ≡ contents k (afterwards image (o >> Ok (recoded_in a.sizes image (field c f) new)))
    after o h =
        ap (λ u. contents k (afterwards image u)) (commit-is k image level f present new c a.sizes e a.sized)
        ∙ ap (λ u. contents k (afterwards image (u >> Ok (recoded_in a.sizes image (field c f) new)))) h

    valued : Outcome Value → Outcome Contents
    valued d = d >>= λ v. Ok (replaced c f new v)

    go : (o : Outcome (Unit {0})) → may_commit c level f present new ≡ o →
        contents k (committed_by image co) ≡ Ok (left c (o >> valued (decode (field c f).row (field c f).at new)))
    go (Err r) h = after (Err r) h ∙ e
    go (Ok u) h =
        let t = committed c level f present new h in
        let (v, means) = stands-means (field c f).row new t.stands (field c f).at in
        after (Ok u) h ∙ committed-contents k image c a.sizes bytes e a.sized level f present new t v means
        ∙ ap (λ d. Ok (left c (valued d))) (sym means)

-- ---- one change or commit

-- An alteration of the sheet's own kind has its effect; one of another kind is refused.
by_kind : (kind other : ℕ) (image after : List ℕ) (c d : Contents) → contents kind image ≡ Ok c →
    (contents other image ≡ Ok c → contents other after ≡ Ok d) → ((r : Refusal) → contents other image ≡ Err r → after ≡ image) →
    contents kind after ≡ Ok (cond (eqb other kind) d c)
by_kind kind other image after c d e own unread = go (eqb other kind) refl
  where
    go : (b : Bool) → eqb other kind ≡ b → contents kind after ≡ Ok (cond b d c)
    go true b =
        let q : other ≡ kind = eqb-true other kind b in
        ap (λ (n : ℕ). contents n after) (sym q) ∙ own (ap (λ (n : ℕ). contents n image) q ∙ e)
    go false b =
        let r = other-kind kind other image c e (eqb-false other kind b) in
        ap (contents kind) (unread r.0 r.1) ∙ e

after_one : (kind : ℕ) (image : List ℕ) (c : Contents) (a : Alteration) → Bytes image → RealAlteration a → contents kind image ≡ Ok c →
    contents kind (altered_by image a) ≡ Ok (held_by kind c a)
after_one kind image c (changes ch) bytes real e =
    by_kind kind ch.kind image (changed_by image ch) c (left c (change_in c ch.level ch.field ch.value)) e (after-own image c ch bytes real)
    (λ r h. ap (afterwards image) (change-unread ch.kind image ch.level ch.field ch.value r h))
after_one kind image c (commits co) bytes real e =
    by_kind kind co.kind image (committed_by image co) c (left c (commit_in c co.level co.field co.present co.new)) e (after-own-commit image c co bytes)
    (λ r h. ap (afterwards image) (commit-unread co.kind image co.level co.field co.present co.new r h))

-- ---- every change or commit

-- The image keeps its length and consists of bytes, accepted or refused.
kept-bytes : (image : List ℕ) (o : Outcome (List ℕ)) → Bytes image → ((after : List ℕ) → o ≡ Ok after → Bytes after) → Bytes (afterwards image o)
kept-bytes image (Err r) bytes h = bytes
kept-bytes image (Ok after) bytes h = h after refl

by_bytes : (image : List ℕ) (a : Alteration) → Bytes image → Bytes (altered_by image a)
by_bytes image (changes ch) bytes = kept-bytes image _ bytes (made_bytes ch.kind image ch.level ch.field ch.value)
by_bytes image (commits co) bytes = kept-bytes image _ bytes (commit-bytes co.kind image co.level co.field co.present co.new)

pub after-alterations : AfterAlterations
after-alterations kind image c [] bytes real e = e
after-alterations kind image c (a ∷ alterations) bytes real e =
    after-alterations kind (altered_by image a) (held_by kind c a) alterations (by_bytes image a bytes) real.1 (after_one kind image c a bytes real.0 e)

pub changed-to-the-same : ChangedToTheSame
changed-to-the-same kind image after c level f bytes e h =
    let m = change-made kind image level f (field c f).value after h in
    let q : m.held ≡ c = good-same (sym m.accepted ∙ e) in
    let (free, stored) = code-found c level f (field c f).value m.code (subst (λ d. code_for d level f (field c f).value ≡ Ok m.code) q m.coded) in
    m.is ∙ ap (λ d. recoded_in m.sizes image (field d f) m.code) q ∙ same-value kind image c m.sizes bytes e m.sized level f free m.code stored

-- What a check refuses it still refuses: only with another kind can
-- the image be altered, and the altered one is of that kind too.
module _ (kind : ℕ) (r : Refusal) where
  unsized : (image : List ℕ) (q : Refusal) → image_sizes kind (length image) ≡ Err q → contents kind image ≡ Err q
  unfolding contents
  unsized image q h = rw h

  still-refused : (other : ℕ) (image after : List ℕ) (c : Contents) → contents kind image ≡ Err r → contents other image ≡ Ok c →
      length after ≡ length image → contents kind after ≡ Err r
  still-refused other image after c e accepted n = go (image_sizes kind (length image)) refl
    where
      go : (o : Outcome Sizes) → image_sizes kind (length image) ≡ o → contents kind after ≡ Err r
      go (Ok z) s =
          let a = contents-accepted other image c accepted in
          let same : kind ≡ other = kind-told kind (length image) z s ∙ sym (kind-told other (length image) a.sizes a.sized) in
          no_value_lem (sym e ∙ ap (λ (k : ℕ). contents k image) same ∙ accepted)
      go (Err q) s = unsized after q (ap (image_sizes kind) n ∙ s) ∙ sym (unsized image q s) ∙ e

  kept-refused : (image : List ℕ) (o : Outcome (List ℕ)) → contents kind image ≡ Err r → ((after : List ℕ) → o ≡ Ok after → contents kind after ≡ Err r) →
      contents kind (afterwards image o) ≡ Err r
  kept-refused image (Err q) e h = e
  kept-refused image (Ok after) e h = h after refl

  one-refused : (image : List ℕ) (a : Alteration) → contents kind image ≡ Err r → contents kind (altered_by image a) ≡ Err r
  one-refused image (changes ch) e = kept-refused image _ e (λ after h.
      let m = change-made ch.kind image ch.level ch.field ch.value after h in
      still-refused ch.kind image after m.held e m.accepted (made-length ch.kind image ch.level ch.field ch.value after h))
  one-refused image (commits co) e = kept-refused image _ e (λ after h.
      let m = commit-made co.kind image co.level co.field co.present co.new after h in
      still-refused co.kind image after m.held e m.accepted (commit-length co.kind image co.level co.field co.present co.new after h))

  pub refused-after : (image : List ℕ) (alterations : List Alteration) → contents kind image ≡ Err r → contents kind (altered image alterations) ≡ Err r
  refused-after image [] e = e
  refused-after image (a ∷ alterations) e = refused-after (altered_by image a) alterations (one-refused image a e)

-- ---- what no change or commit alters

-- What does not depend on the fields is unchanged, and so is the calibration.
module _ {A : Type 0} (g : Contents → A) (same : (c : Contents) (i : ℕ) (x : Found) → g (with_field c i x) ≡ g c) where
  change-keeps : (c : Contents) (f : ℕ) (v : Value) (t : Bool) (o : Outcome ℕ) →
      g (cond t (left c (o >>= λ code. Ok (replaced c f code (kept (field c f).row v)))) c) ≡ g c
  change-keeps c f v false o = refl
  change-keeps c f v true (Err r) = refl
  change-keeps c f v true (Ok code) = same c (f - 1) _

  commit-keeps : (c : Contents) (f new : ℕ) (t : Bool) (o : Outcome (Unit {0})) (d : Outcome Value) →
      g (cond t (left c (o >> (d >>= λ v. Ok (replaced c f new v)))) c) ≡ g c
  commit-keeps c f new false o d = refl
  commit-keeps c f new true (Err r) d = refl
  commit-keeps c f new true (Ok u) (Err r) = refl
  commit-keeps c f new true (Ok u) (Ok v) = same c (f - 1) _

  one-keeps : (kind : ℕ) (c : Contents) (a : Alteration) → g (held_by kind c a) ≡ g c
  one-keeps kind c (changes ch) = change-keeps c ch.field ch.value (eqb ch.kind kind) (code_for c ch.level ch.field ch.value)
  one-keeps kind c (commits co) =
      let x = field c co.field in
      commit-keeps c co.field co.new (eqb co.kind kind) (may_commit c co.level co.field co.present co.new) (decode x.row x.at co.new)

  pub held_keeps : (kind : ℕ) (c : Contents) (alterations : List Alteration) → g (held kind c alterations) ≡ g c
  held_keeps kind c [] = refl
  held_keeps kind c (a ∷ alterations) = held_keeps kind (held_by kind c a) alterations ∙ one-keeps kind c a

pub held-calibration : (kind : ℕ) (c : Contents) (alterations : List Alteration) → (held kind c alterations).calibration ≡ c.calibration
held-calibration = held_keeps (λ c. c.calibration) (λ c i x. refl)
