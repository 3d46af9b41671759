-- Laws of codes that a field can hold, of proposals and commits
-- by their parts, and of the result of an accepted commit.
use Rattle.change.proofs.Names.{◌≡◌, refl, sym, ap, ◌∙◌, subst, Bool, true, false, not, ◌||◌, ◌&&◌, cond, true≢false, List, ℕ, ◌-◌, ◌^◌, ◌<◌, eqb, ltb, length, pos, binary32, of_bits, lt-ltb, eq-eqb, ne_eqb}
use Rattle.change.proofs.Names.{Refusal, Outcome, Ok, Err, ◌>>◌, ◌>>=◌, refuse◌if◌, OutsideTable, NotFinite, OtherCode, good-same, good-bind, good-then, both, no_value_lem, bind-good, passed, Sizes, Bytes}
use Rattle.change.proofs.Names.{image_sizes, sizes-chip, image-length, image-bytes, Value, Whole, Single, Missing, Row, Level, Rule, Plain, Stepped, Geometric, Ieee, all_ones, top_code, stepped_value, progression}
use Rattle.change.proofs.Names.{geometric_value, finite, meaning, decode, Contents, contents, field, recoded, contents-accepted, with_field, code_for, recoded_in, is_ok, may_stand, proposed_for, propose, may_commit}
use Rattle.change.proofs.Names.{commit}
use Rattle.change.proofs.Recoding.{Changeable, changeable-good, recoded-contents}
use Rattle.change.proofs.CommitLaws.{stands-fits, commit-is, Committed, committed}

-- ---- a code that a field can hold

-- What a code means does not depend on the place of its field: only a refusal names it.
module _ (at other : ℕ) where
  test-anywhere : {A : Type 0} (r s : Refusal) (t : Bool) (a v : A) → ((refuse r if t) >> Ok a) ≡ Ok v → ((refuse s if t) >> Ok a) ≡ Ok v
  test-anywhere r s true a v e = no_value_lem e
  test-anywhere r s false a v e = e

  meaning-anywhere : (rule : Rule) (w code : ℕ) (v : Value) → meaning rule w at code ≡ Ok v → meaning rule w other code ≡ Ok v
  meaning-anywhere (Plain least greatest) w code v e =
      test-anywhere (OutsideTable at) (OutsideTable other) (ltb code least || ltb greatest code) (Whole (pos code)) v e
  meaning-anywhere (Stepped start step) w code v e =
      test-anywhere (OutsideTable at) (OutsideTable other) (ltb (top_code w) code) (Whole (stepped_value start step code)) v e
  meaning-anywhere (Geometric scale) w code v e =
      test-anywhere (OutsideTable at) (OutsideTable other) (ltb (top_code w) code) (Whole (pos (geometric_value (progression scale) code))) v e
  meaning-anywhere Ieee w code v e =
      let x = of_bits binary32 code in
      let (t, f) = passed (OutsideTable at) (eqb code (all_ones w)) (refuse NotFinite at if not (finite x) >> Ok (Single x)) v e in
      rw t (test-anywhere (NotFinite at) (NotFinite other) (not (finite x)) (Single x) v f)

  pub decode-anywhere : (row : Row) (code : ℕ) (v : Value) → decode row at code ≡ Ok v → decode row other code ≡ Ok v
  unfolding decode
  decode-anywhere row code v e = go (row.missing && eqb code (all_ones row.width)) e
    where
      go : (t : Bool) → cond t (Ok Missing) (meaning row.rule row.width at code) ≡ Ok v → cond t (Ok Missing) (meaning row.rule row.width other code) ≡ Ok v
      go true e = e
      go false e = meaning-anywhere row.rule row.width code v e

module _ (row : Row) (code : ℕ) where
  -- A field can hold a code exactly if the code has a meaning.
  pub stands-means : may_stand row code ≡ true → (at : ℕ) → (v : Value) × (decode row at code ≡ Ok v)
  unfolding may_stand
  stands-means e at = go (decode row 0 code) refl (both (ltb code (2 ^ row.width)) (is_ok (decode row 0 code)) e).1
    where
      go : (o : Outcome Value) → decode row 0 code ≡ o → is_ok o ≡ true → (v : Value) × (decode row at code ≡ Ok v)
      go (Ok v) h t = (v, decode-anywhere 0 at row code v h)
      go (Err r) h t = absurd (true≢false (sym t))

  pub means-stands : (at : ℕ) (v : Value) → code < 2 ^ row.width → decode row at code ≡ Ok v → may_stand row code ≡ true
  unfolding may_stand
  means-stands at v fits e = rw (lt-ltb code (2 ^ row.width) fits, decode-anywhere at 0 row code v e)

-- ---- by their parts

pub propose-is : (kind : ℕ) (image : List ℕ) (c : Contents) → contents kind image ≡ Ok c → (level : Level) (f : ℕ) (v : Value) →
    propose kind image level f v ≡ (code_for c level f v >>= proposed_for (field c f))
unfolding propose
propose-is kind image c e level f v = bind-good _ e

module _ (c : Contents) (level : Level) (f : ℕ) (h : Changeable c level f) (new : ℕ) where
  pub commit-allowed : may_stand (field c f).row new ≡ true → may_commit c level f (field c f).code new ≡ Ok tt
  unfolding may_commit
  commit-allowed s = rw (changeable-good c level f h, eq-eqb (field c f).code (field c f).code refl, s)

  pub commit-other : (present : ℕ) → ((field c f).code ≡ present → ⊥) → may_commit c level f present new ≡ Err (OtherCode f)
  unfolding may_commit
  commit-other present n = rw (changeable-good c level f h, ne_eqb (field c f).code present n)

-- ---- an accepted commit

-- The sheet that the image held, and the tests that the commit passed.
pub record CommitMade (kind : ℕ) (image : List ℕ) (level : Level) (f present new : ℕ) (after : List ℕ) : Type 0 where
  pub held : Contents
  pub sizes : Sizes
  pub accepted : contents kind image ≡ Ok held
  pub sized : image_sizes kind (length image) ≡ Ok sizes
  pub tested : Committed held level f present new
  pub is : after ≡ recoded_in sizes image (field held f) new

module _ (kind : ℕ) (image : List ℕ) (level : Level) (f present new : ℕ) (after : List ℕ) (made : commit kind image level f present new ≡ Ok after) where
  pub commit-made : CommitMade kind image level f present new after
  unfolding commit
  commit-made =
      let (c, e, g) = good-bind (contents kind image) _ after made in
      let a = contents-accepted kind image c e in
      let (t, k) = good-then (may_commit c level f present new) (Ok (recoded_in a.sizes image (field c f) new)) after
      (sym (commit-is kind image level f present new c a.sizes e a.sized) ∙ made) in
      record { held = c; sizes = a.sizes; accepted = e; sized = a.sized; tested = committed c level f present new t; is = sym (good-same k) }

  -- The new image has as many bytes as before, each a byte.
  pub commit-length : length after ≡ length image
  commit-length =
      let m = commit-made in
      ap length m.is ∙ image-length m.sizes _ ∙ sym (sizes-chip kind (length image) m.sizes m.sized).long

  pub commit-bytes : Bytes after
  commit-bytes = let m = commit-made in subst Bytes (sym m.is) (image-bytes m.sizes _)

-- The new contents have the new code with its value, all else unchanged.
pub committed-contents : (kind : ℕ) (image : List ℕ) (c : Contents) (z : Sizes) → Bytes image → contents kind image ≡ Ok c →
    image_sizes kind (length image) ≡ Ok z → (level : Level) (f present new : ℕ) → Committed c level f present new → (v : Value) → decode (field c f).row (field c f).at new ≡ Ok v →
    contents kind (recoded_in z image (field c f) new) ≡ Ok (with_field c (f - 1) (recoded (field c f) new v))
committed-contents kind image c z bytes e hz level f present new t v means =
    recoded-contents kind image c z bytes e hz level f t.free new v (stands-fits (field c f).row new t.stands) means
