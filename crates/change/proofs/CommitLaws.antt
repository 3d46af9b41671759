-- Laws of the parts of a proposal and of a commit: the code computes those of their definitions.
use Rattle.change.proofs.Names.{◌≡◌, refl, sym, ap, ap₂, ◌∙◌, subst, Bool, true, false, not, ◌||◌, List, ℕ, ◌+◌, ◌/◌, ◌^◌, ◌≤◌, ◌<◌, zero-add, div-lt_iff_lt-mul, arith, dec_lt, eqb, ltb, length, pow_pos, shr_lt}
use Rattle.change.proofs.Names.{ltb-true, eqb-true, lt-ltb, le-ltb, eq-eqb, ne_eqb, not-false, Refusal, Outcome, Ok, Err, ◌>>◌, ◌>>=◌, refuse◌if◌, NoSuch, ChangedAlone, OutOfRange, OtherCode, LevelTooLow}
use Rattle.change.proofs.Names.{good-bind, passed, both, bind-good, bind-refused, then-good, then-refused, Sizes, field_at, image_sizes, stream_number, Value, Row, Layout, Level, Template}
use Rattle.change.proofs.Names.{decode, judge, last_field, line_of, row_of, may_write, tested, Found, Contents, bits, parse, stream_in, contents, field, field_place, row_is, at-is, width_is, parsed, fields-count}
use Rattle.change.proofs.Names.{Opened, Opens, layout_is, holding, changeable, recoded_in, rewritten, is_ok, may_stand, propose, may_commit, commit, allowed_in, code_in, proposed_at, may_follow}
use Rattle.change.proofs.Recoding.{Changeable, changeable-is}
use Rattle.change.proofs.PartLaws.{stands_here, code-known, coded}

-- ---- a field that may be changed

module _ (c : Contents) (level : Level) (f : ℕ) where
  -- The tests by the sheet's fields agree with those by its template.
  same_tests : (none sets low : Bool) →
      (((refuse NoSuch f if none) >> Ok (field c f)) >>= λ x. (refuse ChangedAlone f if sets) >> ((refuse LevelTooLow f if low) >> Ok x))
      ≡ (((refuse NoSuch f if none) >> ((refuse ChangedAlone f if sets) >> (refuse LevelTooLow f if low))) >> Ok (field c f))
  same_tests true sets low = refl
  same_tests false true low = refl
  same_tests false false true = refl
  same_tests false false false = refl

  changeable-parts : length c.fields ≡ last_field c.template → changeable c level f ≡ (allowed_in c.template level f >> Ok (field c f))
  unfolding changeable allowed_in
  changeable-parts count =
      let sets : Bool = (line_of c.template f).sets in
      let low : Bool = not (may_write level (line_of c.template f).mark) in
      ap (λ (n : ℕ). ((refuse NoSuch f if (eqb f 0 || ltb n f)) >> Ok (field c f)) >>= λ x. (refuse ChangedAlone f if sets) >> ((refuse LevelTooLow f if low) >> Ok x)) count
      ∙ same_tests (eqb f 0 || ltb (last_field c.template) f) sets low

-- ---- a code that a field can hold

module _ (row : Row) (code : ℕ) where
  pub stands-not : 0 < code / 2 ^ row.width → false ≡ may_stand row code
  unfolding may_stand
  stands-not h = rw (le-ltb code (2 ^ row.width) (wide (dec_lt code (2 ^ row.width))))
    where
      wide : Dec (code < 2 ^ row.width) → 2 ^ row.width ≤ code
      wide (yes l) = absurd (omega (arith, shr_lt {n = code} 0 row.width (rw (zero-add row.width) l)))
      wide (no l) = omega arith

  pub stands_by : {t : Bool} → code / 2 ^ row.width < 1 → t ≡ is_ok (decode row 0 code) → t ≡ may_stand row code
  unfolding may_stand
  stands_by none e =
      let narrow : code < 2 ^ row.width = omega (arith, (div-lt_iff_lt-mul (pow_pos row.width)).0 none) in
      rw (lt-ltb code (2 ^ row.width) narrow) e

  -- A code that a judgement accepts.
  pub taken-judged : {o : Outcome (Unit {0})} → o ≡ judge row 0 code → is_ok o ≡ is_ok (decode row 0 code)
  taken-judged e = ap is_ok e ∙ go (decode row 0 code)
    where
      go : (o : Outcome Value) → is_ok (o >> Ok (tt {0})) ≡ is_ok o
      go (Ok v) = refl
      go (Err r) = refl

  pub stands-fits : may_stand row code ≡ true → code < 2 ^ row.width
  unfolding may_stand
  stands-fits e = ltb-true code (2 ^ row.width) (both (ltb code (2 ^ row.width)) (is_ok (decode row 0 code)) e).0

module _ (row : Row) (stands f present new : ℕ) where
  pub follow-other : (stands ≡ present → ⊥) → Err (OtherCode f) ≡ may_follow row stands f present new
  follow-other h = rw (ne_eqb stands present h)

  pub follow-by : {t : Bool} → stands ≡ present → may_stand row new ≡ t → (refuse OutOfRange f if not t) ≡ may_follow row stands f present new
  follow-by h e = rw (eq-eqb stands present h, e)

-- ---- an opened sheet

module _ {kind : ℕ} {image : List ℕ} {o : Opened} {c : Contents} (h : Opens kind image o c) (f : ℕ) where
  -- The bits of a field, as the code reads them.
  pub field-taken : (lo : 1 ≤ f) (hi : f ≤ last_field o.layout.template) {at w : ℕ} → at ≡ field_place o.layout f → w ≡ (row_of o.layout f).width →
      parse (stream_in o.sizes image) (bits w) at ≡ Ok (parsed (field c f).code (at + w))
  field-taken lo hi {at} {w} ea ew =
      let s = stands_here h f lo hi in
      let N : ℕ = stream_number o.sizes image in
      let code : field_at N at w ≡ (field c f).code = ap₂ (λ (n k : ℕ). field_at N n k) ea ew ∙ s.code in
      rw (le-ltb (stream_in o.sizes image).bits (at + w) (omega (arith, ea, ew, s.inside)), code)

module _ {kind : ℕ} {image : List ℕ} {o : Opened} {c : Contents} (h : Opens kind image o c) (level : Level) (f : ℕ) where
  same-template : o.layout.template ≡ c.template
  same-template = ap (λ (l : Layout). l.template) (layout_is h)

  changeable-here : changeable c level f ≡ (allowed_in o.layout.template level f >> Ok (field c f))
  changeable-here = changeable-parts c level f (fields-count (holding h).formed) ∙ ap (λ (t : Template). allowed_in t level f >> Ok (field c f)) (sym same-template)

  -- ---- a proposal

  pub propose-refused : (v : Value) {r : Refusal} → code_in o.layout level f v ≡ Err r → propose kind image level f v ≡ Err r
  unfolding propose
  propose-refused v e = bind-good _ h.accepted ∙ bind-refused _ (coded h level f v ∙ e)

  pub propose-coded : (v : Value) {code : ℕ} → code_in o.layout level f v ≡ Ok code → {present : ℕ} → present ≡ (field c f).code →
      propose kind image level f v ≡ proposed_at (row_of o.layout f) (field_place o.layout f) present code
  unfolding propose
  propose-coded v {code} e {present} p =
      let (lo, hi, _) = code-known o.layout level f v code e in
      let s = (stands_here h f lo hi).field in
      bind-good _ h.accepted ∙ bind-good _ (coded h level f v ∙ e)
      ∙ ap (λ (n : ℕ). proposed_at (field c f).row (field c f).at n code) (sym p)
      ∙ ap₂ (λ (r : Row) (n : ℕ). proposed_at r n present code) (row_is s) (at-is s)

  -- ---- a commit

  module _ (present new : ℕ) where
    pub commit-not-free : {r : Refusal} → allowed_in o.layout.template level f ≡ Err r → may_commit c level f present new ≡ Err r
    unfolding may_commit
    commit-not-free e = bind-refused _ (changeable-here ∙ then-refused _ e)

    pub commit-free : allowed_in o.layout.template level f ≡ Ok tt → 1 ≤ f → f ≤ last_field o.layout.template →
        may_commit c level f present new ≡ may_follow (row_of o.layout f) (field c f).code f present new
    unfolding may_commit
    commit-free e lo hi =
        bind-good _ (changeable-here ∙ then-good _ e)
        ∙ ap (λ (r : Row). may_follow r (field c f).code f present new) (row_is (stands_here h f lo hi).field)

pub propose-unread : (kind : ℕ) (image : List ℕ) (level : Level) (f : ℕ) (v : Value) (r : Refusal) → contents kind image ≡ Err r → propose kind image level f v ≡ Err r
unfolding propose
propose-unread kind image level f v r e = rw e

-- ---- a commit as a whole

module _ (kind : ℕ) (image : List ℕ) (level : Level) (f present new : ℕ) where
  pub commit-unread : (r : Refusal) → contents kind image ≡ Err r → commit kind image level f present new ≡ Err r
  unfolding commit
  commit-unread r e = rw e

  pub commit-is : (c : Contents) (z : Sizes) → contents kind image ≡ Ok c → image_sizes kind (length image) ≡ Ok z →
      commit kind image level f present new ≡ (may_commit c level f present new >> Ok (recoded_in z image (field c f) new))
  unfolding commit rewritten
  commit-is c z e hz = simp (e, hz)

-- What an accepted commit has passed.
pub record Committed (c : Contents) (level : Level) (f present new : ℕ) : Type 0 where
  pub free : Changeable c level f
  pub present-is : (field c f).code ≡ present
  pub stands : may_stand (field c f).row new ≡ true

pub committed : (c : Contents) (level : Level) (f present new : ℕ) → may_commit c level f present new ≡ Ok tt → Committed c level f present new
unfolding may_commit
committed c level f present new e =
    let (x, a, b) = good-bind (changeable c level f) (λ x. may_follow x.row x.code f present new) tt e in
    let (free, same) = changeable-is c level f x a in
    let (p, q) = passed (OtherCode f) (not (eqb x.code present)) (refuse OutOfRange f if not (may_stand x.row new)) tt b in
    record {
      free = free;
      present-is = ap (λ (y : Found). y.code) same ∙ eqb-true x.code present (not-false _ p);
      stands = ap (λ (y : Found). may_stand y.row new) same ∙ not-false _ (tested (OutOfRange f) (not (may_stand x.row new)) q);
    }

module _ {kind : ℕ} {image : List ℕ} {o : Opened} {c : Contents} (h : Opens kind image o c) (level : Level) (f present new : ℕ) where
  pub commit-refused : {r : Refusal} → may_commit c level f present new ≡ Err r → commit kind image level f present new ≡ Err r
  commit-refused e = commit-is kind image level f present new c o.sizes h.accepted h.sized ∙ then-refused _ e

  module _ (e : may_commit c level f present new ≡ Ok tt) where
    pub commit-known : (1 ≤ f) × (f ≤ last_field o.layout.template)
    commit-known =
        let d = (committed c level f present new e).free in
        (d.least, omega (arith, d.most, fields-count (holding h).formed, ap last_field (same-template h level f)))

    pub commit-passed : commit kind image level f present new ≡ Ok (recoded_in o.sizes image (field c f) new)
    commit-passed = commit-is kind image level f present new c o.sizes h.accepted h.sized ∙ then-good _ e

    pub commit-fits : new < 2 ^ (row_of o.layout f).width
    commit-fits =
        let (lo, hi) = commit-known in
        let fits = stands-fits (field c f).row new (committed c level f present new e).stands in
        subst (λ (n : ℕ). new < 2 ^ n) (width_is (stands_here h f lo hi).field) fits
