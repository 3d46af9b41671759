-- Laws of Note 6: what a level may write.
use Rattle.promises.proofs.Names.{◌≡◌, refl, sym, ap, ◌∙◌, Bool, true, false, ◌||◌, List, [], ◌∷◌, ℕ, suc, ◌≤◌, arith, eqb, ltb, length, ne_eqb, le-ltb, Ok, Err, ◌>>◌, ◌>>=◌, refuse◌if◌, afterwards, NoSuch}
use Rattle.promises.proofs.Names.{ChangedAlone, LevelTooLow, bind-same, bind-good, bind-refused, then-good, Value, Level, Owner, CalibrationRoom, Maker, Mark, Id, Cal, Usr, encode, Line, chose, basic, template33}
use Rattle.promises.proofs.Names.{template32, template_lines, lines_of, line_of, may_write, rank, piece, Found, Contents, contents, field, Sheet, lent, template_in, line_pieces, field_pieces, plan, built_in, build_with}
use Rattle.promises.proofs.Names.{changeable, code_for, rewritten, change, propose, may_commit, commit, Changeable, changeable-good, code-found, change-is, change-made, commit-is, commit-allowed, commit-made}
use Rattle.promises.proofs.Names.{FieldsOfLevels, change_as_before, MakerAsBefore, RefusedTo, LowerRefused, HigherMayToo, LevelsNest, at_level, BuildAsksNoLevel}

pub fields-of-levels : FieldsOfLevels
unfolding lines_of basic template33 template32
fields-of-levels = record { owner = refl; calibration_room = refl; maker = refl; resistance_owner = refl; resistance_room = refl; resistance_maker = refl }

-- ---- the maker

-- The tests with the level's, which a maker passes, agree with those without.
module _ (kind : ℕ) (image : List ℕ) (f : ℕ) (v : Value) (x : Found) where
  same_tests : (none sets : Bool) →
      ((((refuse NoSuch f if none) >> Ok x) >>= λ y. (refuse ChangedAlone f if sets) >> Ok y) >>= (λ y. encode y.row f v) >>= rewritten kind image x)
      ≡ (((refuse NoSuch f if none) >> Ok x) >>= λ y. (refuse ChangedAlone f if sets) >> (encode y.row f v >>= rewritten kind image y))
  same_tests true sets = refl
  same_tests false true = refl
  same_tests false false = refl

pub maker-as-before : MakerAsBefore
unfolding change code_for changeable change_as_before
maker-as-before kind image f v =
    bind-same (contents kind image)
    (λ c. same_tests kind image f v (field c f) (eqb f 0 || ltb (length c.fields) f) (line_of c.template f).sets)

-- ---- the other levels

module _ (level : Level) (kind : ℕ) (image : List ℕ) (c : Contents) (f : ℕ) (e : contents kind image ≡ Ok c) (lo : 1 ≤ f) (hi : f ≤ length c.fields)
    (free : (line_of c.template f).sets ≡ false) (low : may_write level (line_of c.template f).mark ≡ false) where
  not-changeable : changeable c level f ≡ Err (LevelTooLow f)
  unfolding changeable
  not-changeable = rw (ne_eqb f 0 (λ z. omega arith), le-ltb (length c.fields) f hi, free, low)

  not-coded : (v : Value) → code_for c level f v ≡ Err (LevelTooLow f)
  unfolding code_for
  not-coded v = bind-refused _ not-changeable

  not-changed : (v : Value) → change kind image level f v ≡ Err (LevelTooLow f)
  unfolding change
  not-changed v = bind-good _ e ∙ bind-refused _ (not-coded v)

  not-proposed : (v : Value) → propose kind image level f v ≡ Err (LevelTooLow f)
  unfolding propose
  not-proposed v = bind-good _ e ∙ bind-refused _ (not-coded v)

  not-committed : (present new : ℕ) → commit kind image level f present new ≡ Err (LevelTooLow f)
  unfolding commit may_commit
  not-committed present new = rw (e, not-changeable)

  refused-to : RefusedTo level kind image f
  refused-to = record {
    changed = not-changed;
    proposed = not-proposed;
    committed = not-committed;
    changed_bytes = λ v. ap (afterwards image) (not-changed v);
    committed_bytes = λ present new. ap (afterwards image) (not-committed present new);
  }

pub lower-refused : LowerRefused
lower-refused = refused-to

-- ---- levels nest

higher-may : (low high : Level) (mark : Mark) → rank low ≤ rank high → may_write low mark ≡ true → may_write high mark ≡ true
higher-may low Maker mark h e = refl
higher-may Owner Owner mark h e = e
higher-may Owner CalibrationRoom Id h e = e
higher-may Owner CalibrationRoom Cal h e = refl
higher-may Owner CalibrationRoom Usr h e = e
higher-may CalibrationRoom CalibrationRoom mark h e = e
higher-may CalibrationRoom Owner mark h e = absurd (omega arith)
higher-may Maker Owner mark h e = absurd (omega arith)
higher-may Maker CalibrationRoom mark h e = absurd (omega arith)

module _ (low high : Level) (h : rank low ≤ rank high) where
  changeable-higher : {c : Contents} {f : ℕ} → Changeable c low f → Changeable c high f
  changeable-higher {c} {f} d = record { least = d.least; most = d.most; free = d.free; may = higher-may low high (line_of c.template f).mark h d.may }

  higher-code : (c : Contents) (f : ℕ) (v : Value) (code : ℕ) → code_for c low f v ≡ Ok code → code_for c high f v ≡ Ok code
  unfolding code_for
  higher-code c f v code e =
      let (d, stored) = code-found c low f v code e in
      bind-good _ (changeable-good c high f (changeable-higher d)) ∙ stored

  higher-too : HigherMayToo low high
  higher-too = record {
    changes = λ kind image after f v e.
        let m = change-made kind image low f v after e in
        change-is kind image m.held m.sizes m.accepted m.sized high f v ∙ bind-good _ (higher-code m.held f v m.code m.coded) ∙ ap Ok (sym m.is);
    commits = λ kind image after f present new e.
        let m = commit-made kind image low f present new after e in
        let t = m.tested in
        let may : may_commit m.held high f present new ≡ Ok tt =
        ap (λ (n : ℕ). may_commit m.held high f n new) (sym t.present-is) ∙ commit-allowed m.held high f (changeable-higher t.free) new t.stands in
        commit-is kind image high f present new m.held m.sizes m.accepted m.sized ∙ then-good _ may ∙ ap Ok (sym m.is);
  }

pub levels-nest : LevelsNest
levels-nest = higher-too

-- ---- a build

module _ (level : Level) (sheet : Sheet) where
  lines-as : (lines : List Line) (latest f : ℕ) → line_pieces (at_level level sheet) lines latest f ≡ line_pieces sheet lines latest f
  unfolding line_pieces
  lines-as [] latest f = refl
  lines-as (line ∷ lines) latest f =
      bind-same (encode (line.row_at latest) f (lent sheet f))
      (λ code. ap (λ o. o >>= λ rest. Ok (piece (line.row_at latest).width code ∷ rest)) (lines-as lines (chose line.sets code latest) (suc f)))

  fields-as : field_pieces (at_level level sheet) ≡ field_pieces sheet
  unfolding field_pieces
  fields-as = rw (lines-as basic 0 1, lines-as (template_lines (template_in sheet)) 0 (suc (length basic)))

pub build-asks-no-level : BuildAsksNoLevel
unfolding build_with built_in plan
build-asks-no-level level kind buffer sheet text table = rw (fields-as level sheet)
