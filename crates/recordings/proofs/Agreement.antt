-- Laws of the answer of a comparison: agreement exactly if the
-- recordings agree, and otherwise the first failing fast tick.
use Rattle.recordings.proofs.Names.{◌≡◌, refl, sym, ap, ap₂, ◌∙◌, subst, Bool, true, false, cond, ◌&&◌, true≢false, List, [], ◌∷◌, ℕ, zero, suc, ◌+◌, ◌*◌, ◌/◌, ◌%◌, ◌<◌, arith, eqb-true, eq-eqb, eqb, ℤ, length}
use Rattle.recordings.proofs.Names.{get_or, int_eq, Decides-int_eq, Outcome, Ok, Err, good-same, both, Contents, contents, Reading, Large, take_reading, Refresh, refresh, refreshes, never}
use Rattle.recordings.proofs.Names.{shows_by, shows, pairs, right, Compared, Agree, Tick, compared_from, unlike, compare, Shown, Agrees, Right, FirstFailing, AgreesExactly, FailsFirst, EmptyAgree}
use Rattle.recordings.proofs.Ticks.{refreshes-length, six-times, compare-like}

-- ---- equal refreshes

refresh-is : (x y : Refresh) → (int_eq x.input y.input && int_eq x.shown y.shown) ≡ true → x ≡ y
refresh-is x y e =
    let (i, s) = both (int_eq x.input y.input) (int_eq x.shown y.shown) e in
    ap₂ refresh ((Decides-int_eq x.input y.input).0 i) ((Decides-int_eq x.shown y.shown).0 s)

-- ---- a tick

module _ (kind : ℕ) (image : List ℕ) where
  shown_by : (x : Refresh) (o : Outcome Reading) → take_reading kind image x.input Large ≡ o → shows_by x.shown o ≡ true → Shown kind image x
  shown_by x (Ok r) t e = record { reading = r; taken = t; is = (Decides-int_eq r.fraction x.shown).0 e }
  shown_by x (Err r) t e = absurd (true≢false (sym e))

  shown : (x : Refresh) → shows kind image x ≡ true → Shown kind image x
  shown x e = shown_by x (take_reading kind image x.input Large) refl e

  is-shown : (x : Refresh) → Shown kind image x → shows kind image x ≡ true
  is-shown x s = rw s.taken ((Decides-int_eq s.reading.fraction x.shown).1 s.is)

  module _ (slow : List Refresh) where
    paired : (k : ℕ) (x : Refresh) → pairs slow k x ≡ true → (t : ℕ) → k ≡ 6 * t → get_or slow t never ≡ x
    paired k x e t h =
        let z : k % 6 ≡ 0 = omega arith in
        let d : k / 6 ≡ t = omega arith in
        refresh-is (get_or slow t never) x (rw (eq-eqb (k % 6) 0 z, d) at e)

    is-paired : (k : ℕ) (x : Refresh) → ((t : ℕ) → k ≡ 6 * t → get_or slow t never ≡ x) → (t : Bool) → eqb (k % 6) 0 ≡ t → pairs slow k x ≡ true
    is-paired k x f false e = rw e
    is-paired k x f true e =
        let y = get_or slow (k / 6) never in
        let g = f (k / 6) (omega (arith, eqb-true (k % 6) 0 e)) in
        rw (e, (Decides-int_eq y.input x.input).1 (ap (λ (r : Refresh). r.input) g), (Decides-int_eq y.shown x.shown).1 (ap (λ (r : Refresh). r.shown) g))

    -- A tick with another expression for its number.
    recount : (m n : ℕ) (x : Refresh) {t : Bool} → m ≡ n → right kind image slow m x ≡ t → right kind image slow n x ≡ t
    recount m n x {t} e r = subst (λ (k : ℕ). right kind image slow k x ≡ t) e r

    right_is : (fast : List Refresh) (k : ℕ) → right kind image slow k (get_or fast k never) ≡ true → Right kind image slow fast k
    unfolding right
    right_is fast k e =
        let x = get_or fast k never in
        let (p, s) = both (pairs slow k x) (shows kind image x) e in
        record { paired = paired k x p; shown = shown x s }

    is_right : (fast : List Refresh) (k : ℕ) → Right kind image slow fast k → right kind image slow k (get_or fast k never) ≡ true
    unfolding right
    is_right fast k r =
        let x = get_or fast k never in
        rw (is-paired k x r.paired (eqb (k % 6) 0) refl, is-shown x r.shown)

    -- ---- from a tick on

    -- Every tick is right, or the first one that is not.
    agreed : (t : Bool) (rest : Compared) (n : ℕ) → cond t rest (Tick n) ≡ Agree → (t ≡ true) × (rest ≡ Agree)
    agreed true rest n e = (refl, e)
    agreed false rest n e = absurd (let z : ◌≡◌ {A = ℕ} 0 1 = cc in omega arith)

    all_right : (n : ℕ) (l : List Refresh) → compared_from kind image slow n l ≡ Agree → (j : ℕ) → j < length l → right kind image slow (n + j) (get_or l j never) ≡ true
    unfolding compared_from
    all_right n [] e j h = absurd (omega arith)
    all_right n (x ∷ l) e zero h = recount n (n + 0) x (omega arith) (agreed (right kind image slow n x) (compared_from kind image slow (suc n) l) n e).0
    all_right n (x ∷ l) e (suc j) h =
        recount (suc n + j) (n + suc j) (get_or l j never) (omega arith) (all_right (suc n) l (agreed (right kind image slow n x) (compared_from kind image slow (suc n) l) n e).1 j (omega arith))

    right-all : (n : ℕ) (l : List Refresh) → ((j : ℕ) → j < length l → right kind image slow (n + j) (get_or l j never) ≡ true) → compared_from kind image slow n l ≡ Agree
    unfolding compared_from
    right-all n [] f = refl
    right-all n (x ∷ l) f =
        let e = recount (n + 0) n x (omega arith) (f 0 (omega arith)) in
        ap (λ t. cond t (compared_from kind image slow (suc n) l) (Tick n)) e
        ∙ right-all (suc n) l (λ j h. recount (n + suc j) (suc n + j) (get_or l j never) (omega arith) (f (suc j) (omega arith)))

    -- The first tick that is not right, counted from n.
    record First (n : ℕ) (l : List Refresh) (k : ℕ) : Type 0 where
      at : ℕ
      is : k ≡ n + at
      inside : at < length l
      before : (j : ℕ) → j < at → right kind image slow (n + j) (get_or l j never) ≡ true
      fails : right kind image slow k (get_or l at never) ≡ false

    one_more : (n at : ℕ) (x : Refresh) (l : List Refresh) → right kind image slow n x ≡ true → ((j : ℕ) → j < at → right kind image slow (suc n + j) (get_or l j never) ≡ true) →
        (j : ℕ) → j < suc at → right kind image slow (n + j) (get_or (x ∷ l) j never) ≡ true
    one_more n at x l e f zero h = recount n (n + 0) x (omega arith) e
    one_more n at x l e f (suc j) h = recount (suc n + j) (n + suc j) (get_or l j never) (omega arith) (f j (omega arith))

    first_by : (n : ℕ) (x : Refresh) (l : List Refresh) (k : ℕ) → (compared_from kind image slow (suc n) l ≡ Tick k → First (suc n) l k) →
        (t : Bool) → right kind image slow n x ≡ t → cond t (compared_from kind image slow (suc n) l) (Tick n) ≡ Tick k → First n (x ∷ l) k
    first_by n x l k later true e f =
        let r = later f in
        record { at = suc r.at; is = omega (arith, r.is); inside = omega (arith, r.inside); before = one_more n r.at x l e r.before; fails = r.fails }
    first_by n x l k later false e f =
        let g : n ≡ k = cc in
        record { at = 0; is = omega arith; inside = omega arith; before = λ j h. absurd (omega arith); fails = recount n k x g e }

    first : (n : ℕ) (l : List Refresh) (k : ℕ) → compared_from kind image slow n l ≡ Tick k → First n l k
    unfolding compared_from
    first n [] k e = absurd (let z : ◌≡◌ {A = ℕ} 0 1 = cc in omega arith)
    first n (x ∷ l) k e = first_by n x l k (first (suc n) l k) (right kind image slow n x) refl e

    is-first : (n : ℕ) (l : List Refresh) (at : ℕ) → at < length l → ((j : ℕ) → j < at → right kind image slow (n + j) (get_or l j never) ≡ true) → right kind image slow (n + at) (get_or l at never) ≡ false →
        compared_from kind image slow n l ≡ Tick (n + at)
    unfolding compared_from
    is-first n [] at h f e = absurd (omega arith)
    is-first n (x ∷ l) zero h f e =
        let z : n + 0 ≡ n = omega arith in
        let g = recount (n + 0) n x z e in
        ap (λ t. cond t (compared_from kind image slow (suc n) l) (Tick n)) g ∙ ap Tick (sym z)
    is-first n (x ∷ l) (suc at) h f e =
        let z : suc n + at ≡ n + suc at = omega arith in
        let g = recount (n + 0) n x (omega arith) (f 0 (omega arith)) in
        ap (λ t. cond t (compared_from kind image slow (suc n) l) (Tick n)) g
        ∙ is-first (suc n) l at (omega arith) (λ j k. recount (n + suc j) (suc n + j) (get_or l j never) (omega arith) (f (suc j) (omega arith))) (recount (n + suc at) (suc n + at) (get_or l at never) (sym z) e)
        ∙ ap Tick z

    -- ---- from the first tick on

    module _ (fast : List Refresh) where
      agrees : length fast ≡ 6 * length slow → compared_from kind image slow 0 fast ≡ Agree → Agrees kind image slow fast
      agrees six e =
          let each : (k : ℕ) → k < length fast → Right kind image slow fast k = λ k h. right_is fast k (recount (0 + k) k (get_or fast k never) (omega arith) (all_right 0 fast e k h)) in
          record {
            paired = λ t h. (each (6 * t) (omega arith)).paired t refl;
            slow_shown = λ t h. rw ((each (6 * t) (omega arith)).paired t refl) (each (6 * t) (omega arith)).shown;
            fast_shown = λ k h. (each k h).shown;
          }

      is_agree : length fast ≡ 6 * length slow → Agrees kind image slow fast → compared_from kind image slow 0 fast ≡ Agree
      is_agree six a =
          right-all 0 fast λ k h. recount k (0 + k) (get_or fast k never) (omega arith) (is_right fast k (record {
            paired = λ t e. a.paired t (omega arith) ∙ ap (λ (n : ℕ). get_or fast n never) (sym e);
            shown = a.fast_shown k h;
          }))

      fails-first : (k : ℕ) → compared_from kind image slow 0 fast ≡ Tick k → FirstFailing kind image slow fast k
      fails-first k e =
          let r = first 0 fast k e in
          let z : r.at ≡ k = omega (arith, r.is) in
          record {
            inside = omega (arith, r.inside);
            before = λ j h. right_is fast j (recount (0 + j) j (get_or fast j never) (omega arith) (r.before j (omega arith)));
            fails = λ s.
                let w : ◌≡◌ {A = Bool} true false = sym (is_right fast k s) ∙ subst (λ (m : ℕ). right kind image slow k (get_or fast m never) ≡ false) z r.fails in
                true≢false w;
          }

      not_right : (k : ℕ) → (Right kind image slow fast k → ⊥) → (t : Bool) → right kind image slow k (get_or fast k never) ≡ t → t ≡ false
      not_right k f true e = absurd (f (right_is fast k e))
      not_right k f false e = refl

      is-fails : (k : ℕ) → FirstFailing kind image slow fast k → compared_from kind image slow 0 fast ≡ Tick k
      is-fails k r =
          let z : 0 + k ≡ k = omega arith in
          is-first 0 fast k r.inside (λ j h. recount j (0 + j) (get_or fast j never) (omega arith) (is_right fast j (r.before j h))) (recount k (0 + k) (get_or fast k never) (omega arith) (not_right k r.fails (right kind image slow k (get_or fast k never)) refl))
          ∙ ap Tick z

-- ---- Note 13

module _ (kind : ℕ) (image : List ℕ) (c : Contents) (slow fast : List ℤ) (accepted : contents kind image ≡ Ok c) (like : unlike (length slow) (length fast) ≡ false) where
  ticks : length (refreshes fast) ≡ 6 * length (refreshes slow)
  ticks = omega (arith, refreshes-length slow, refreshes-length fast, six-times (length slow) (length fast) like)

  compared : (x : Compared) → compare kind image slow fast ≡ Ok x → compared_from kind image (refreshes slow) 0 (refreshes fast) ≡ x
  compared x e = good-same (compare-like kind image slow fast accepted like ∙ e)

  comparing : (x : Compared) → compared_from kind image (refreshes slow) 0 (refreshes fast) ≡ x → compare kind image slow fast ≡ Ok x
  comparing x e = sym (compare-like kind image slow fast accepted like) ∙ ap Ok e

pub agrees-exactly : AgreesExactly
agrees-exactly kind image c slow fast accepted like = (
  λ e. agrees kind image (refreshes slow) (refreshes fast) (ticks kind image c slow fast accepted like) (compared kind image c slow fast accepted like Agree e),
  λ a. comparing kind image c slow fast accepted like Agree (is_agree kind image (refreshes slow) (refreshes fast) (ticks kind image c slow fast accepted like) a),
)

pub fails-at-first : FailsFirst
fails-at-first kind image c slow fast k accepted like = (
  λ e. fails-first kind image (refreshes slow) (refreshes fast) k (compared kind image c slow fast accepted like (Tick k) e),
  λ r. comparing kind image c slow fast accepted like (Tick k) (is-fails kind image (refreshes slow) (refreshes fast) k r),
)

pub empty-agree : EmptyAgree
unfolding compared_from
empty-agree kind image c accepted = comparing kind image c [] [] accepted refl Agree refl
