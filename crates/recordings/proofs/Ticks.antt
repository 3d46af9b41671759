-- Laws of the refreshes of a recording in order, and of one turn of the comparison.
use Rattle.recordings.proofs.Names.{◌≡◌, refl, sym, ap, ap₂, ◌∙◌, true, false, not, ◌||◌, List, [], ◌∷◌, ℕ, zero, suc, ◌+◌, ◌*◌, ◌/◌, ◌%◌, ◌≤◌, ◌<◌, add-one, arith, eqb-true, eq-eqb, ne_eqb}
use Rattle.recordings.proofs.Names.{not-false, w64, SFits, to_z, of_z, to_z-of_z, eqb, ℤ, pos, length, drop, get_or, length-drop, drop-cons, Refusal, Ok, Err, neither, Contents, contents}
use Rattle.recordings.proofs.Names.{◌&&◌, int_eq, Decides-eqb, Decides-int_eq, Decides-like, same_from_decides, Refresh, refresh, refreshes, never, pairs, right, Agree, Tick, compared_from, unlike, compare, refresh_at}

-- ---- by tick

pub refreshes-length : (l : List ℤ) → length (refreshes l) ≡ length l / 2
refreshes-length [] = refl
refreshes-length (v ∷ []) = refl
refreshes-length (v ∷ q ∷ l) = omega (arith, refreshes-length l)

pub refresh-at : (l : List ℤ) (tick : ℕ) → tick < length l / 2 → get_or (refreshes l) tick never ≡ refresh_at l tick
refresh-at [] tick h = absurd (omega arith)
refresh-at (v ∷ []) tick h = absurd (omega arith)
refresh-at (v ∷ q ∷ l) zero h = refl
refresh-at (v ∷ q ∷ l) (suc tick) h =
    let e : suc (suc (2 * tick)) ≡ 2 * suc tick = omega arith in
    let f : suc (suc (2 * tick + 1)) ≡ 2 * suc tick + 1 = omega arith in
    refresh-at l tick (omega arith) ∙ ap₂ (λ (a b : ℕ). refresh (get_or (v ∷ q ∷ l) a (pos 0)) (get_or (v ∷ q ∷ l) b (pos 0))) e f

-- ---- the rest of a recording

abbrev pub refreshes_from : List ℤ → ℕ → List Refresh
refreshes_from l tick = refreshes (drop (2 * tick) l)

none : (l : List ℤ) → length l ≤ 1 → refreshes l ≡ []
none [] h = refl
none (v ∷ []) h = refl
none (v ∷ q ∷ l) h = absurd (omega arith)

module _ (l : List ℤ) (tick : ℕ) where
  refreshes-end : length l / 2 ≤ tick → refreshes_from l tick ≡ []
  refreshes-end h = none (drop (2 * tick) l) (omega (arith, length-drop (2 * tick) l))

  refreshes-left : tick < length l / 2 → refreshes_from l tick ≡ refresh_at l tick ∷ refreshes_from l (tick + 1)
  refreshes-left h =
      let e : suc (suc (2 * tick)) ≡ 2 * (tick + 1) = omega arith in
      let f : suc (2 * tick) ≡ 2 * tick + 1 = omega arith in
      ap refreshes (drop-cons l (2 * tick) (pos 0) (omega arith) ∙ ap (λ s. get_or l (2 * tick) (pos 0) ∷ s) (drop-cons l (suc (2 * tick)) (pos 0) (omega arith)))
      ∙ ap₂ (λ q s. refreshes (get_or l (2 * tick) (pos 0) ∷ q ∷ s)) (ap (λ (n : ℕ). get_or l n (pos 0)) f) (ap (λ (n : ℕ). drop n l) e)

-- ---- lengths

pub six-times : (slow fast : ℕ) → unlike slow fast ≡ false → fast / 2 ≡ 6 * (slow / 2)
six-times slow fast e =
    let t = eqb (fast / 2) (6 * (slow / 2)) in
    eqb-true (fast / 2) (6 * (slow / 2)) (not-false t (neither (eqb (slow % 2) 1 || eqb (fast % 2) 1) (not t) e).1)

-- ---- one tick

-- The test of two figures as the code has them.
pub eq-of-words : {a b : ℤ} → SFits w64 a → SFits w64 b → eqb (of_z w64 a) (of_z w64 b) ≡ int_eq a b
eq-of-words {a} {b} f g =
    same_from_decides _ _ (Decides-like _ (λ e. sym (to_z-of_z f) ∙ ap (to_z w64) e ∙ to_z-of_z g) (ap (of_z w64)) (Decides-eqb (of_z w64 a) (of_z w64 b))) (Decides-int_eq a b)

module _ (slow : List ℤ) (tick : ℕ) (x : Refresh) where
  pub unpaired : (tick % 6 ≡ 0 → ⊥) → true ≡ pairs (refreshes slow) tick x
  unpaired h = rw (ne_eqb (tick % 6) 0 h)

  pub paired : tick / 6 < length slow / 2 → tick % 6 ≡ 0 → {y : Refresh} → y ≡ refresh_at slow (tick / 6) → (int_eq y.input x.input && int_eq y.shown x.shown) ≡ pairs (refreshes slow) tick x
  paired h p e = rw (eq-eqb (tick % 6) 0 p, refresh-at slow (tick / 6) h, e)

-- ---- a turn

module _ (kind : ℕ) (image : List ℕ) (slow : List Refresh) (fast : List ℤ) (tick : ℕ) where
  pub turn_end : length fast / 2 ≤ tick → compared_from kind image slow tick (refreshes_from fast tick) ≡ Agree
  unfolding compared_from
  turn_end h = ap (compared_from kind image slow tick) (refreshes-end fast tick h)

  module _ (h : tick < length fast / 2) where
    pub turn-fails : right kind image slow tick (refresh_at fast tick) ≡ false → compared_from kind image slow tick (refreshes_from fast tick) ≡ Tick tick
    unfolding compared_from
    turn-fails e = ap (compared_from kind image slow tick) (refreshes-left fast tick h) ∙ rw e

    pub turn-next : right kind image slow tick (refresh_at fast tick) ≡ true →
        compared_from kind image slow tick (refreshes_from fast tick) ≡ compared_from kind image slow (tick + 1) (refreshes_from fast (tick + 1))
    unfolding compared_from
    turn-next e =
        ap (compared_from kind image slow tick) (refreshes-left fast tick h) ∙ (rw e)
        ∙ ap (λ (n : ℕ). compared_from kind image slow n (refreshes_from fast (tick + 1))) (sym (add-one tick))

-- ---- in the order of its rows: check, 26

module _ (kind : ℕ) (image : List ℕ) (slow fast : List ℤ) where
  pub compare-refused : {r : Refusal} → contents kind image ≡ Err r → Err r ≡ compare kind image slow fast
  unfolding compare
  compare-refused e = rw e

  module _ {c : Contents} (e : contents kind image ≡ Ok c) where
    pub compare-like : unlike (length slow) (length fast) ≡ false → Ok (compared_from kind image (refreshes slow) 0 (refreshes fast)) ≡ compare kind image slow fast
    unfolding compare
    compare-like t = rw (e, t)
