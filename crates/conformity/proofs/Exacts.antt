-- Laws of a correction at a whole position, by parts; and by the number of lent points before it.
use Rattle.conformity.proofs.Names.{◌≡◌, refl, sym, ap, ◌∙◌, true, false, cond, List, [], ◌∷◌, ℕ, zero, suc, ◌+◌, ◌*◌, ◌/◌, ◌^◌, ◌≤◌, ◌<◌, mul-le-mul_right, arith, ℤ, pos, nat_abs, ◌-ℤ◌, ◌*ℤ◌, length, get_or, le_z}
use Rattle.conformity.proofs.Names.{◌<ℤ◌, up, dn, ◌over◌, same, abs-parts, nle_z-parts, parts-<ℤ, is_true, is_false, Pair, no_pair, pairs_lent, pair_at, pairs-length, point_of, Before, at_end, between, correction_after}
use Rattle.conformity.proofs.Names.{correction, Between, Table, scaled, Ahead, at, weights-run, weights-num, gap_parts, gaps, Pieced, first_piece, last-piece, next-piece, figures-at, next-between, Corrected}
use Rattle.conformity.proofs.Names.{Exact}

-- ---- by parts

pub exact_none : (r : Corrected) (p : ℤ) (pairs : List Pair) → r.above ≡ 0 → r.below ≡ 0 → r.run ≡ 1 → length pairs ≡ 0 → Exact r (correction p 1 pairs)
unfolding correction
exact_none r p [] a b n e = record { sized = record { some = omega arith; run = omega arith; above = omega arith; below = omega arith }; run = n; num = omega arith }
exact_none r p (x ∷ pairs) a b n e = absurd (omega arith)

pub exact-held : (r : Corrected) (q : Pair) → nat_abs q.deviation ≤ 2 ^ 32 → r.above ≡ up q.deviation → r.below ≡ dn q.deviation → r.run ≡ 1 → Exact r (at_end 1 q)
exact-held r q h a b n = record {
  sized = record { some = omega arith; run = omega arith; above = omega (arith, abs-parts q.deviation); below = omega (arith, abs-parts q.deviation) };
  run = n;
  num = omega (arith, scaled q.deviation 1);
}

module _ (p : ℤ) (before behind : Pair) {past left : ℕ} (h : Between point_of p before behind) (hp : pos past ≡ p -ℤ before.point) (hl : pos left ≡ behind.point -ℤ p) where
  l : Ahead (at before) (p over 1) past
  l = omega (arith, gap_parts p before.point hp)

  r : Ahead (p over 1) (at behind) left
  r = omega (arith, gap_parts behind.point p hl)

  pub exact-between : (x : Corrected) → x.above ≡ up before.deviation * left + up behind.deviation * past → x.below ≡ dn before.deviation * left + dn behind.deviation * past → x.run ≡ past + left →
      Exact x (between p 1 before behind)
  unfolding between
  exact-between x a b n = record {
    sized = record {
      some = omega (arith, run.0);
      run = omega (arith, run.1);
      above = omega (arith, mul-le-mul_right left us, mul-le-mul_right past ut);
      below = omega (arith, mul-le-mul_right left ds, mul-le-mul_right past dt);
    };
    run = omega (arith, weights-run before behind h.rise l r);
    num = omega (arith, weights-num before behind h.rise l r);
  }
    where
      run : (0 < past + left) × (past + left ≤ 2 ^ 30)
      run = (gaps p before behind h hp hl).run

      us : up before.deviation ≤ 2 ^ 32
      us = omega (arith, abs-parts before.deviation, h.first.deviation)

      ut : up behind.deviation ≤ 2 ^ 32
      ut = omega (arith, abs-parts behind.deviation, h.second.deviation)

      ds : dn before.deviation ≤ 2 ^ 32
      ds = omega (arith, abs-parts before.deviation, h.first.deviation)

      dt : dn behind.deviation ≤ 2 ^ 32
      dt = omega (arith, abs-parts behind.deviation, h.second.deviation)

-- ---- by the pairs before a position

-- The correction depends on the points.
pub correction-pieced : (p : ℤ) → Pieced point_of p (at_end 1) (between p 1) (correction_after p 1) (correction p 1)
unfolding correction correction_after
correction-pieced p = record {
  last = λ a. refl;
  next = λ a b pairs. ap (λ (z : ℤ). cond (le_z p z) (between p 1 a b) (correction_after p 1 b pairs)) (once b.point);
  first = λ a pairs. ap (λ (z : ℤ). cond (le_z p z) (at_end 1 a) (correction_after p 1 a pairs)) (once a.point);
}
  where
    once : (z : ℤ) → z *ℤ pos 1 ≡ z
    once z = same (z *ℤ pos 1) z (omega (arith, scaled z 1))

-- Pair i of the lent points.
pub pair-lent : (l : List ℤ) (i : ℕ) → i < length l / 2 → get_or (pairs_lent l) i no_pair ≡ pair_at l i
pair-lent [] i h = absurd (omega arith)
pair-lent (a ∷ []) i h = absurd (omega arith)
pair-lent (a ∷ s ∷ l) zero h = refl
pair-lent (a ∷ s ∷ l) (suc i) h = pair-lent l i (omega arith) ∙ λ j. record { point = get_or (a ∷ s ∷ l) (even j) (pos 0); deviation = get_or (a ∷ s ∷ l) (odd j) (pos 0) }
  where
    even : suc (suc (2 * i)) ≡ 2 * suc i
    even = omega arith

    odd : suc (suc (2 * i + 1)) ≡ 2 * suc i + 1
    odd = omega arith

pub deviation-at : (points : List ℤ) → Table (pairs_lent points) → (q : Pair) (i : ℕ) → i < length points / 2 → q ≡ pair_at points i → nat_abs q.deviation ≤ 2 ^ 32
deviation-at points t q i l e = rw (e ∙ sym (pair-lent points i l)) (figures-at (pairs_lent points) t.figures i (omega (arith, pairs-length points))).deviation

module _ (points : List ℤ) (t : Table (pairs_lent points)) (p : ℤ) (n : ℕ) (b : Before point_of (pairs_lent points) p n) where
  count : length (pairs_lent points) ≡ length points / 2
  count = pairs-length points

  pub first-at : n ≡ 0 → 0 < length points / 2 → (q : Pair) → q ≡ pair_at points 0 → at_end 1 q ≡ correction p 1 (pairs_lent points)
  first-at e l q h = first_piece point_of p _ _ _ _ (correction-pieced p) (pairs_lent points) (rw e at b) (omega (arith, count)) q (h ∙ sym (pair-lent points 0 l))

  module _ (i : ℕ) (e : n ≡ i + 1) (q : Pair) (h : q ≡ pair_at points i) where
    is : q ≡ get_or (pairs_lent points) i no_pair
    is = h ∙ sym (pair-lent points i (omega (arith, b.most, count)))

    pub last-at : n ≡ length points / 2 → at_end 1 q ≡ correction p 1 (pairs_lent points)
    last-at l = last-piece point_of p _ _ _ _ (correction-pieced p) (pairs_lent points) t.rises i n e b q is (omega (arith, count))

    module _ (l : n < length points / 2) (r : Pair) (g : r ≡ pair_at points n) where
      next-is : r ≡ get_or (pairs_lent points) n no_pair
      next-is = g ∙ sym (pair-lent points n l)

      pub between-at : Between point_of p q r
      between-at = next-between point_of p (pairs_lent points) t i n e b q is (omega (arith, count)) r next-is

      pub next-at : between p 1 q r ≡ correction p 1 (pairs_lent points)
      next-at = next-piece point_of p _ _ _ _ (correction-pieced p) (pairs_lent points) t.rises i n e b q is (omega (arith, count)) r next-is

-- ---- the search from point to point

-- n of the points are passed: the last of them is before p.
pub record Passed (points : List ℤ) (p : ℤ) (n : ℕ) : Type 0 where
  pub most : n ≤ length points / 2
  pub below : (k : ℕ) → k + 1 ≡ n → (pair_at points k).point <ℤ p

module _ (points : List ℤ) (p : ℤ) (n : ℕ) (h : Passed points p n) where
  lower : (k : ℕ) → k + 1 ≡ n → (get_or (pairs_lent points) k no_pair).point <ℤ p
  lower k e = rw (pair-lent points k (omega (arith, h.most))) (h.below k e)

  pub passed-all : length points / 2 ≤ n → Before point_of (pairs_lent points) p n
  passed-all l = record { most = omega (arith, h.most, pairs-length points); below = lower; above = λ i. absurd (omega (arith, pairs-length points)) }

  pub passed-stops : n < length points / 2 → le_z p (get_or points (2 * n) (pos 0)) ≡ true → Before point_of (pairs_lent points) p n
  passed-stops l t = record { most = omega (arith, h.most, pairs-length points); below = lower; above = λ i. rw (pair-lent points n l) (record { le = is_true t }) }

  pub passed-one : n < length points / 2 → le_z p (get_or points (2 * n) (pos 0)) ≡ false → Passed points p (n + 1)
  passed-one l t = record {
    most = omega arith;
    below = λ k e. let same : k ≡ n = omega arith in rw same (parts-<ℤ (get_or points (2 * n) (pos 0)) p (nle_z-parts p (get_or points (2 * n) (pos 0)) (is_false t)));
  }
