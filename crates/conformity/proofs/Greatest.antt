-- Laws of the difference of two corrections at a point
-- of one of them, and of the greatest over its points.
use Rattle.std.specs.Int.{abs_diff}
use Rattle.conformity.proofs.Names.{⊎_elim, ◌≡◌, refl, sym, ap, ap₂, ◌∙◌, subst, List, [], ◌∷◌, inl, inr, ℕ, zero, suc, max, ◌+◌, ◌*◌, ◌/◌, ◌≤◌, ◌<◌, mul-pos, mul_comm, add-one, arith, ℤ, pos, negsuc, nat_abs, ◌-ℤ◌, ◌*ℤ◌}
use Rattle.conformity.proofs.Names.{length, get_or, ◌<ℤ◌, up, dn, ◌over◌, sub-parts-ℤ, lt_z-parts, parts-≤ℤ, parts-<ℤ, Pair, no_pair, pairs_lent, pair_at, pairs-length, pairs_from, pairs-left, pairs_end, point_of, Before}
use Rattle.conformity.proofs.Names.{Rises, Table, Correction, correction, scaled, at, Is, is_held, is_right, correction-some, first_piece, next-piece, rise-at, ceiling, Corrected, difference, difference_at}
use Rattle.conformity.proofs.Names.{greatest_over, compared_with, Exact, Apart, upward_difference, ceiling-same}
use Rattle.conformity.proofs.Exacts.{correction-pieced, pair-lent}

-- ---- whole numbers

-- b is k × a, by parts.
pub abs-multiple : (a b : ℤ) (k : ℕ) → up b + k * dn a ≡ dn b + k * up a → nat_abs b ≡ k * nat_abs a
abs-multiple (pos n) (pos m) k e = omega arith
abs-multiple (pos n) (negsuc m) k e = absurd (omega arith)
abs-multiple (negsuc n) (pos m) k e = omega arith
abs-multiple (negsuc n) (negsuc m) k e = omega arith

-- The distance of u and d.
pub apart-abs : (z : ℤ) (u d r : ℕ) → Apart u d r → up z + d ≡ dn z + u → r ≡ nat_abs z
apart-abs (pos n) u d r (inl e) h = omega arith
apart-abs (pos n) u d r (inr e) h = omega arith
apart-abs (negsuc n) u d r (inl e) h = omega arith
apart-abs (negsuc n) u d r (inr e) h = omega arith

-- ---- at a point of one of the lists

module _ (s : ℤ) (e : Correction) where
  abbrev off : ℤ
  off = s *ℤ pos e.run -ℤ e.num

  pub off-parts : up off + (dn s * e.run + up e.num) ≡ dn off + (up s * e.run + dn e.num)
  off-parts = omega (arith, sub-parts-ℤ (s *ℤ pos e.run) e.num, scaled s e.run)

  -- At a position where c is s.
  pub own-difference : (x : ℤ) (c : Correction) → Is s (x over 1) c → 0 < e.run → upward_difference s e ≡ difference c e
  own-difference x c i some =
      ceiling-same (2000 * nat_abs off) e.run (2000 * nat_abs both) (c.run * e.run) some (mul-pos i.some some)
      (omega (arith, ap (λ (n : ℕ). n * e.run) (abs-multiple off both c.run parts)))
    where
      both : ℤ
      both = c.num *ℤ pos e.run -ℤ e.num *ℤ pos c.run

      parts : up both + c.run * dn off ≡ dn both + c.run * up off
      parts =
          omega (
            arith,
            ap (λ (n : ℕ). c.run * n) off-parts,
            sub-parts-ℤ (c.num *ℤ pos e.run) (e.num *ℤ pos c.run),
            scaled c.num e.run,
            scaled e.num c.run,
            ap (λ (n : ℕ). n * e.run) own,
          )
        where
          own : up c.num + dn s * c.run ≡ dn c.num + up s * c.run
          own = omega (arith, i.is.near.high, i.is.near.low)

-- The difference in either direction.
opposite : (a b : ℤ) → up a + up b ≡ dn a + dn b → nat_abs a ≡ nat_abs b
opposite (pos n) (pos m) e = omega arith
opposite (pos n) (negsuc m) e = omega arith
opposite (negsuc n) (pos m) e = omega arith
opposite (negsuc n) (negsuc m) e = absurd (omega arith)

pub difference-sym : (c e : Correction) → difference c e ≡ difference e c
difference-sym c e =
    let x = c.num *ℤ pos e.run in
    let y = e.num *ℤ pos c.run in
    ap₂ (λ (n d : ℕ). ceiling (2000 * n) d) (opposite (x -ℤ y) (y -ℤ x) (omega (arith, sub-parts-ℤ x y, sub-parts-ℤ y x))) (mul_comm c.run e.run)

-- The difference of a deviation and a correction, by parts.
pub exact-difference : (s : ℤ) (e : Correction) (x : Corrected) → Exact x e → (u d r : ℕ) → u ≡ up s → d ≡ dn s → Apart (u * x.run + x.below) (d * x.run + x.above) r → ceiling (2000 * r) x.run ≡ upward_difference s e
exact-difference s e x h u d r eu ed a =
    ap₂ (λ (n run : ℕ). ceiling (2000 * n) run)
    (apart-abs (s *ℤ pos e.run -ℤ e.num) (u * x.run + x.below) (d * x.run + x.above) r a
    (omega (arith, off-parts s e, h.num, ap (λ (n : ℕ). up s * n) h.run, ap (λ (n : ℕ). dn s * n) h.run, ap (λ (n : ℕ). n * x.run) eu, ap (λ (n : ℕ). n * x.run) ed)))
    h.run

-- The library's distance of two numbers.
pub apart-is : {a b r : ℕ} → r ≡ abs_diff a b → Apart a b r
apart-is {a} {b} {r} e = go a b r e
  where
    go : (m n q : ℕ) → q ≡ abs_diff m n → Apart m n q
    go zero n q e = inr (omega (arith, e))
    go (suc m) zero q e = inl (omega (arith, e))
    go (suc m) (suc n) q e = ⊎_elim (λ f. inl (omega (arith, f))) (λ f. inr (omega (arith, f))) (go m n q (omega (arith, e)))

-- A distance is at most the greater of the two numbers.
pub apart-most : {a b r M : ℕ} → Apart a b r → a ≤ M → b ≤ M → r ≤ M
apart-most (inl e) ha hb = omega arith
apart-most (inr e) ha hb = omega arith

-- At a point of a list the correction is that point's deviation.
pub own-point : (pairs : List Pair) → Rises pairs → (i : ℕ) → i < length pairs → (q : Pair) → q ≡ get_or pairs i no_pair → Is q.deviation (at q) (correction q.point 1 pairs)
own-point pairs rises zero l q e =
    rw (sym (first_piece point_of q.point _ _ _ _ (correction-pieced q.point) pairs
    (record { most = omega arith; below = λ k h. absurd (omega arith); above = λ h. rw (sym e) (parts-≤ℤ q.point q.point (omega arith)) }) l q e)) (is_held q (at q))
own-point pairs rises (suc i) l q e =
    let before : Pair = get_or pairs i no_pair in
    let up : before.point <ℤ q.point = rw e (rise-at pairs rises i l) in
    rw (sym (next-piece point_of q.point _ _ _ _ (correction-pieced q.point) pairs rises i (suc i) (sym (add-one i))
    (record { most = omega arith; below = λ k h. let same : k ≡ i = omega arith in rw same up; above = λ h. rw (sym e) (parts-≤ℤ q.point q.point (omega arith)) })
    before refl l q e)) (is_right before q up)

-- ---- the greatest over the points left

module _ (of : ℤ → ℕ) (points : List ℤ) (i : ℕ) where
  pub greatest-end : length points / 2 ≤ i → greatest_over of (pairs_from points i) ≡ 0
  greatest-end h = ap (greatest_over of) (pairs_end points i h)

  pub greatest-next : i < length points / 2 → greatest_over of (pairs_from points i) ≡ max (of (pair_at points i).point) (greatest_over of (pairs_from points (i + 1)))
  greatest-next h = ap (greatest_over of) (pairs-left points i h)

module _ (own other : List ℤ) (t : Table (pairs_lent own)) (u : Table (pairs_lent other)) (i : ℕ) (l : i < length own / 2) where
  abbrev q : Pair
  q = pair_at own i

  own_is : Is q.deviation (at q) (correction q.point 1 (pairs_lent own))
  own_is = own-point (pairs_lent own) t.rises i (omega (arith, pairs-length own)) q (sym (pair-lent own i l))

  pub own-at : upward_difference q.deviation (correction q.point 1 (pairs_lent other)) ≡ difference_at (pairs_lent own) (pairs_lent other) q.point
  own-at =
      own-difference q.deviation (correction q.point 1 (pairs_lent other)) q.point (correction q.point 1 (pairs_lent own)) own_is
      (correction-some (q.point over 1) (pairs_lent other) u.rises)

-- The points of `other` before one point of `own` are before the next.
pub record Follows (own other : List ℤ) (n i : ℕ) : Type 0 where
  pub most : n ≤ length other / 2
  pub below : i < length own / 2 → (k : ℕ) → k + 1 ≡ n → (pair_at other k).point <ℤ (pair_at own i).point

pub follows_on : (own other : List ℤ) (n i : ℕ) → Table (pairs_lent own) → Before point_of (pairs_lent other) (pair_at own i).point n → Follows own other n (i + 1)
follows_on own other n i t b = record {
  most = omega (arith, b.most, pairs-length other);
  below = λ l k e.
      let first = pair-lent own i (omega arith) in
      let second : get_or (pairs_lent own) (suc i) no_pair ≡ pair_at own (i + 1) = ap (λ (n : ℕ). get_or (pairs_lent own) n no_pair) (sym (add-one i)) ∙ pair-lent own (i + 1) l in
      let risen : (pair_at own i).point <ℤ (pair_at own (i + 1)).point =
      subst (λ (x : Pair). x.point <ℤ (pair_at own (i + 1)).point) first
      (subst (λ (y : Pair). (get_or (pairs_lent own) i no_pair).point <ℤ y.point) second (rise-at (pairs_lent own) t.rises i (omega (arith, pairs-length own)))) in
      let low : (pair_at other k).point <ℤ (pair_at own i).point =
      subst (λ (x : Pair). x.point <ℤ (pair_at own i).point) (pair-lent other k (omega (arith, b.most, pairs-length other))) (b.below k e) in
      parts-<ℤ (pair_at other k).point (pair_at own (i + 1)).point (omega (arith, lt_z-parts (pair_at other k).point (pair_at own i).point low.lt, lt_z-parts (pair_at own i).point (pair_at own (i + 1)).point risen.lt));
}

-- ---- in both directions

other_way : (a b pairs : List Pair) → greatest_over (difference_at a b) pairs ≡ greatest_over (difference_at b a) pairs
other_way a b [] = refl
other_way a b (p ∷ pairs) = ap₂ max (difference-sym (correction p.point 1 a) (correction p.point 1 b)) (other_way a b pairs)

pub compared_is : (K : ℕ) {most one two : ℕ} (front stored lent : List Pair) → front ≡ stored → most ≡ max one two → one ≡ greatest_over (difference_at front lent) front → two ≡ greatest_over (difference_at lent front) lent →
    record { slope = K; bound = 2000 + K + most } ≡ compared_with K stored lent
compared_is K front stored lent same m o t =
    ap (λ (n : ℕ). record { slope = K; bound = 2000 + K + n }) (m ∙ ap₂ max o (t ∙ other_way lent front lent))
    ∙ ap (λ (pairs : List Pair). compared_with K pairs lent) same
