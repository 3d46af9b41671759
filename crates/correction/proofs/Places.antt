-- Laws of the search for a position in a table, and of values that depend
-- on the pairs before it: the deviation by points, the crossing by sums.
use Rattle.correction.proofs.Names.{◌≡◌, refl, sym, ap, ◌∙◌, Bool, true, false, cond, List, [], ◌∷◌, ℕ, zero, suc, ◌+◌, ◌≤◌, ◌<◌, add-one, arith, ℤ, pos, ◌+ℤ◌, ◌*ℤ◌, length, get_or, le_z, ◌≤ℤ◌, ◌<ℤ◌, ◌over◌, nearest}
use Rattle.correction.proofs.Names.{same, add_parts, le_z-parts, lt_z-parts, nle_z-parts, parts-<ℤ, le-le_z, lt-le_z, is_true, is_false, nearest-exact, Pair, Correction, at_end, between, correction_after, correction}
use Rattle.correction.proofs.Names.{deviation, sum, crossing_held, crossing_between, crossing_after, crossing, Neighbours, Rises, Figures, AllFigures, Between, Table, no_pair, point_of, Before}
use Rattle.correction.proofs.Distances.{scaled}

-- ---- the search

-- The last pair before `low` is below p, and the pair at `high` is not.
pub record Search (of : Pair → ℤ) (pairs : List Pair) (p : ℤ) (low high : ℕ) : Type 0 where
  pub order : low ≤ high
  pub most : high ≤ length pairs
  pub below : (k : ℕ) → k + 1 ≡ low → of (get_or pairs k no_pair) <ℤ p
  pub above : high < length pairs → p ≤ℤ of (get_or pairs high no_pair)

module _ (of : Pair → ℤ) (pairs : List Pair) (p : ℤ) where
  pub search-all : (n : ℕ) → n ≡ length pairs → Search of pairs p 0 n
  search-all n e = record { order = omega arith; most = omega arith; below = λ k l. absurd (omega arith); above = λ l. absurd (omega arith) }

  module _ (low high : ℕ) (h : Search of pairs p low high) where
    pub search-done : high ≤ low → Before of pairs p low
    search-done l = record { most = omega arith; below = h.below; above = λ i. let e : low ≡ high = omega arith in rw e (h.above (omega arith)) }

    -- The pair in the middle.
    module _ (middle : ℕ) (q : Pair) (e : q ≡ get_or pairs middle no_pair) (least : low ≤ middle) (most : middle < high) where
      pub search-left : le_z p (of q) ≡ true → Search of pairs p low middle
      search-left t = record { order = least; most = omega arith; below = h.below; above = λ i. record { le = is_true (rw e at t) } }

      pub search-right : le_z p (of q) ≡ false → Search of pairs p (middle + 1) high
      search-right t = record {
        order = omega arith;
        most = h.most;
        below = λ k l. let same : k ≡ middle = omega arith in rw (same, ← e) (parts-<ℤ (of q) p (nle_z-parts p (of q) (is_false t)));
        above = h.above;
      }

-- ---- values that depend on the search

-- A value that depends on where p is among pairs. `ends` is for before the first pair and after
-- the last, `inside` for between neighbours, `after` from a pair on, `all` for a whole list.
pub record Pieced {A : Type 0} (of : Pair → ℤ) (p : ℤ) (ends : Pair → A) (inside : Pair → Pair → A) (after : Pair → List Pair → A) (all : List Pair → A) : Type 0 where
  pub last : (a : Pair) → after a [] ≡ ends a
  pub next : (a b : Pair) (pairs : List Pair) → after a (b ∷ pairs) ≡ cond (le_z p (of b)) (inside a b) (after b pairs)
  pub first : (a : Pair) (pairs : List Pair) → all (a ∷ pairs) ≡ cond (le_z p (of a)) (ends a) (after a pairs)

module _ {A : Type 0} (of : Pair → ℤ) (p : ℤ) (ends : Pair → A) (inside : Pair → Pair → A) (after : Pair → List Pair → A) (all : List Pair → A) (h : Pieced of p ends inside after all) where
  up_to : (a : Pair) → p ≤ℤ of a → le_z p (of a) ≡ true
  up_to a l = le-le_z p (of a) (le_z-parts p (of a) l.le)

  behind : (a : Pair) → of a <ℤ p → le_z p (of a) ≡ false
  behind a l = lt-le_z p (of a) (lt_z-parts (of a) p l.lt)

  pub first_piece : (pairs : List Pair) → Before of pairs p 0 → 0 < length pairs → (v : Pair) → v ≡ get_or pairs 0 no_pair → ends v ≡ all pairs
  first_piece [] b l v e = absurd (omega arith)
  first_piece (a ∷ pairs) b l v e = rw (e, h.first a pairs, up_to a (b.above l))

  -- Pair i is the last before p: the first is before p too, and x is the value from pair i on.
  record Last (pairs : List Pair) (i : ℕ) (x : A) : Type 0 where
    first : of (get_or pairs 0 no_pair) <ℤ p
    end : length pairs ≡ suc i → ends (get_or pairs i no_pair) ≡ x
    next : suc i < length pairs → inside (get_or pairs i no_pair) (get_or pairs (suc i) no_pair) ≡ x

  last : (a : Pair) (pairs : List Pair) (i : ℕ) → Neighbours (λ a b. of a <ℤ of b) (a ∷ pairs) → Before of (a ∷ pairs) p (suc i) → Last (a ∷ pairs) i (after a pairs)
  last a [] zero r b = record { first = b.below 0 (omega arith); end = λ e. sym (h.last a); next = λ l. absurd (omega arith) }
  last a (q ∷ pairs) zero r b = record { first = b.below 0 (omega arith); end = λ e. absurd (omega arith); next = λ l. rw (h.next a q pairs, up_to q (b.above (omega arith))) }
  last a [] (suc i) r b = absurd (omega (arith, b.most))
  last a (q ∷ pairs) (suc i) r b =
      let k = last q pairs i r.1 (record { most = omega (arith, b.most); below = λ k e. b.below (suc k) (omega arith); above = λ l. b.above (omega arith) }) in
      let e : after a (q ∷ pairs) ≡ after q pairs = h.next a q pairs ∙ rw (behind q k.first) in
      record {
        first = parts-<ℤ (of a) p (omega (arith, lt_z-parts (of a) (of q) r.0.lt, lt_z-parts (of q) p k.first.lt));
        end = λ l. k.end (omega arith) ∙ sym e;
        next = λ l. k.next (omega arith) ∙ sym e;
      }

  last-in : (pairs : List Pair) (i : ℕ) → Neighbours (λ a b. of a <ℤ of b) pairs → Before of pairs p (suc i) → Last pairs i (all pairs)
  last-in [] i r b = absurd (omega (arith, b.most))
  last-in (a ∷ pairs) i r b = let k = last a pairs i r b in rw (h.first a pairs, behind a k.first) k

  -- Pair i, v, is the last of the n before p.
  module _ (pairs : List Pair) (r : Neighbours (λ a b. of a <ℤ of b) pairs) (i n : ℕ) (e : n ≡ i + 1) (b : Before of pairs p n) (v : Pair) (ev : v ≡ get_or pairs i no_pair) where
    found : Last pairs i (all pairs)
    found = last-in pairs i r (rw (e ∙ add-one i) at b)

    pub last-piece : n ≡ length pairs → ends v ≡ all pairs
    last-piece l = rw ev (found.end (omega arith))

    -- The pair q is the next.
    pub next-piece : n < length pairs → (q : Pair) → q ≡ get_or pairs n no_pair → inside v q ≡ all pairs
    next-piece l q eq = rw (ev, eq, e ∙ add-one i) (found.next (omega arith))

-- ---- neighbours

pub rise-at : (pairs : List Pair) → Rises pairs → (i : ℕ) → suc i < length pairs → (get_or pairs i no_pair).point <ℤ (get_or pairs (suc i) no_pair).point
rise-at [] h i l = absurd (omega arith)
rise-at (a ∷ []) h i l = absurd (omega arith)
rise-at (a ∷ b ∷ pairs) h zero l = h.0
rise-at (a ∷ b ∷ pairs) h (suc i) l = rise-at (b ∷ pairs) h.1 i (omega arith)

pub figures-at : (pairs : List Pair) → AllFigures pairs → (i : ℕ) → i < length pairs → Figures (get_or pairs i no_pair)
figures-at [] h i l = absurd (omega arith)
figures-at (a ∷ pairs) h zero l = h.0
figures-at (a ∷ pairs) h (suc i) l = figures-at pairs h.1 i (omega arith)

pub next-between : (of : Pair → ℤ) (p : ℤ) (pairs : List Pair) → Table pairs → (i n : ℕ) → n ≡ i + 1 → Before of pairs p n → (v : Pair) → v ≡ get_or pairs i no_pair →
    n < length pairs → (q : Pair) → q ≡ get_or pairs n no_pair → Between of p v q
next-between of p pairs t i n e b v ev l q eq = rw (ev, eq) (record {
  rise = rw (e ∙ add-one i) (rise-at pairs t.rises i (omega arith));
  past = b.below i (sym e);
  left = b.above l;
  first = figures-at pairs t.figures i (omega arith);
  second = figures-at pairs t.figures n l;
})

-- ---- the deviation and the crossing

abbrev pub rounded : Correction → ℤ
rounded c = nearest (c.num over c.run)

held-rounded : (a : Pair) → rounded (at_end 1 a) ≡ a.deviation
held-rounded a = nearest-exact a.deviation 1 (omega arith)

module _ (p : ℤ) where
  by-point : (b : ℤ) (c e : Correction) → p +ℤ rounded (cond (le_z p (b *ℤ pos 1)) c e) ≡ cond (le_z p b) (p +ℤ rounded c) (p +ℤ rounded e)
  by-point b c e = rw (same (b *ℤ pos 1) b (omega (arith, scaled b 1))) (go (le_z p b))
    where
      go : (t : Bool) → p +ℤ rounded (cond t c e) ≡ cond t (p +ℤ rounded c) (p +ℤ rounded e)
      go true = refl
      go false = refl

  -- p plus the deviation there depends on the points.
  pub deviation-pieced :
      Pieced point_of p (λ a. p +ℤ a.deviation) (λ a b. p +ℤ rounded (between p 1 a b)) (λ a pairs. p +ℤ rounded (correction_after p 1 a pairs)) (λ pairs. p +ℤ deviation pairs p)
  unfolding deviation correction correction_after
  deviation-pieced = record {
    last = λ a. ap (λ (z : ℤ). p +ℤ z) (held-rounded a);
    next = λ a b pairs. by-point b.point (between p 1 a b) (correction_after p 1 b pairs);
    first = λ a pairs.
        by-point a.point (at_end 1 a) (correction_after p 1 a pairs)
        ∙ ap (λ (z : ℤ). cond (le_z p a.point) (p +ℤ z) (p +ℤ rounded (correction_after p 1 a pairs))) (held-rounded a);
  }

  -- The crossing depends on the sums.
  pub crossing-pieced : Pieced sum p (crossing_held p) (crossing_between p) (crossing_after p) (λ pairs. crossing pairs p)
  unfolding crossing crossing_after
  crossing-pieced = record { last = λ a. refl; next = λ a b pairs. refl; first = λ a pairs. refl }

  -- Without points both are p.
  pub none-deviates : p ≡ p +ℤ deviation [] p
  unfolding deviation correction
  none-deviates = rw (nearest-exact (pos 0) 1 (omega arith)) (same p (p +ℤ pos 0) (omega (arith, add_parts p (pos 0))))

  pub none-crosses : p ≡ crossing [] p
  unfolding crossing
  none-crosses = refl
