-- Laws of the straight piece of a line at a whole position p, with its ends, if it has them.
use Rattle.correction.proofs.Names.{◌≡◌, refl, ap, subst, cond, List, [], ◌∷◌, ◌⊎◌, inl, inr, ⊎_elim, ℕ, ◌+◌, ◌*◌, ◌<◌, arith, ℤ, pos, ◌*ℤ◌, le_z, ◌<ℤ◌, up, dn, Fraction, ◌over◌, same, Pair, Correction, at_end}
use Rattle.correction.proofs.Names.{between, correction_after, correction, Rises, AtPoints}
use Rattle.correction.proofs.Distances.{Apart, apart-sym, apart-through}
use Rattle.correction.proofs.Order.{Ahead, AtMost, Below, through, by-test, is-up-to}
use Rattle.correction.proofs.Weights.{at, run, run-some, between-parts}
use Rattle.correction.proofs.Bends.{value, Is, is_none, is_held, is_right, is-start, onward}

-- ---- ends, on one side of p

-- `Inner y x` says that y is no farther from p than x.
module _ (Side : ℤ → Type 0) (Inner : ℤ → ℤ → Type 0) where
  -- A piece, on the positions of Here, ends at x, where G holds.
  pub record End (G Here : ℤ → Type 0) : Type 0 where
    pub x : ℤ
    pub point : G x
    pub side : Side x
    pub reach : (y : ℤ) → Side y → Inner y x → Here y

  -- A piece without an end on this side; then A holds.
  pub record Open (A : Type 0) (Here : ℤ → Type 0) : Type 0 where
    pub so : A
    pub reach : (y : ℤ) → Side y → Here y

  -- The end of the part that two pieces share.
  pub record Cut (G Here Here' : ℤ → Type 0) : Type 0 where
    pub x : ℤ
    pub point : G x
    pub side : Side x
    pub first : Here x
    pub second : Here' x

  module _ (self : (x : ℤ) → Inner x x) (total : (x y : ℤ) → Inner x y ⊎ Inner y x) {G Here Here' : ℤ → Type 0} where
    both : (a : End G Here) (b : End G Here') → Inner a.x b.x ⊎ Inner b.x a.x → Cut G Here Here'
    both a b (inl h) = record { x = a.x; point = a.point; side = a.side; first = a.reach a.x a.side (self a.x); second = b.reach a.x a.side h }
    both a b (inr h) = record { x = b.x; point = b.point; side = b.side; first = a.reach b.x b.side h; second = b.reach b.x b.side (self b.x) }

    pub cut : {A A' : Type 0} → End G Here ⊎ Open A Here → End G Here' ⊎ Open A' Here' → Cut G Here Here' ⊎ (A × A')
    cut (inl a) (inl b) = inl (both a b (total a.x b.x))
    cut (inl a) (inr b) = inl (record { x = a.x; point = a.point; side = a.side; first = a.reach a.x a.side (self a.x); second = b.reach a.x a.side })
    cut (inr a) (inl b) = inl (record { x = b.x; point = b.point; side = b.side; first = a.reach b.x b.side; second = b.reach b.x b.side (self b.x) })
    cut (inr a) (inr b) = inr (a.so, b.so)

-- Whole numbers, as positions.
abbrev pub Upto : ℤ → ℤ → Type 0
Upto y z = AtMost (y over 1) (z over 1)

abbrev pub From : ℤ → ℤ → Type 0
From y z = Upto z y

abbrev pub Past : ℤ → ℤ → Type 0
Past y z = Below (y over 1) (z over 1)

pub upto-self : (x : ℤ) → Upto x x
upto-self x = (0, omega arith)

-- ---- a piece

-- The value at p, u from l and w before r, is the mean.
pub record Mean (u w : ℕ) (L P R : ℤ) : Type 0 where
  pub is : (u + w) * up P + (w * dn L + u * dn R) ≡ (u + w) * dn P + (w * up L + u * up R)

module _ (p : ℤ) (G : ℤ → Type 0) where
  abbrev pub LeftEnd : (ℤ → Type 0) → Type 0
  LeftEnd = End (λ x. Past x p) From G

  abbrev pub RightEnd : (ℤ → Type 0) → Type 0
  RightEnd = End (Upto p) Upto G

  abbrev pub Level : (ℤ → ℤ) → Type 0
  Level num = (x : ℤ) → num p ≡ num x

  -- A straight line num x / den on the positions of Here. If it
  -- has no end on the left, it is level and has one on the right.
  pub record Piece : Type 1 where
    pub Here : ℤ → Type 0
    pub here : Here p
    pub num : ℤ → ℤ
    pub den : ℕ
    pub some : 0 < den
    pub straight : (l r : ℤ) (u w : ℕ) → Here l → Ahead (l over 1) (p over 1) u → Ahead (p over 1) (r over 1) w → Mean u w (num l) (num p) (num r)
    pub left : LeftEnd Here ⊎ Open (λ x. Past x p) From (Level num × RightEnd Here) Here
    pub right : RightEnd Here ⊎ Open (Upto p) Upto (Level num) Here

-- The correction c at x equals f.
pub record Same (x : ℤ) (c : Correction) (f : Fraction) : Type 0 where
  pub some : 0 < c.run
  pub is : Apart 0 1 (value (x over 1) c) f

level-mean : (u w : ℕ) (s : ℤ) → Mean u w s s s
level-mean u w s = omega arith

module _ {p : ℤ} {G : ℤ → Type 0} where
  -- Level up to b, and level from b on.
  abbrev level_before : (b s : ℤ) → G b → Upto p b → Piece p G
  level_before b s g h = record {
    Here = λ x. Upto x b;
    here = h;
    num = λ x. s;
    den = 1;
    some = omega arith;
    straight = λ l r u w i j k. level-mean u w s;
    left = inr (record { so = (λ x. refl, record { x = b; point = g; side = h; reach = λ y i j. j }); reach = λ y i. through (omega arith) i.0 h });
    right = inl (record { x = b; point = g; side = h; reach = λ y i j. j });
  }

  abbrev level-behind : (b s : ℤ) → G b → Past b p → Piece p G
  level-behind b s g h = record {
    Here = λ x. Upto b x;
    here = h.0;
    num = λ x. s;
    den = 1;
    some = omega arith;
    straight = λ l r u w i j k. level-mean u w s;
    left = inl (record { x = b; point = g; side = h; reach = λ y i j. j });
    right = inr (record { so = λ x. refl; reach = λ y i. through (omega arith) h.0 i });
  }

-- Three values of a straight line, n + z × k, at k, k + u and k + u + w.
affine : (u w k n n' z z' l l' m m' r r' : ℕ) → l + (n' + z' * k) ≡ l' + (n + z * k) → m + (n' + z' * (k + u)) ≡ m' + (n + z * (k + u)) → r + (n' + z' * (k + u + w)) ≡ r' + (n + z * (k + u + w)) →
    (u + w) * m + (w * l' + u * r') ≡ (u + w) * m' + (w * l + u * r)
affine u w k n n' z z' l l' m m' r r' e f g = omega (arith, ap (λ (x : ℕ). w * x) e, ap (λ (x : ℕ). (u + w) * x) f, ap (λ (x : ℕ). u * x) g)

module _ (a b : Pair) (rises : a.point <ℤ b.point) where
  straight-mean : (l p r : ℤ) (k u w : ℕ) → Ahead (at a) (l over 1) k → Ahead (l over 1) (p over 1) u → Ahead (p over 1) (r over 1) w →
      Mean u w (between l 1 a b).num (between p 1 a b).num (between r 1 a b).num
  straight-mean l p r k u w h i j = record {
    is =
        affine u w k _ _ _ _ _ _ _ _ _ _
        (between-parts a b rises {x = l over 1} {u = k} h)
        (between-parts a b rises {x = p over 1} {u = k + u} (omega (arith, h.is, i.is)))
        (between-parts a b rises {x = r over 1} {u = k + u + w} (omega (arith, h.is, i.is, j.is)));
  }

  module _ {p : ℤ} {G : ℤ → Type 0} where
    abbrev sloped : G a.point → G b.point → Past a.point p → Upto p b.point → Piece p G
    sloped g g' h h' = record {
      Here = λ x. Upto a.point x × Upto x b.point;
      here = (h.0, h');
      num = λ x. (between x 1 a b).num;
      den = run a b;
      some = run-some a b rises;
      straight = λ l r u w i j k. straight-mean l p r i.0.0 u w i.0.1 j k;
      left = inl (record { x = a.point; point = g; side = h; reach = λ y i j. (j, through (omega arith) i.0 h') });
      right = inl (record { x = b.point; point = g'; side = h'; reach = λ y i j. (through (omega arith) h.0 i, j) });
    }

-- ---- the piece of a list

module _ {p : ℤ} {G : ℤ → Type 0} where
  -- c equals the piece's line on the piece.
  abbrev pub Fits : (ℤ → Correction) → Piece p G → Type 0
  Fits c s = (x : ℤ) → s.Here x → Same x (c x) (s.num x over s.den)

  -- The piece is inside P.
  abbrev pub Inside : (ℤ → Type 0) → Piece p G → Type 0
  Inside P s = (x : ℤ) → s.Here x → P x

  -- c bends at b, and the piece is after it: at b itself c has its value from before.
  fits-past : (b : Pair) (c e : ℤ → Correction) → Is b.deviation (at b) (c b.point) → Is b.deviation (at b) (e b.point) → (s : Piece p G) → Fits e s → Inside (Upto b.point) s →
      Fits (λ x. cond (le_z x (b.point *ℤ pos 1)) (c x) (e x)) s
  fits-past b c e ic ie s fits inside x h = by-test (x over 1) b.point (λ i. Same x i (s.num x over s.den)) joint (λ l. fits x h)
    where
      joint : Upto x b.point → Same x (c x) (s.num x over s.den)
      joint l =
          let e' : b.point ≡ x = same b.point x (omega (arith, l.1.is, (inside x h).1.is)) in
          let jc : Is b.deviation (x over 1) (c x) = subst (λ (z : ℤ). Is b.deviation (z over 1) (c z)) e' ic in
          let je : Is b.deviation (x over 1) (e x) = subst (λ (z : ℤ). Is b.deviation (z over 1) (e z)) e' ie in
          record {
            some = jc.some;
            is = apart-through (omega arith) jc.is (apart-through (omega (arith, je.some)) (apart-sym je.is) (fits x h).is);
          }

-- c is s, or is the line between neighbours.
is_same : {s : ℤ} {c : Correction} (x : ℤ) → Is s (x over 1) c → Same x c (s over 1)
is_same x h = record { some = h.some; is = h.is }

between-same : (a b : Pair) → a.point <ℤ b.point → (x : ℤ) → Same x (between x 1 a b) ((between x 1 a b).num over run a b)
unfolding between
between-same a b rises x = record { some = run-some a b rises; is = omega arith }

-- p is not past b, or it is.
split : (p b : ℤ) → Upto p b ⊎ Past b p
split p b = by-test (p over 1) b {A = Unit {0}} (λ t. Upto p b ⊎ Past b p) {c = tt} {e = tt} inl inr

module _ (p : ℤ) (G : ℤ → Type 0) where
  -- The piece of c that contains p.
  pub record Found (c : ℤ → Correction) (P : ℤ → Type 0) : Type 1 where
    pub piece : Piece p G
    pub fits : Fits c piece
    pub inside : Inside P piece

  after : (a : Pair) (pairs : List Pair) → Rises (a ∷ pairs) → AtPoints G (a ∷ pairs) → Past a.point p → Found (λ x. correction_after x 1 a pairs) (Upto a.point)
  unfolding correction_after
  after a [] rises points past = record { piece = level-behind a.point a.deviation points.0 past; fits = λ x h. is_same x (is_held a (x over 1)); inside = λ x h. h }
  after a (b ∷ pairs) rises points past =
      ⊎_elim
      (λ h. record {
        piece = sloped a b rises.0 points.0 points.1.0 past h;
        fits = λ x i. rw (is-up-to (x over 1) b.point i.1) (between-same a b rises.0 x);
        inside = λ x i. i.0;
      })
      (λ h.
      let f = after b pairs rises.1 points.1 h in
      record {
        piece = f.piece;
        fits = fits-past b (λ x. between x 1 a b) (λ x. correction_after x 1 b pairs) (is_right a b rises.0) (is-start b pairs rises.1) f.piece f.fits f.inside;
        inside = λ x i. through (omega arith) (onward a b rises.0) (f.inside x i);
      })
      (split p b.point)

  -- A list without points has an end at any position b.
  pub find : (b : ℤ) → G b → (pairs : List Pair) → Rises pairs → AtPoints G pairs → Found (λ x. correction x 1 pairs) (λ x. Unit {0})
  unfolding correction
  find b g [] rises points =
      ⊎_elim
      (λ h. record { piece = level_before b (pos 0) g h; fits = λ x i. is_same x (is_none (x over 1)); inside = λ x i. tt })
      (λ h. record { piece = level-behind b (pos 0) g h; fits = λ x i. is_same x (is_none (x over 1)); inside = λ x i. tt })
      (split p b)
  find b g (a ∷ pairs) rises points =
      ⊎_elim
      (λ h. record {
        piece = level_before a.point a.deviation points.0 h;
        fits = λ x i. rw (is-up-to (x over 1) a.point i) (is_same x (is_held a (x over 1)));
        inside = λ x i. tt;
      })
      (λ h.
      let f = after a pairs rises points h in
      record {
        piece = f.piece;
        fits = fits-past a (λ x. at_end 1 a) (λ x. correction_after x 1 a pairs) (is_held a (at a)) (is-start a pairs rises) f.piece f.fits f.inside;
        inside = λ x i. tt;
      })
      (split p a.point)
