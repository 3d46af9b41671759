-- Laws of two tables that agree at their points: they agree everywhere,
-- since the distance of their corrections is largest at a point.
use Rattle.correction.proofs.Names.{◌≡◌, ap, List, [], ◌∷◌, ◌⊎◌, inl, ⊎_elim, ℕ, ◌+◌, ◌*◌, ◌<◌, arith, ℤ, ◌+ℤ◌, up, dn, Fraction, ◌over◌, nearest, Pair, Correction, correction, deviation, certificate_line, Rises}
use Rattle.correction.proofs.Names.{Slopes, Agree, Conforms, AtPoints, WithinOf}
use Rattle.correction.proofs.Distances.{near-as, near-mean, near-divided, Apart, apart-sym, apart-as, apart-through}
use Rattle.correction.proofs.Order.{order}
use Rattle.correction.proofs.Bends.{value}
use Rattle.correction.proofs.Bound.{agree-apart, apart-agree, agreed-within}
use Rattle.correction.proofs.Pieces.{Open, Cut, cut, Upto, From, Past, upto-self, Mean, RightEnd, Level, Piece, Same, Fits, find}

-- ---- on a piece of both

-- a − a' is the mean of l − l' and r − r', also in parts of n; and the sum of two means.
times : (n u w a a' l l' r r' : ℕ) → (u + w) * a + (w * l' + u * r') ≡ (u + w) * a' + (w * l + u * r) → (u + w) * (a * n) + (w * (l' * n) + u * (r' * n)) ≡ (u + w) * (a' * n) + (w * (l * n) + u * (r * n))
times n u w a a' l l' r r' e = omega (arith, ap (λ (k : ℕ). n * k) e)

summed-means : (u w a a' l l' r r' b b' m m' q q' : ℕ) → (u + w) * a + (w * l' + u * r') ≡ (u + w) * a' + (w * l + u * r) → (u + w) * b + (w * m' + u * q') ≡ (u + w) * b' + (w * m + u * q) →
    w * (2000 * (l + m')) + u * (2000 * (r + q')) + (u + w) * (2000 * (a' + b)) ≡ (u + w) * (2000 * (a + b')) + (w * (2000 * (l' + m)) + u * (2000 * (r' + q)))
summed-means u w a a' l l' r r' b b' m m' q q' e f = omega arith

weighed : (n n' u w a a' l l' r r' b b' m m' q q' : ℕ) → (u + w) * a + (w * l' + u * r') ≡ (u + w) * a' + (w * l + u * r) → (u + w) * b + (w * m' + u * q') ≡ (u + w) * b' + (w * m + u * q) →
    w * (2000 * (l * n' + m' * n)) + u * (2000 * (r * n' + q' * n)) + (u + w) * (2000 * (a' * n' + b * n)) ≡ (u + w) * (2000 * (a * n' + b' * n)) + (w * (2000 * (l' * n' + m * n)) + u * (2000 * (r' * n' + q * n)))
weighed n n' u w a a' l l' r r' b b' m m' q q' e f =
    summed-means u w (a * n') (a' * n') (l * n') (l' * n') (r * n') (r' * n') (b * n) (b' * n) (m * n) (m' * n) (q * n) (q' * n)
    (times n' u w a a' l l' r r' e) (times n u w b b' m m' q q' f)

mean : {M : ℕ} (L P R L' P' R' : ℤ) (n n' u w : ℕ) → 0 < u + w → Mean u w L P R → Mean u w L' P' R' → Apart M 2000 (L over n) (L' over n') → Apart M 2000 (R over n) (R' over n') → Apart M 2000 (P over n) (P' over n')
mean L P R L' P' R' n n' u w some e e' h g = record {
  near =
      near-divided (u + w) some
      (near-as (weighed n n' u w (up P) (dn P) (up L) (dn L) (up R) (dn R) (up P') (dn P') (up L') (dn L') (up R') (dn R') e.is e'.is) (omega arith)
      (near-mean w u h.near g.near));
}

-- Corrections c and e that equal f and g.
to-line : {M : ℕ} (x : ℤ) (c e : Correction) (f g : Fraction) → Same x c f → Same x e g → Apart M 2000 (value (x over 1) c) (value (x over 1) e) → Apart M 2000 f g
to-line {M} x c e f g i j h =
    apart-as {C = 0 + (M + 0)} {n = 2000} (omega arith) (omega arith)
    (apart-through (omega (arith, i.some)) (apart-as {E = 0} {m = 2000} (omega arith) (omega arith) (apart-sym i.is))
    (apart-through (omega (arith, j.some)) h (apart-as {E = 0} {m = 2000} (omega arith) (omega arith) j.is)))

from-line : {M : ℕ} (x : ℤ) (c e : Correction) (f g : Fraction) → 0 < f.den → 0 < g.den → Same x c f → Same x e g → Apart M 2000 f g → Apart M 2000 (value (x over 1) c) (value (x over 1) e)
from-line {M} x c e f g hf hg i j h =
    apart-as {C = 0 + (M + 0)} {n = 2000} (omega arith) (omega arith)
    (apart-through hf (apart-as {E = 0} {m = 2000} (omega arith) (omega arith) i.is)
    (apart-through hg h (apart-as {E = 0} {m = 2000} (omega arith) (omega arith) (apart-sym j.is))))

module _ (M : ℕ) (c e : ℤ → Correction) (p : ℤ) where
  abbrev Good : ℤ → Type 0
  Good x = Agree M (c x) (e x)

  module _ (s t : Piece p Good) (fs : Fits c s) (ft : Fits e t) where
    abbrev Lines : ℤ → Type 0
    Lines x = Apart M 2000 (s.num x over s.den) (t.num x over t.den)

    down : (x : ℤ) → s.Here x → t.Here x → Good x → Lines x
    down x i j h = to-line x (c x) (e x) (s.num x over s.den) (t.num x over t.den) (fs x i) (ft x j) (agree-apart M x (c x) (e x) h)

    done : Lines p → Good p
    done h = apart-agree M p (c p) (e p) (from-line p (c p) (e p) (s.num p over s.den) (t.num p over t.den) s.some t.some (fs p s.here) (ft p t.here) h)

    -- Both lines are level.
    levelled : Level p Good s.num → Level p Good t.num → (x : ℤ) → Lines x → Lines p
    levelled i j x h = rw (i x, j x) h

    abbrev LeftCut : Type 0
    LeftCut = Cut (λ x. Past x p) From Good s.Here t.Here

    abbrev RightCut : Type 0
    RightCut = Cut (Upto p) Upto Good s.Here t.Here

    at_left : (l : LeftCut) → Lines l.x
    at_left l = down l.x l.first l.second l.point

    at_right : (r : RightCut) → Lines r.x
    at_right r = down r.x r.first r.second r.point

    -- Between the two ends of the common piece.
    within : (l : LeftCut) (r : RightCut) → Lines p
    within l r =
        let u = l.side.0.0 in
        let w = r.side.0 in
        mean (s.num l.x) (s.num p) (s.num r.x) (t.num l.x) (t.num p) (t.num r.x) s.den t.den u w (omega (arith, l.side.1))
        (s.straight l.x r.x u w l.first l.side.0.1 r.side.1) (t.straight l.x r.x u w l.second l.side.0.1 r.side.1)
        (at_left l) (at_right r)

    -- The right ends of both pieces: only the left line has one, only the right one, or both.
    rights : {A A' : Type 0} → RightEnd p Good s.Here ⊎ Open (Upto p) Upto A s.Here → RightEnd p Good t.Here ⊎ Open (Upto p) Upto A' t.Here → RightCut ⊎ (A × A')
    rights = cut (Upto p) Upto upto-self (λ x y. order (x over 1) (y over 1))

    pub joined : Good p
    joined =
        done
        (⊎_elim
        (λ l. ⊎_elim (within l) (λ (i, j). levelled i j l.x (at_left l)) (rights s.right t.right))
        (λ ((i, a), (j, b)). ⊎_elim (λ r. levelled i j r.x (at_right r)) (λ k. absurd k.0) (rights {A = ⊥} {A' = ⊥} (inl a) (inl b)))
        (cut (λ x. Past x p) From upto-self (λ x y. order (y over 1) (x over 1)) s.left t.left))

-- ---- everywhere

module _ (M : ℕ) (stored lent : List Pair) (stored-rises : Rises stored) (lent-rises : Rises lent) (at_stored : AtPoints (Conforms M stored lent) stored) (at-lent : AtPoints (Conforms M stored lent) lent) (p : ℤ) where
  -- The tables agree everywhere, given one position b at which they agree.
  conforms-from : (b : ℤ) → Conforms M stored lent b → Conforms M stored lent p
  conforms-from b h =
      let s = find p (Conforms M stored lent) b h stored stored-rises at_stored in
      let t = find p (Conforms M stored lent) b h lent lent-rises at-lent in
      joined M (λ x. correction x 1 stored) (λ x. correction x 1 lent) p s.piece t.piece s.fits t.fits

-- Tables that agree at each point of both agree at every whole position.
pub conforms : (M : ℕ) (stored lent : List Pair) → Rises stored → Rises lent → AtPoints (Conforms M stored lent) stored → AtPoints (Conforms M stored lent) lent → (p : ℤ) → Conforms M stored lent p
unfolding correction
conforms M [] [] rises rises' h h' p = omega arith
conforms M [] (b ∷ lent) rises rises' h h' p = conforms-from M [] (b ∷ lent) rises rises' h h' p b.point h'.0
conforms M (a ∷ stored) lent rises rises' h h' p = conforms-from M (a ∷ stored) lent rises rises' h h' p a.point h.0

-- ---- from the certificate line

-- q = p + deviation is within 1 + (K + M) / 2000 of the certificate
-- line at X / F, if p is the whole number nearest to X / F.
pub conforms-within : (M K : ℕ) (stored lent : List Pair) (X : ℤ) (F : ℕ) → 0 < F → Rises stored → Rises lent → Slopes K lent →
    AtPoints (Conforms M stored lent) stored → AtPoints (Conforms M stored lent) lent →
    let p = nearest (X over F) in
    WithinOf M K (p +ℤ deviation stored p) (certificate_line lent X F)
conforms-within M K stored lent X F some stored-rises rises slopes at_stored at-lent =
    agreed-within M K stored lent X F some stored-rises rises slopes (conforms M stored lent stored-rises rises at_stored at-lent (nearest (X over F)))
