-- Laws of the fraction q that calls return: it depends on the pairs
-- before a position, it is small, and with the figure it is the reading.
use Rattle.reading.proofs.Names.{◌≡◌, refl, List, [], ◌∷◌, map, None, ℕ, ◌+◌, ◌^◌, ◌≤◌, ◌<◌, arith, ℤ, nat_abs, ◌+ℤ◌, length, get_or, Float, w64, SFits, to_z, of_z, to_z-of_z, add_parts, abs-parts, Pair, Domain}
use Rattle.reading.proofs.Names.{Electrical, Physical, no_pair, physical_figure, Calibration, bare, table, curve, Contents, pair_in, pairs_in, CalibrationAt, Before, correction_after, deviation, crossing_after}
use Rattle.reading.proofs.Names.{crossing, Table, near-abs, deviation-small, crossing-small, Pieced, first_piece, last-piece, next-piece, rounded, deviation-pieced, crossing-pieced, none-deviates, none-crosses}
use Rattle.reading.proofs.Names.{None, Some, Opened, domain_in, Opens, holding, Span, position, fraction, physical_fraction, reading_at, figure_in, held_in, between_in}
use Rattle.reading.specs.Reading.{fraction_by}
use Rattle.reading.proofs.Opening.{RisesIn, pairs-table, pairs-rise}

-- ---- by the pairs before a position

abbrev after_in : Domain → ℤ → Pair → List Pair → ℤ
after_in Electrical p a pairs = p +ℤ rounded (correction_after p 1 a pairs)
after_in Physical p a pairs = crossing_after p a pairs

fraction-pieced : (domain : Domain) (p : ℤ) → Pieced (figure_in domain) p (held_in domain p) (between_in domain p) (after_in domain p) (λ pairs. fraction_by domain pairs p)
fraction-pieced Electrical p = deviation-pieced p
fraction-pieced Physical p = crossing-pieced p

-- Without pairs the fraction is p.
pub none-shows : (domain : Domain) (p : ℤ) (pairs : List Pair) → length pairs ≡ 0 → p ≡ fraction_by domain pairs p
none-shows Electrical p [] e = none-deviates p
none-shows Physical p [] e = none-crosses p
none-shows domain p (a ∷ pairs) e = absurd (omega arith)

-- Pair i, v, is the last of the n before p, and q is the next.
module _ (domain : Domain) (p : ℤ) (pairs : List Pair) where
  pub first-shows : Before (figure_in domain) pairs p 0 → 0 < length pairs → (v : Pair) → v ≡ get_or pairs 0 no_pair → held_in domain p v ≡ fraction_by domain pairs p
  first-shows = first_piece (figure_in domain) p _ _ _ _ (fraction-pieced domain p) pairs

  module _ (r : RisesIn domain pairs) (i n : ℕ) (e : n ≡ i + 1) (b : Before (figure_in domain) pairs p n) (v : Pair) (ev : v ≡ get_or pairs i no_pair) where
    pub last-shows : n ≡ length pairs → held_in domain p v ≡ fraction_by domain pairs p
    last-shows = last-piece (figure_in domain) p _ _ _ _ (fraction-pieced domain p) pairs r i n e b v ev

    pub next-shows : n < length pairs → (q : Pair) → q ≡ get_or pairs n no_pair → between_in domain p v q ≡ fraction_by domain pairs p
    next-shows = next-piece (figure_in domain) p _ _ _ _ (fraction-pieced domain p) pairs r i n e b v ev

-- ---- by a calibration

-- If a calibration's table is not of domain 1, the fraction
-- is p plus the deviation; if not of domain 0, the crossing.
pub by-deviation : (k : Calibration) (p : ℤ) → (domain_in k ≡ Some Physical → ⊥) → fraction k p ≡ p +ℤ deviation (map pair_in (pairs_in k)) p
by-deviation bare p h = none-deviates p
by-deviation (table Electrical pairs) p h = refl
by-deviation (table Physical pairs) p h = absurd (h refl)
by-deviation (curve segments) p h = none-deviates p

pub by-crossing : (k : Calibration) (p : ℤ) → (domain_in k ≡ Some Electrical → ⊥) → fraction k p ≡ crossing (map pair_in (pairs_in k)) p
by-crossing bare p h = none-crosses p
by-crossing (table Electrical pairs) p h = absurd (h refl)
by-crossing (table Physical pairs) p h = refl
by-crossing (curve segments) p h = none-crosses p

-- ---- bounds

sum-small : (p d : ℤ) → nat_abs p ≤ 2 ^ 31 → nat_abs d ≤ 2 ^ 32 → nat_abs (p +ℤ d) ≤ 2 ^ 33
sum-small p d hp hd = omega (arith, near-abs {b = 2 ^ 33} 1 (p +ℤ d) (omega (arith, add_parts p d, abs-parts p, abs-parts d)))

by-small : (domain : Domain) (pairs : List Pair) (p : ℤ) → Table pairs → RisesIn domain pairs → nat_abs p ≤ 2 ^ 31 → nat_abs (fraction_by domain pairs p) ≤ 2 ^ 33
by-small Electrical pairs p t r h = sum-small p (deviation pairs p) h (deviation-small pairs p t)
by-small Physical pairs p t r h = crossing-small pairs p t r h

pub fraction-small : {kind : ℕ} {image : List ℕ} {o : Opened} {c : Contents} → Opens kind image o c → (p : ℤ) → nat_abs p ≤ 2 ^ 31 → nat_abs (fraction c.calibration p) ≤ 2 ^ 33
fraction-small {c = c} h p small = go _ c.calibration (holding h).formed.calibrated
  where
    go : (at : ℕ) (k : Calibration) → CalibrationAt at k → nat_abs (fraction k p) ≤ 2 ^ 33
    go at bare l = omega arith
    go at (table domain pairs) l = by-small domain (map pair_in pairs) p (pairs-table domain None _ pairs l.stand) (pairs-rise domain None _ pairs l.stand) small
    go at (curve segments) l = omega arith

-- ---- the reading

pub reading-made : (k : Calibration) (s : Span) (v : ℤ) {q : ℤ} {x y : Float} → SFits w64 q → q ≡ fraction k (position v s.least s.greatest) →
    y ≡ physical_fraction k (position v s.least s.greatest) → x ≡ physical_figure s.low s.high y →
    record { fraction = to_z w64 (of_z w64 q); figure = x } ≡ reading_at k s v
unfolding reading_at
reading-made k s v f e hy hx = rw (hx, hy, to_z-of_z f, e)
