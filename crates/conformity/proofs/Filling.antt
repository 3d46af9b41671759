-- Laws of writing the pairs of a sheet into an array of points by turns.
use Rattle.conformity.proofs.Names.{◌≡◌, ap₂, ◌∙◌, subst, List, ℕ, ◌+◌, ◌*◌, ◌≤◌, ◌<◌, dec_le, arith, ℤ, pos, length, get_or, take, set, length-set, length-map, length-take-le, get_or-set_same, get_or-set_other}
use Rattle.conformity.proofs.Names.{get_or-take, ext_get_or, Pair, no_pair, pairs_lent, pair_at, pairs-length, Calibration, bare, table, curve, Contents, pairs_in, pair_in, CalibrationAt, Opened, Opens, points-are}
use Rattle.conformity.proofs.Names.{holding}
use Rattle.conformity.proofs.Exacts.{pair-lent}

-- ---- a sheet has at most 127 pairs

few : (at : ℕ) (k : Calibration) → CalibrationAt at k → length (pairs_in k) ≤ 127
few at bare h = omega arith
few at (table domain pairs) h = h.most
few at (curve segments) h = omega arith

pub points-few : {kind : ℕ} {image : List ℕ} {o : Opened} {c : Contents} → Opens kind image o c → o.summary.points ≤ 127
points-few {c = c} h = omega (arith, points-are h, length-map (pairs_in c.calibration) pair_in, few _ c.calibration (holding h).formed.calibrated)

-- ---- pair by pair

-- The first n pairs of the array are those of a list.
abbrev pub Filled : List ℤ → List Pair → ℕ → Type 0
Filled room pairs n = (k : ℕ) → k < n → pair_at room k ≡ get_or pairs k no_pair

abbrev paired : ℤ → ℤ → Pair
paired a s = record { point = a; deviation = s }

module _ (room : List ℤ) (pairs : List Pair) (i : ℕ) (p : Pair) (long : 2 * i + 1 < length room) (so : Filled room pairs i) (is : p ≡ get_or pairs i no_pair) where
  abbrev next : List ℤ
  next = set (set room (2 * i) p.point) (2 * i + 1) p.deviation

  earlier : (k : ℕ) → k < i → pair_at next k ≡ pair_at room k
  earlier k l =
      ap₂ paired
      (get_or-set_other (set room (2 * i) p.point) (2 * i + 1) (2 * k) p.deviation (pos 0) (λ e. omega arith) ∙ get_or-set_other room (2 * i) (2 * k) p.point (pos 0) (λ e. omega arith))
      (get_or-set_other (set room (2 * i) p.point) (2 * i + 1) (2 * k + 1) p.deviation (pos 0) (λ e. omega arith) ∙ get_or-set_other room (2 * i) (2 * k + 1) p.point (pos 0) (λ e. omega arith))

  own : pair_at next i ≡ p
  own =
      ap₂ paired
      (get_or-set_other (set room (2 * i) p.point) (2 * i + 1) (2 * i) p.deviation (pos 0) (λ e. omega arith) ∙ get_or-set_same room (2 * i) p.point (pos 0) (omega arith))
      (get_or-set_same (set room (2 * i) p.point) (2 * i + 1) p.deviation (pos 0) (omega (arith, length-set room (2 * i) p.point)))

  pub filled_next : Filled next pairs (i + 1)
  filled_next k l = go (dec_le i k)
    where
      go : Dec (i ≤ k) → pair_at next k ≡ get_or pairs k no_pair
      go (yes h) = let e : i ≡ k = omega arith in subst (λ (n : ℕ). pair_at next n ≡ get_or pairs n no_pair) e (own ∙ is)
      go (no h) = earlier k (omega arith) ∙ so k (omega arith)

pub filled-all : (room : List ℤ) (pairs : List Pair) → 2 * length pairs ≤ length room → Filled room pairs (length pairs) → pairs_lent (take (2 * length pairs) room) ≡ pairs
filled-all room pairs long so = ext_get_or no_pair (pairs_lent front) pairs count (λ k l. pair-lent front k (omega (arith, pairs-length front)) ∙ taken k (omega (arith, count)) ∙ so k (omega (arith, count)))
  where
    front : List ℤ
    front = take (2 * length pairs) room

    count : length (pairs_lent front) ≡ length pairs
    count = omega (arith, pairs-length front, length-take-le (2 * length pairs) room long)

    taken : (k : ℕ) → k < length pairs → pair_at front k ≡ pair_at room k
    taken k l = ap₂ paired (get_or-take (2 * length pairs) room (2 * k) (pos 0) (omega arith)) (get_or-take (2 * length pairs) room (2 * k + 1) (pos 0) (omega arith))
