-- Laws of signed numbers in calls, and of the answers.
use Rattle.correction.proofs.Names.{◌≡◌, ap₂, ◌∙◌, ℕ, ◌+◌, ◌*◌, ◌-◌, ◌^◌, ◌≤◌, ◌<◌, mul-le-mul_right, arith, ℤ, pos, sub_ℕ, ◌-ℤ◌, ◌≤ℤ◌, w64, SFits, to_z, of_z, to_z-of_z, up, dn, ◌over◌, nearest, same, sub_is}
use Rattle.correction.proofs.Names.{sub-parts-ℤ, abs-parts, le_z-parts, lt_z-parts, parts-of-word, parts-fit, Pair, point_of, between, Figures, Weights, Between}
use Rattle.correction.proofs.Order.{Ahead}
use Rattle.correction.proofs.Weights.{at, weights-run, weights-num}

-- ---- a number that is passed to a call

module _ {z : ℤ} {r : ℕ} (f : SFits w64 z) where
  pub told-up : (r ≡ up (to_z w64 (of_z w64 z))) × (r < 2 ^ 63) → r ≡ up z
  told-up e = e.0 ∙ (parts-of-word f).0

  pub told-dn : (r ≡ dn (to_z w64 (of_z w64 z))) × (r ≤ 2 ^ 63) → r ≡ dn z
  told-dn e = e.0 ∙ (parts-of-word f).1

module _ {a b : ℤ} (f : SFits w64 a) (g : SFits w64 b) where
  pub told-≤ : a ≤ℤ b → to_z w64 (of_z w64 a) ≤ℤ to_z w64 (of_z w64 b)
  told-≤ h = rw (to_z-of_z f, to_z-of_z g) h

  pub told-gap : {r : ℕ} → pos r ≡ to_z w64 (of_z w64 a) -ℤ to_z w64 (of_z w64 b) → pos r ≡ a -ℤ b
  told-gap e = rw (to_z-of_z f, to_z-of_z g) at e

-- ---- a gap

pub gap_parts : (a b : ℤ) {r : ℕ} → pos r ≡ a -ℤ b → up a + dn b ≡ dn a + up b + r
gap_parts a b {r} e =
    let eu : r ≡ up (a -ℤ b) = cc in
    let ed : 0 ≡ dn (a -ℤ b) = cc in
    omega (arith, sub-parts-ℤ a b)

pub gap-made : (a b : ℤ) {u d x y : ℕ} → b ≤ℤ a → u ≡ up a → d ≡ dn b → x ≡ dn a → y ≡ up b → (x + y ≤ u + d) × (pos (u + d - (x + y)) ≡ a -ℤ b)
gap-made a b {u} {d} {x} {y} h eu ed ex ey =
    let some : x + y ≤ u + d = omega (arith, le_z-parts b a h.le) in
    (some, same (pos (u + d - (x + y))) (a -ℤ b) (omega (arith, sub-parts-ℤ a b)))

-- ---- the line between neighbours

pub weighed-fits : (s t past left : ℕ) → Weights s t past left → s * left + t * past ≤ 2 ^ 62
weighed-fits s t past left h = omega (arith, mul-le-mul_right left h.first, mul-le-mul_right past h.second)

-- The parts of a stored deviation above 0 and below, as they are passed to a call.
pub deviation-parts : {q : Pair} → Figures q → (up (to_z w64 (of_z w64 q.deviation)) ≤ 2 ^ 32) × (dn (to_z w64 (of_z w64 q.deviation)) ≤ 2 ^ 32)
deviation-parts {q} h =
    let e = abs-parts q.deviation in
    let same = parts-of-word (parts-fit {w = w64} {z = q.deviation} (omega (arith, e, h.deviation)) (omega (arith, e, h.deviation))) in
    (omega (arith, same.0, e, h.deviation), omega (arith, same.1, e, h.deviation))

-- What the distances from the two points are used for.
pub record Gaps (p : ℤ) (before behind : Pair) (past left : ℕ) : Type 0 where
  pub run : (0 < past + left) × (past + left ≤ 2 ^ 30)
  pub made : nearest (sub_ℕ (up before.deviation * left + up behind.deviation * past) (dn before.deviation * left + dn behind.deviation * past) over past + left) ≡ nearest ((between p 1 before behind).num over (between p 1 before behind).run)

pub gaps : (p : ℤ) (before behind : Pair) {past left : ℕ} → Between point_of p before behind → pos past ≡ p -ℤ before.point → pos left ≡ behind.point -ℤ p → Gaps p before behind past left
unfolding between
gaps p before behind {past} {left} h hp hl = record {
  run = omega (arith, run);
  made = ap₂ (λ (z : ℤ) (n : ℕ). nearest (z over n)) (sub_is _ _ (between p 1 before behind).num (weights-num before behind h.rise l r)) (omega (arith, weights-run before behind h.rise l r));
}
  where
    l : Ahead (at before) (p over 1) past
    l = omega (arith, gap_parts p before.point hp)

    r : Ahead (p over 1) (at behind) left
    r = omega (arith, gap_parts behind.point p hl)

    run : (0 < past + left) × (past + left ≤ 2 ^ 30)
    run = omega (arith, l.is, r.is, lt_z-parts before.point p h.past.lt, le_z-parts (pos 0) before.point h.first.least.le, abs-parts behind.point, h.second.point)
