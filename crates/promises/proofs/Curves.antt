-- Laws of the segment that serves, and of the starts of an accepted curve.
use Rattle.promises.proofs.Names.{◌≡◌, refl, ap, subst, ℕ, ◌<◌, ◌*◌, pos, List, [], ◌∷◌, arith, ℤ, ◌≤ℤ◌, ◌<ℤ◌, le_z-parts, lt_z-parts, parts-<ℤ, FoundSegment, by_order, serving, start_of, StartsRise, AllAbove}
use Rattle.promises.proofs.Names.{Serves, LastSegmentServes, Found, FieldAt, figure, stepped_value, stepped-whole, Passed, SegmentsAt, behind_segment, nothing_passed, CalibrationAt, curve, contents-accepted}
use Rattle.promises.proofs.Names.{add_parts}
use borrow.Author.Tests.{ltb-true}
use Rattle.templates.specs.Curves.{segment_start}
use Rattle.promises.specs.Curves.{CurveStartsRise}

all_above : (p : ℤ) (s : FoundSegment) (segments : List FoundSegment) → p <ℤ start_of s → StartsRise (s ∷ segments) → AllAbove p (s ∷ segments)
all_above p s [] h rises = (h, tt)
all_above p s (next ∷ segments) h rises =
    (h, all_above p next segments (parts-<ℤ p (start_of next) (omega (arith, lt_z-parts p (start_of s) h.lt, lt_z-parts (start_of s) (start_of next) rises.0.lt))) rises.1)

pub last-segment-serves : LastSegmentServes
unfolding serving
last-segment-serves p s [] rises = record { before = []; after = []; is = refl; above = tt; reached = λ h. h; early = λ h. refl }
last-segment-serves p s (next ∷ segments) rises =
    by_order (start_of next) p (Serves p s (next ∷ segments)) (later (last-segment-serves p next segments rises.1))
    (λ h. record { before = []; after = next ∷ segments; is = refl; above = all_above p next segments h rises.1; reached = λ l. l; early = λ l. refl })
  where
    later : Serves p next segments (serving p next segments) → start_of next ≤ℤ p → Serves p s (next ∷ segments) (serving p next segments)
    later x h = record {
      before = s ∷ x.before;
      after = x.after;
      is = ap (λ l. s ∷ l) x.is;
      above = x.above;
      reached = λ l. x.reached h;
      early = λ l. absurd (omega (arith, lt_z-parts p (start_of s) l.lt, lt_z-parts (start_of s) (start_of next) rises.0.lt, le_z-parts (start_of next) p h.le));
    }

-- ---- an accepted curve

start_is : {at : ℕ} {x : Found} → FieldAt segment_start at x → figure x.value ≡ stepped_value (pos 0) 123_000 x.code
start_is {at} {x} h = ap figure (stepped-whole 13 (pos 0) 123_000 at x.code x.value h.means)

starts-rise : (before : Passed) (at : ℕ) (segments : List FoundSegment) → SegmentsAt before at segments → StartsRise segments
starts-rise before at [] h = tt
starts-rise before at (s ∷ []) h = tt
starts-rise before at (s ∷ next ∷ segments) h = (rise, starts-rise (behind_segment before s) _ (next ∷ segments) h.1)
  where
    a : ℕ
    a = s.start.code

    b : ℕ
    b = next.start.code

    less : a < b
    less = ltb-true a b h.1.0.start.taken

    rise : start_of s <ℤ start_of next
    rise =
        rw (start_is h.0.start.field, start_is h.1.0.start.field)
        (parts-<ℤ (stepped_value (pos 0) 123_000 a) (stepped_value (pos 0) 123_000 b)
        (omega (arith, less, add_parts (pos 0) (pos (123_000 * a)), add_parts (pos 0) (pos (123_000 * b)))))

pub curve-starts-rise : CurveStartsRise
curve-starts-rise kind image c segments accepted e =
    let h : CalibrationAt _ (curve segments) = subst (CalibrationAt _) e (contents-accepted kind image c accepted).holding.formed.calibrated in
    starts-rise nothing_passed _ segments h.stand
