use Rattle.reading.proofs.Names.{rules, ◌≡◌, sym, ap, subst, ◌∙◌, List, ℕ, ◌+◌, ◌*◌, ◌^◌, ◌<◌, arith, length, length-map, w64, to_z, of_z, to_z-of_z, Contents, stream_in, segments_in, segment_in}
use Rattle.reading.proofs.Names.{CurveStands, Opened, Opens, segment_at, behind-few, segments-are, segments-few, held_whole, held-curve, terms-lt}
use Rattle.reading.proofs.Serving.{Walked, walked-first, walked_on, served-here, served-last}
use Rattle.reading.proofs.physical_fraction.serving.Goals as goal
use Rattle.reading.proofs.physical_fraction.serving.Goals.{After-curve_in-cursor}

-- The curve of the sheet, at its first segment.
curve-is : (c : After-curve_in-cursor) →
    let a = c.args in
    (kind : ℕ) (x : Contents) → Opens kind a.image.now a.sheet x → CurveStands (stream_in a.sheet.sizes a.image.now) c.curve_in-cursor.result.at (segments_in x.calibration)
curve-is c kind x h =
    let a = c.args in
    subst (λ (n : ℕ). CurveStands (stream_in a.sheet.sizes a.image.now) n (segments_in x.calibration)) (sym c.curve_in-cursor.ensures) (held-curve h)

counted : {kind : ℕ} {image : List ℕ} {o : Opened} {x : Contents} → Opens kind image o x → o.summary.segments ≡ length (segments_in x.calibration)
counted {x = x} h = segments-are h ∙ length-map (segments_in x.calibration) segment_in

-- The curve ends before bit 2 ^ 32.
few : (c : After-curve_in-cursor) → c.curve_in-cursor.result.at + 4_973 * c.args.sheet.summary.segments < 2 ^ 32
few c =
    omega (arith, c.curve_in-cursor.ensures, behind-few c.requires.0.opens, segments-few c.requires.0.opens)

pub curve_in-cursor-requires : goal.curve_in-cursor-requires
curve_in-cursor-requires c = omega (arith, behind-few c.requires.0.opens)

pub segment_at-terms-requires : goal.segment_at-terms-requires
segment_at-terms-requires c = (held_whole c.requires.0.opens, omega (arith, few c))

pub loop-init : goal.loop-init
loop-init c =
    let stream = stream_in c.args.sheet.sizes c.args.image.now in (
      omega arith,
      rw c.segment_at-terms.ensures (terms-lt stream _),
      λ segments h e. walked-first _ stream segments h (omega (arith, e, c.requires.1)) c.segment_at-terms.result c.segment_at-terms.ensures,
    )

pub segment_end-behind-requires : goal.segment_end-behind-requires
segment_end-behind-requires c = (omega (arith, c.loop.invariant.0, c.loop-test.true, few (goal.at.segment_end-behind-requires c).After-curve_in-cursor), omega (arith, c.loop.invariant.1))

pub segment_at-next-requires : goal.segment_at-next-requires
segment_at-next-requires c = (held_whole c.requires.0.opens, omega (arith, c.segment_end-behind.ensures, c.loop.invariant.0, c.loop.invariant.1, c.loop-test.true, few (goal.at.segment_at-next-requires c).After-curve_in-cursor))

pub returns-then-p-next : goal.returns-then-p-next
returns-then-p-next c =
    let stream = stream_in c.args.sheet.sizes c.args.image.now in
    let start = to_z-of_z {w = w64} {z = c.segment_at-next.result.start} (search rules) in (
      omega (arith, c.loop.invariant.0, c.loop-test.true, few (goal.at.returns-then-p-next c).After-curve_in-cursor),
      c.loop.invariant.1,
      λ kind x h.
          rw (to_z-of_z c.ranges.p) at (served-here _ stream (segments_in x.calibration) (c.loop.invariant.2 _ (curve-is (goal.at.returns-then-p-next c).After-curve_in-cursor kind x h) (counted h)) (omega (arith, c.loop-test.true, counted h)) c.segment_at-next.result
          (c.segment_at-next.ensures ∙ ap (segment_at stream) c.segment_end-behind.ensures) (rw start at c.if-p-next.true)),
    )

pub loop-preserved : goal.loop-preserved
loop-preserved c =
    let stream = stream_in c.args.sheet.sizes c.args.image.now in
    let start = to_z-of_z {w = w64} {z = c.segment_at-next.result.start} (search rules) in (
      omega (arith, c.loop.invariant.0, c.loop.invariant.1, c.segment_end-behind.ensures),
      rw c.segment_at-next.ensures (terms-lt stream _),
      λ segments h n.
          subst (λ (k : ℕ). Walked (to_z w64 (of_z w64 c.args.p)) stream segments k c.segment_at-next.result.terms (c.loop.counter + 1)) (sym c.segment_end-behind.ensures)
          (walked_on _ stream segments (c.loop.invariant.2 segments h n) (omega (arith, c.loop-test.true, n)) c.segment_at-next.result
          (c.segment_at-next.ensures ∙ ap (segment_at stream) c.segment_end-behind.ensures) (rw start at c.if-p-next.false)),
    )

pub returns-after-loop : goal.returns-after-loop
returns-after-loop c = (
  omega (arith, c.loop.invariant.0, few (goal.at.returns-after-loop c).After-curve_in-cursor),
  c.loop.invariant.1,
  λ kind x h. rw (to_z-of_z c.ranges.p) at (served-last _ _ (segments_in x.calibration) (c.loop.invariant.2 _ (curve-is (goal.at.returns-after-loop c).After-curve_in-cursor kind x h) (counted h)) (omega (arith, c.loop-test.false, counted h))),
)
