use Rattle.conformity.proofs.Names.{◌≡◌, refl, subst, ◌+◌, ◌*◌, ◌<◌, sfits_of, arith, length, length-set, w64, to_z-of_z, points, points-are}
use Rattle.conformity.proofs.Filling.{points-few, Filled, filled_next, filled-all}
use Rattle.conformity.proofs.stored.stored_points.Goals as goal
use Rattle.conformity.proofs.stored.stored_points.Goals.{After-struct_told-1, In-loop-i}

-- The array has room for the pair.
fits : (c : In-loop-i) → 2 * c.loop-i.i + 1 < 254
fits c = omega (arith, c.loop-i-test.true, points-few c.requires.opens)

pub loop-i-init : goal.loop-i-init
loop-i-init c = (refl, λ kind x h k l. absurd (omega arith))

pub overflow_mul-at : goal.overflow_mul-at
overflow_mul-at c = omega (arith, fits (goal.at.overflow_mul-at c).In-loop-i)

pub offset_bounds-room-at : goal.offset_bounds-room-at
offset_bounds-room-at c = omega (arith, fits (goal.at.offset_bounds-room-at c).In-loop-i)

pub bounds-room-at : goal.bounds-room-at
bounds-room-at c = omega (arith, fits (goal.at.bounds-room-at c).In-loop-i)

pub overflow_add-room : goal.overflow_add-room
overflow_add-room c = omega (arith, fits (goal.at.overflow_add-room c).In-loop-i)

pub offset_bounds-room-at-in-loop-i : goal.offset_bounds-room-at-in-loop-i
offset_bounds-room-at-in-loop-i c = omega (arith, fits (goal.at.offset_bounds-room-at-in-loop-i c).In-loop-i)

pub bounds-room-at-in-loop-i : goal.bounds-room-at-in-loop-i
bounds-room-at-in-loop-i c = omega (arith, fits (goal.at.bounds-room-at-in-loop-i c).In-loop-i)

pub loop-i-preserved : goal.loop-i-preserved
loop-i-preserved c =
    let f = to_z-of_z {w = w64} {z = c.pair_in-pair.result.point} (sfits_of (goal.at.loop-i-preserved c).After-struct_told-1.type_inv.pair.0.1) in
    let g = to_z-of_z {w = w64} {z = c.pair_in-pair.result.deviation} (sfits_of c.struct_told-in-loop-i-1.given.1.0.1) in (
      simp length-set c.loop-i.invariant.0,
      λ kind x h.
          rw (f, g)
          (filled_next c.loop-i.room (points x) c.loop-i.i c.pair_in-pair.result (omega (arith, fits (goal.at.loop-i-preserved c).In-loop-i, c.loop-i.invariant.0)) (c.loop-i.invariant.1 kind x h) (c.pair_in-pair.ensures kind x h)),
    )

pub returns : goal.returns
returns c = (
  c.loop-i.invariant.0,
  λ kind x h.
      let n : c.loop-i.i ≡ length (points x) = omega (arith, c.loop-i-test.false, c.loop-i.auto.i-end, points-are h) in
      filled-all c.loop-i.room (points x) (omega (arith, c.loop-i.invariant.0, points-are h, points-few h)) (subst (Filled c.loop-i.room (points x)) n (c.loop-i.invariant.1 kind x h)),
)
