use Rattle.conformity.proofs.Names.{◌∙◌, ◌*◌, ◌^◌, ◌≤◌, mul-le-mul_right, arith, abs-parts, told-up, told-dn}
use Rattle.conformity.proofs.Greatest.{exact-difference, apart-most, apart-is}
use Rattle.conformity.proofs.differences.difference.Goals as goal
use Rattle.conformity.proofs.differences.difference.Goals.{After-minus, After-plus}

above : (c : After-plus) → c.plus.result * c.args.c.run ≤ 2 ^ 32 * c.args.c.run
above c =
    mul-le-mul_right c.args.c.run (omega (arith, told-up c.ranges.s c.plus.ensures, abs-parts c.args.s, c.requires.0))

below : (c : After-minus) → c.minus.result * c.args.c.run ≤ 2 ^ 32 * c.args.c.run
below c =
    mul-le-mul_right c.args.c.run (omega (arith, told-dn c.ranges.s c.minus.ensures, abs-parts c.args.s, c.requires.0))

pub overflow_mul-above : goal.overflow_mul-above
overflow_mul-above c = omega (arith, above c, c.requires.1.run)

pub overflow_add-above : goal.overflow_add-above
overflow_add-above c = omega (arith, above (goal.at.overflow_add-above c).After-plus, c.requires.1.run, c.requires.1.below)

pub overflow_mul-below : goal.overflow_mul-below
overflow_mul-below c = omega (arith, below c, c.requires.1.run)

pub overflow_add-below : goal.overflow_add-below
overflow_add-below c = omega (arith, below (goal.at.overflow_add-below c).After-minus, c.requires.1.run, c.requires.1.above)

pub upward-requires : goal.upward-requires
upward-requires c =
    let z = c.requires.1 in
    (z.some, z.run, apart-most (apart-is c.abs_diff.ensures) (omega (arith, above (goal.at.upward-requires c).After-plus, z.below)) (omega (arith, below (goal.at.upward-requires c).After-minus, z.above)))

pub returns : goal.returns
returns c = (
  λ e h. c.upward.ensures.0 ∙ exact-difference c.args.s e c.args.c h c.plus.result c.minus.result c.abs_diff.result (told-up c.ranges.s c.plus.ensures) (told-dn c.ranges.s c.minus.ensures) (apart-is c.abs_diff.ensures),
  c.upward.ensures.1,
)
