use Rattle.reading.proofs.Names.{sfits_of, ◌≡◌, ap, ◌∙◌, ◌^◌, ◌≤◌, arith, ℤ, nat_abs, ◌+ℤ◌, to_z-of_z, point_of, between, Between, between-deviates, rounded, plus-fits, plus-made}
use Rattle.reading.proofs.fraction.between_in.Goals as goal
use Rattle.reading.proofs.fraction.between_in.Goals.{After-between, In-Electrical, In-Physical}

-- After a point, up to the next; and after a sum, up to the next.
points : (c : In-Electrical) → let a = c.args in Between point_of a.p a.before a.behind
points c = rw c.in-Electrical.is at c.requires.0

-- The deviation at p.
is : (c : After-between) → let a = c.args in c.between.result ≡ rounded (between a.p 1 a.before a.behind)
is c =
    c.between.ensures ∙ ap (λ (z : ℤ). rounded (between z 1 c.args.before c.args.behind)) (to_z-of_z c.ranges.p)

small : (c : After-between) → nat_abs c.between.result ≤ 2 ^ 32
small c = let a = c.args in rw (is c) (between-deviates a.p a.before a.behind (points c.before))

pub overflow_add-result : goal.overflow_add-result
overflow_add-result c = plus-fits c.args.p c.between.result c.ranges.p (sfits_of c.between.type_inv) (omega (arith, small c, c.requires.1))

pub returns-in-Electrical : goal.returns-in-Electrical
returns-in-Electrical c =
    rw c.in-Electrical.is
    (plus-made c.args.p c.between.result c.ranges.p (sfits_of c.between.type_inv) (omega (arith, small c, c.requires.1)) ∙ ap (λ (z : ℤ). c.args.p +ℤ z) (is c))
