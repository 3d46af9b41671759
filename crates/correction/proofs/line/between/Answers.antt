use mir.Syntax.{w64}
use Rattle.correction.proofs.Names.{sfits_of, ◌∙◌, arith, to_z-of_z}
use Rattle.correction.proofs.Distances.{less}
use Rattle.correction.proofs.Beforehand.{told-up, told-dn, told-≤, told-gap, deviation-parts, Gaps, gaps}
use Rattle.correction.proofs.line.between.Goals as goal
use Rattle.correction.proofs.line.between.Goals.{After-gap-left}

-- The distances of p from the two points.
distances : (c : After-gap-left) → let a = c.args in Gaps a.p a.before a.behind c.gap-past.result c.gap-left.result
distances c =
    gaps c.args.p c.args.before c.args.behind c.requires
    (told-gap {b = c.args.before.point} c.ranges.p (sfits_of c.type_inv.before.0.1) c.gap-past.ensures)
    (told-gap {a = c.args.behind.point} (sfits_of c.struct_told-2-1.given.0.1) c.ranges.p c.gap-left.ensures)

pub gap-past-requires : goal.gap-past-requires
gap-past-requires c = told-≤ (sfits_of c.type_inv.before.0.1) c.ranges.p (less c.args.before.point c.args.p c.requires.past)

pub weighed-requires : goal.weighed-requires
weighed-requires c =
    let h = c.requires in
    let s = deviation-parts h.first in
    let t = deviation-parts h.second in
    record {
      first = omega (arith, c.plus.ensures.0, s.0, t.0);
      second = omega (arith, c.plus-2.ensures.0, s.0, t.0);
      run = (distances (goal.at.weighed-requires c).After-gap-left).run.1;
    }

pub weighed-requires-2 : goal.weighed-requires-2
weighed-requires-2 c =
    let h = c.requires in
    let s = deviation-parts h.first in
    let t = deviation-parts h.second in
    record {
      first = omega (arith, c.minus.ensures.0, s.1, t.1);
      second = omega (arith, c.minus-2.ensures.0, s.1, t.1);
      run = (distances (goal.at.weighed-requires-2 c).After-gap-left).run.1;
    }

pub overflow_add-past : goal.overflow_add-past
overflow_add-past c = omega (arith, (distances (goal.at.overflow_add-past c).After-gap-left).run)

pub nearest-requires : goal.nearest-requires
nearest-requires c = omega (arith, (distances (goal.at.nearest-requires c).After-gap-left).run, c.weighed.ensures, c.weighed-2.ensures)

pub returns : goal.returns
returns c =
    let a = c.args in
    let s = sfits_of c.struct_told-3-1.given.1.0.1 in
    let t = sfits_of c.struct_told-4-1.given.1.0.1 in
    let us = told-up {z = a.before.deviation} s c.plus.ensures in
    let ut = told-up {z = a.behind.deviation} t c.plus-2.ensures in
    let ds = told-dn {z = a.before.deviation} s c.minus.ensures in
    let dt = told-dn {z = a.behind.deviation} t c.minus-2.ensures in
    to_z-of_z {w = w64} (sfits_of c.nearest.type_inv)
    ∙ c.nearest.ensures
    ∙ rw (c.weighed.ensures.0, c.weighed-2.ensures.0, us, ut, ds, dt) (distances (goal.at.returns c).After-gap-left).made
