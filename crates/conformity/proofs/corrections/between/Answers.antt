use Rattle.conformity.proofs.Names.{◌≡◌, refl, ap₂, ◌∙◌, ℕ, ◌+◌, ◌*◌, sfits_of, arith, pos, ◌-ℤ◌, less, told-up, told-dn, told-≤, told-gap, deviation-parts, Gaps, gaps}
use Rattle.conformity.proofs.Exacts.{exact-between}
use Rattle.conformity.proofs.corrections.between.Goals as goal
use Rattle.conformity.proofs.corrections.between.Goals.{After-gap-left, After-gap-past}

-- The distances of p from the two points.
past : (c : After-gap-past) → let a = c.args in pos c.gap-past.result ≡ a.p -ℤ a.before.point
past c =
    told-gap {b = c.args.before.point} c.ranges.p (sfits_of c.type_inv.before.0.1) c.gap-past.ensures

left : (c : After-gap-left) → let a = c.args in pos c.gap-left.result ≡ a.behind.point -ℤ a.p
left c =
    told-gap {a = c.args.behind.point} (sfits_of c.type_inv.behind.0.1) c.ranges.p c.gap-left.ensures

distances : (c : After-gap-left) → let a = c.args in pos c.gap-past.result ≡ a.p -ℤ a.before.point → Gaps a.p a.before a.behind c.gap-past.result c.gap-left.result
distances c first =
    gaps c.args.p c.args.before c.args.behind c.requires first (left c)

pub gap-past-requires : goal.gap-past-requires
gap-past-requires c = told-≤ (sfits_of c.type_inv.before.0.1) c.ranges.p (less c.args.before.point c.args.p c.requires.past)

pub weighed-requires : goal.weighed-requires
weighed-requires c =
    let h = c.requires in
    let s = deviation-parts h.first in
    let t = deviation-parts h.second in
    record {
      first = omega (arith, c.plus.ensures.0, s.0, t.0);
      second = omega (arith, c.plus-2.ensures.0, s.0, t.0);
      run = (distances (goal.at.weighed-requires c).After-gap-left (past (goal.at.weighed-requires c).After-gap-past)).run.1;
    }

pub weighed-requires-2 : goal.weighed-requires-2
weighed-requires-2 c =
    let h = c.requires in
    let s = deviation-parts h.first in
    let t = deviation-parts h.second in
    record {
      first = omega (arith, c.minus.ensures.0, s.1, t.1);
      second = omega (arith, c.minus-2.ensures.0, s.1, t.1);
      run = (distances (goal.at.weighed-requires-2 c).After-gap-left (past (goal.at.weighed-requires-2 c).After-gap-past)).run.1;
    }

pub overflow_add-result : goal.overflow_add-result
overflow_add-result c = omega (arith, (distances (goal.at.overflow_add-result c).After-gap-left (past (goal.at.overflow_add-result c).After-gap-past)).run)

pub returns : goal.returns
returns c =
    let s = sfits_of c.struct_told-3-1.given.1.0.1 in
    let t = sfits_of c.struct_told-4-1.given.1.0.1 in
    let us = told-up {z = c.args.before.deviation} s c.plus.ensures in
    let ut = told-up {z = c.args.behind.deviation} t c.plus-2.ensures in
    let ds = told-dn {z = c.args.before.deviation} s c.minus.ensures in
    let dt = told-dn {z = c.args.behind.deviation} t c.minus-2.ensures in
    let by : (x y : ℕ) → ℕ = λ x y. x * c.gap-left.result + y * c.gap-past.result in
    exact-between c.args.p c.args.before c.args.behind c.requires (past (goal.at.returns c).After-gap-past) (left (goal.at.returns c).After-gap-left) _
    (c.weighed.ensures.0 ∙ ap₂ by us ut) (c.weighed-2.ensures.0 ∙ ap₂ by ds dt) refl
