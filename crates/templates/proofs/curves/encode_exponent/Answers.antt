use Rattle.templates.proofs.Names.{◌≡◌, sym, ap, ◌∙◌, Option, ℕ, ◌+◌, ◌*◌, ◌≤◌, arith, ℤ, pos, ◌*ℤ◌, up, Ok, exponent_follows, tenths_of, tenths_before, to_z-of_z, parts-of-word}
use Rattle.templates.proofs.CurveLaws.{below-zero, above-five, between, follows-none, exponent-refused, exponent-taken, exponent-turned}
use Rattle.templates.proofs.curves.encode_exponent.Goals as goal
use Rattle.templates.proofs.curves.encode_exponent.Goals.{After-exponent_follows, After-plus, Start}

abbrev before : Start → Option ℤ
before s = tenths_before (s.args.before)

code : (c : After-exponent_follows) → 64 + 2 * c.plus.result ≡ 64 + 2 * up c.args.exponent
code c = ap (λ (n : ℕ). 64 + 2 * n) (c.plus.ensures.0 ∙ (parts-of-word c.ranges.exponent).0)

small : (c : After-plus) → c.plus.result ≤ 5
small c =
    let z = to_z-of_z c.ranges.exponent in
    let (most, e) = between c.args.exponent (rw z at c.if-exponent-lt0.false) (rw z at c.if-exponent-gt5.false) in
    omega (arith, c.plus.ensures.0, (parts-of-word c.ranges.exponent).0)

pub returns-then-exponent-lt0 : goal.returns-then-exponent-lt0
returns-then-exponent-lt0 c = exponent-refused (before (goal.at.returns-then-exponent-lt0 c).Start) c.args.place (pos 10 *ℤ c.args.exponent) (follows-none (before (goal.at.returns-then-exponent-lt0 c).Start) (pos 10 *ℤ c.args.exponent) (below-zero c.args.exponent (rw (to_z-of_z c.ranges.exponent) at c.if-exponent-lt0.true)))

pub returns-then-exponent-gt5 : goal.returns-then-exponent-gt5
returns-then-exponent-gt5 c = exponent-refused (before (goal.at.returns-then-exponent-gt5 c).Start) c.args.place (pos 10 *ℤ c.args.exponent) (follows-none (before (goal.at.returns-then-exponent-gt5 c).Start) (pos 10 *ℤ c.args.exponent) (above-five c.args.exponent (rw (to_z-of_z c.ranges.exponent) at c.if-exponent-gt5.true)))

pub overflow_add-code : goal.overflow_add-code
overflow_add-code c = record { fits = omega (arith, small c) }

pub returns-then-exponent_follows : goal.returns-then-exponent_follows
returns-then-exponent_follows c = let z = to_z-of_z c.ranges.exponent in ap Ok (code (goal.at.returns-then-exponent_follows c).After-exponent_follows) ∙ exponent-taken (before (goal.at.returns-then-exponent_follows c).Start) c.args.place c.args.exponent (rw z at c.if-exponent-lt0.false) (rw z at c.if-exponent-gt5.false) (sym c.if-exponent_follows.true ∙ (c.exponent_follows.ensures ∙ ap (λ (n : ℕ). exponent_follows (before (goal.at.returns-then-exponent_follows c).Start) (tenths_of n)) (code (goal.at.returns-then-exponent_follows c).After-exponent_follows)))

pub returns : goal.returns
returns c = let z = to_z-of_z c.ranges.exponent in exponent-turned (before (goal.at.returns c).Start) c.args.place c.args.exponent (rw z at c.if-exponent-lt0.false) (rw z at c.if-exponent-gt5.false) (sym c.if-exponent_follows.false ∙ (c.exponent_follows.ensures ∙ ap (λ (n : ℕ). exponent_follows (before (goal.at.returns c).Start) (tenths_of n)) (code (goal.at.returns c).After-exponent_follows)))
