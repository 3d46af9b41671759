use mir.Syntax.{w64}
use Rattle.reading.proofs.Names.{sfits_of, ◌≡◌, sym, ap, ◌∙◌, ℕ, ◌^◌, ◌≤◌, arith, nat_abs, to_z-of_z, Contents, told-small, Opens, position, fraction, physical_fraction}
use Rattle.reading.proofs.Positions.{position-small}
use Rattle.reading.proofs.Fractions.{fraction-small, reading-made}
use Rattle.reading.proofs.taking.shown.Goals as goal
use Rattle.reading.proofs.taking.shown.Goals.{After-fraction-q, After-position-p}

-- The position, and the fraction there.
at : (c : After-position-p) → let a = c.args in c.position-p.result ≡ position a.input a.span.least a.span.greatest
at c = rw (to_z-of_z c.ranges.input) at c.position-p.ensures

near : (c : After-position-p) → nat_abs c.position-p.result ≤ 2 ^ 31
near c = rw (at c) (position-small c.args.input c.requires.1 c.requires.2)

is : (c : After-fraction-q) →
    let a = c.args in
    (kind : ℕ) (x : Contents) → Opens kind a.image.now a.sheet x → c.fraction-q.result ≡ fraction x.calibration (position a.input a.span.least a.span.greatest)
is c kind x h = c.fraction-q.ensures kind x h ∙ ap (fraction x.calibration) (to_z-of_z {w = w64} (sfits_of c.position-p.type_inv) ∙ (rw (to_z-of_z c.ranges.input) at c.position-p.ensures))

small : (c : After-fraction-q) → nat_abs c.fraction-q.result ≤ 2 ^ 33
small c =
    let k = c.requires.0 in
    rw (is c _ _ k.opens) (fraction-small k.opens _ (position-small c.args.input c.requires.1 c.requires.2))

pub fraction-q-requires : goal.fraction-q-requires
fraction-q-requires c = (c.requires.0, told-small {z = c.position-p.result} (sfits_of c.position-p.type_inv) (near c))

pub physical_fraction-requires : goal.physical_fraction-requires
physical_fraction-requires c = (c.requires.0, told-small {z = c.fraction-q.result} (sfits_of c.fraction-q.type_inv) (omega (arith, small c)))

pub returns : goal.returns
returns c =
    let a = c.args in
    λ kind x h.
    let p = to_z-of_z {w = w64} (sfits_of c.position-p.type_inv) ∙ at (goal.at.returns c).After-position-p in
    let q = to_z-of_z {w = w64} (sfits_of c.fraction-q.type_inv) ∙ is (goal.at.returns c).After-fraction-q kind x h in
    reading-made x.calibration a.span a.input (sfits_of c.fraction-q.type_inv) (is (goal.at.returns c).After-fraction-q kind x h)
    (c.physical_fraction.ensures kind x h (q ∙ ap (fraction x.calibration) (sym p)) ∙ ap (physical_fraction x.calibration) p) c.physical_figure.ensures
