use Rattle.templates.proofs.Names.{◌≡◌, min, ◌-◌, arith}
use Rattle.templates.proofs.lines.ends_before.Goals as goal

pub returns-then-field-lt11 : goal.returns-then-field-lt11
returns-then-field-lt11 c = let none : min (c.args.field - 10) 2 ≡ 0 = omega arith in rw none (omega arith)

pub returns-then-field-lt12 : goal.returns-then-field-lt12
returns-then-field-lt12 c = let one : min (c.args.field - 10) 2 ≡ 1 = omega arith in rw one (omega arith)

pub returns : goal.returns
returns c = let both : min (c.args.field - 10) 2 ≡ 2 = omega arith in rw both (omega arith)
