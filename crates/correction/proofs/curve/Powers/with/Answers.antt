use Rattle.correction.proofs.Names.{lt-ltb, le-ltb, add-one, with_power}
use Rattle.correction.proofs.curve.Powers.with.Goals as goal

pub returns-then-power-lt6 : goal.returns-then-power-lt6
unfolding with_power
returns-then-power-lt6 c = rw (lt-ltb c.args.power 6 c.if-power-lt6.true, c.f32_to_f64_with_nan.ensures, add-one)

pub returns : goal.returns
unfolding with_power
returns c = rw (le-ltb c.args.power 6 c.if-power-lt6.false)
