use Rattle.codes.proofs.Names.{sym, ◌∙◌, ◌+◌, ◌-◌, ◌/◌, add-one, arith, length, listed}
use Rattle.codes.proofs.StoringLaws.{inside, reached, not-reached}
use Rattle.codes.proofs.tables.stored_in.Goals as goal

pub overflow_cast-w : goal.overflow_cast-w
unfolding listed
overflow_cast-w c = omega (arith, c.type_inv.values (length c.args.values.now - 1))

pub loop-low-init : goal.loop-low-init
unfolding listed
loop-low-init c = (omega arith, omega arith, inside _ _ _)

pub loop-low-preserved-then-goes_up : goal.loop-low-preserved-then-goes_up
unfolding listed
loop-low-preserved-then-goes_up c = let l = c.loop-low in let first = reached _ _ _ c.requires.0.rising ((l.low + l.high) / 2) (omega arith) (rw add-one at (sym c.goes_up.ensures ∙ c.if-goes_up.true)) in omega arith

pub loop-low-preserved : goal.loop-low-preserved
unfolding listed
loop-low-preserved c = let l = c.loop-low in let last = not-reached _ _ _ c.requires.0.rising ((l.low + l.high) / 2) (omega arith) (rw add-one at (sym c.goes_up.ensures ∙ c.if-goes_up.false)) in omega arith
