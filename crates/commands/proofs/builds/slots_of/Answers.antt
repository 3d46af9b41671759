use Rattle.commands.proofs.Names.{rules, replicate, arith, slot, Missing, last-most, value, slot_at}
use Rattle.commands.proofs.LineLaws.{meant, array-start, array-on, array-stop}
use Rattle.commands.proofs.builds.slots_of.Goals as goal

pub loop-at-init : goal.loop-at-init
loop-at-init c = (array-start (slot_at c.args.line.now) (replicate 21 (slot Missing)) c.last_field-last.result 5, omega (arith, c.last_field-last.ensures, last-most c.args.template), search rules)

pub returns-in_err-value : goal.returns-in_err-value
returns-in_err-value c = rw (c.from_residual.ensures, ← c.last_field-last.ensures) (array-stop (slot_at c.args.line.now) (replicate 21 (slot Missing)) c.last_field-last.result 5 c.loop-at.fields c.loop-at.at c.loop-at.invariant.0 c.loop-at-test.true (rw (← meant value c.in_err-value.was c.value_of.ensures c.word.ensures)))

pub loop-at-preserved : goal.loop-at-preserved
loop-at-preserved c = (array-on (slot_at c.args.line.now) (replicate 21 (slot Missing)) c.last_field-last.result 5 c.loop-at.fields c.loop-at.at c.loop-at.invariant.0 c.loop-at-test.true (search rules) _ (rw (← meant value c.in_ok-value.was c.value_of.ensures c.word.ensures)), search rules, search rules)
