use Rattle.commands.proofs.Names.{◌∙◌, refl, sym, rules, length, come_said}
use Rattle.commands.proofs.GatherLaws.{after-end, gather-on}
use Rattle.commands.proofs.serving.gather.Goals as goal

pub loop-at-init : goal.loop-at-init
loop-at-init g c = (search rules, refl)

pub loop-at-preserved : goal.loop-at-preserved
loop-at-preserved g c = (search rules, gather-on (length c.args.line.now) (come_said c.loop-at.line c.loop-at.so_far) c.args.block.now c.loop-at.at c.loop-at-test.true c.loop-at.invariant.0 c.step-so_far.ensures c.loop-at.invariant.1)

pub returns : goal.returns
returns g c = sym (after-end (length c.args.line.now) (come_said c.loop-at.line c.loop-at.so_far) c.args.block.now c.loop-at.at (search rules)) ∙ c.loop-at.invariant.1
