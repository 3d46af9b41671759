use Rattle.recordings.proofs.Names.{◌∙◌}
use Rattle.recordings.proofs.Ticks.{paired}
use Rattle.recordings.proofs.comparing.is_paired.Goals as goal

pub returns-else-tick-ne0 : goal.returns-else-tick-ne0
returns-else-tick-ne0 c = c.eq.ensures ∙ paired c.args.slow.now c.args.tick c.args.x c.requires c.if-tick-ne0.false c.refresh_at.ensures
