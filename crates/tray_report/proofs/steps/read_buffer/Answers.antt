use Rattle.tray_report.proofs.StepLaws.{buffer-part}
use Rattle.tray_report.proofs.steps.read_buffer.Goals as goal

pub returns : goal.returns
returns c = buffer-part c.args.state.next c.args.buffer.now _ _ c.requires c.bytes_wanted.ensures c.front_mut.ensures
