use Rattle.tray_report.proofs.Names.{true, false}
use Rattle.tray_report.proofs.StepLaws.{image-judged}
use Rattle.tray_report.proofs.steps.image_received.Goals as goal

pub returns-then-tray : goal.returns-then-tray
returns-then-tray c = rw c.stepped.ensures (image-judged c.args.tray c.args.kind c.args.bytes.now _ true c.requires.0 c.requires.1 c.report_image.ensures c.if-tray.true)

pub returns-else-tray : goal.returns-else-tray
returns-else-tray c = rw c.stepped-else-tray.ensures (image-judged c.args.tray c.args.kind c.args.bytes.now _ false c.requires.0 c.requires.1 c.report_image.ensures c.if-tray.false)
