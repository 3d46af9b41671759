use Rattle.tray_report.proofs.StepLaws.{ongoing-as, step-as, total-step, nothing-step}
use Rattle.tray_report.proofs.steps.step.Goals as goal

pub kind_received-requires : goal.kind_received-requires
kind_received-requires c = (c.requires.0.sound, ongoing-as c.args.state.tray c.in-Kind.is c.requires.0.ongoing)

pub image_received-requires : goal.image_received-requires
image_received-requires c = (c.requires.0.sound, ongoing-as c.args.state.tray c.in-Image.is c.requires.0.ongoing)

pub returns-in-Kind : goal.returns-in-Kind
returns-in-Kind c = let a = c.args in step-as a.state.tray c.in-Kind.is a.buffer.now a.received c.front-bytes.ensures c.kind_received.ensures

pub returns-in-Image : goal.returns-in-Image
returns-in-Image c = let a = c.args in step-as a.state.tray c.in-Image.is a.buffer.now a.received c.front-bytes.ensures c.image_received.ensures

pub returns-in-Total : goal.returns-in-Total
returns-in-Total c = rw c.stepped.ensures (total-step c.args.state.tray _ _ c.in-Total.is c.requires.0.sound c.total_line.ensures)

pub returns-in-Nothing : goal.returns-in-Nothing
returns-in-Nothing c = rw c.stepped-in-Nothing.ensures (nothing-step c.args.state.tray _ _ c.in-Nothing.is c.requires.0.sound c.empty.ensures.0)
