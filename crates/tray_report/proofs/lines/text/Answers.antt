use Rattle.tray_report.proofs.Names.{ap, ◌∙◌, take}
use Rattle.tray_report.proofs.lines.text.Goals as goal

pub returns : goal.returns
returns c = c.front.ensures ∙ ap (take c.args.line.length) c.requires
