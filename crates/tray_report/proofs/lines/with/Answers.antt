use Rattle.tray_report.proofs.LineLaws.{put-longer}
use Rattle.tray_report.proofs.lines.with.Goals as goal

pub returns : goal.returns
returns c = put-longer c.args.line _ _ _ c.requires c.put-length.ensures
