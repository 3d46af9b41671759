use Rattle.tray_report.proofs.Names.{refl}
use Rattle.tray_report.proofs.LineLaws.{put_as}
use Rattle.tray_report.proofs.lines.put.Goals as goal

pub returns : goal.returns
returns c = put_as c.args.out.now c.args.text.now _ c.args.at _ c.requires refl c.copy_from_slice.ensures.after
