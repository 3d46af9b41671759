use Rattle.tray_report.proofs.LineLaws.{longer-more}
use Rattle.tray_report.proofs.lines.ended.Goals as goal

pub returns : goal.returns
returns c = longer-more (longer-more c.with.ensures c.with_number.ensures.0) c.with-2.ensures
