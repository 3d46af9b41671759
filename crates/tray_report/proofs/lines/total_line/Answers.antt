use Rattle.tray_report.proofs.LineLaws.{longer-reads}
use Rattle.tray_report.proofs.lines.total_line.Goals as goal

pub returns : goal.returns
returns c = longer-reads _ c.empty.ensures.0 c.ended.ensures
