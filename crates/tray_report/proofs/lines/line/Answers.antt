use Rattle.tray_report.proofs.Names.{◌∙◌, [], ◌∷◌, decimal}
use Rattle.tray_report.proofs.LineLaws.{line_reads}
use Rattle.tray_report.proofs.lines.line.Goals as goal

pub returns-in-Ok : goal.returns-in-Ok
returns-in-Ok c =
    rw c.in-Ok.is
    (line_reads _ (decimal c.args.position) _ (10 ∷ []) c.empty.ensures.0 c.with_number-begun.ensures.0 c.ended.ensures)

pub returns-in-Err : goal.returns-in-Err
returns-in-Err c =
    rw (c.in-Err.is, ← c.from.ensures ∙ c.number.ensures)
    (line_reads _ (decimal c.args.position) _ (10 ∷ []) c.empty.ensures.0 c.with_number-begun.ensures.0 c.ended-in-Err.ensures)
