use Rattle.tray_report.proofs.JudgeLaws.{bits_fit, judged-as}
use Rattle.tray_report.proofs.images.report_image.Goals as goal

pub added-requires : goal.added-requires
added-requires c = bits_fit c.args.tray c.args.kind c.args.image.now c.requires.0 c.requires.1 c.check-checked.result c.check-checked.ensures

pub returns : goal.returns
returns c =
    judged-as c.args.tray c.args.kind c.args.image.now c.requires.0 c.requires.1 c.check-checked.result c.check-checked.ensures _ _ _ _
    c.line-line.ensures
    c.added.ensures
    c.is_whole.ensures
    c.has_more.ensures
