use Rattle.build.proofs.Splitting.{split-sheet}
use Rattle.build.proofs.building.build_curve.Goals as goal

pub returns : goal.returns
returns c =
    let a = c.args in
    rw (split-sheet a.sheet c.split_values.ensures) at (c.build_curve_lent.ensures a.sheet.level)
