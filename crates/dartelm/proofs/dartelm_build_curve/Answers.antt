use Rattle.dartelm.proofs.Names.{ap, Sheet, build_curve, level_of}
use Rattle.dartelm.proofs.Answering.{answers-written}
use Rattle.dartelm.proofs.Handing.{handed-sheet}
use Rattle.dartelm.proofs.dartelm_build_curve.Goals as goal

pub returns : goal.returns
returns c =
    let a = c.args in
    let built = c.build_curve_lent in
    let same = built.ensures (level_of a.fields.level) in
    answers-written a.image.now _ built.result c.wrote.ensures same.0 same.1
    (ap (λ (s : Sheet). build_curve a.kind a.image.now s a.text.now a.curve)
    (handed-sheet a.fields c.options_of-options.ensures c.split_values.ensures))
