use Rattle.dartelm.proofs.Names.{ap, ap₂, ◌∙◌, Domain, Sheet, Options, build, level_of}
use Rattle.dartelm.proofs.Answering.{answers-written}
use Rattle.dartelm.proofs.Handing.{handed-sheet}
use Rattle.dartelm.proofs.dartelm_build.Goals as goal

pub returns : goal.returns
returns c =
    let a = c.args in
    let built = c.build_lent in
    let same = built.ensures (level_of a.fields.level) in
    let taken = c.options_of-options.ensures in
    answers-written a.image.now _ built.result c.wrote.ensures same.0 same.1
    (ap₂ (λ (s : Sheet) (d : Domain). build a.kind a.image.now s a.text.now d a.points.now)
    (handed-sheet a.fields taken c.split_values.ensures)
    (ap (λ (o : Options). o.domain) taken ∙ c.domain_of-found.ensures))
