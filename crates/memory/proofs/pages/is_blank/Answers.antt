use Rattle.memory.proofs.Names.{ap, ◌∙◌, all_ff}
use Rattle.memory.proofs.SumLaws.{page-taken}
use Rattle.memory.proofs.pages.is_blank.Goals as goal

pub returns : goal.returns
returns c =
    let a = c.args in
    c.all_ff.ensures ∙ ap all_ff (page-taken a.sizes a.image.now a.page)
