use Rattle.dartelm.proofs.Names.{ap, Level, commit}
use Rattle.dartelm.proofs.Answering.{answers-written}
use Rattle.dartelm.proofs.dartelm_commit.Goals as goal

pub returns : goal.returns
returns c =
    let a = c.args in
    answers-written a.image.now _ c.commit.result c.wrote.ensures c.commit.ensures.0 c.commit.ensures.1
    (ap (λ (l : Level). commit a.kind a.image.now l a.field a.present_code a.new_code) c.level_of-writer.ensures)
