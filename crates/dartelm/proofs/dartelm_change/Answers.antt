use Rattle.dartelm.proofs.Names.{ap₂, Value, Level, change}
use Rattle.dartelm.proofs.Answering.{answers-written}
use Rattle.dartelm.proofs.dartelm_change.Goals as goal

pub returns : goal.returns
returns c =
    let a = c.args in
    answers-written a.image.now _ c.change.result c.wrote.ensures c.change.ensures.0 c.change.ensures.1 (ap₂ (λ (l : Level) (v : Value). change a.kind a.image.now l a.field v) c.level_of-writer.ensures c.value_of.ensures)
