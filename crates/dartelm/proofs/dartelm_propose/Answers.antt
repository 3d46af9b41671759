use Rattle.dartelm.proofs.Names.{ap₂, ◌∙◌, Value, Level, propose, struct_of, proposal_answer, no_proposal}
use Rattle.dartelm.proofs.Answering.{answers}
use Rattle.dartelm.proofs.dartelm_propose.Goals as goal

pub returns-in-Err : goal.returns-in-Err
returns-in-Err c =
    let a = c.args in
    rw (c.number.ensures, c.place.ensures, c.no_value.ensures)
    (answers (struct_of proposal_answer no_proposal)
    (c.propose.ensures ∙ ap₂ (λ (l : Level) (v : Value). propose a.kind a.image.now l a.field v) c.level_of.ensures c.value_of.ensures) c.in-Err.is)

pub returns-in-Ok : goal.returns-in-Ok
returns-in-Ok c =
    let a = c.args in
    rw c.by_flags.ensures
    (answers (struct_of proposal_answer no_proposal)
    (c.propose.ensures ∙ ap₂ (λ (l : Level) (v : Value). propose a.kind a.image.now l a.field v) c.level_of.ensures c.value_of.ensures) c.in-Ok.is)
