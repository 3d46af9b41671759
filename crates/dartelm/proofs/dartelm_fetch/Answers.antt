use Rattle.dartelm.proofs.Names.{ap, ◌∙◌, pos, Whole, struct_of, field_answer}
use Rattle.dartelm.proofs.dartelm_fetch.Goals as goal

pub returns : goal.returns
returns c = c.held.ensures ∙ ap (struct_of field_answer (Whole (pos 0))) c.fetch.ensures
