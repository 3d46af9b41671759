use Rattle.refusal.proofs.Outcomes.{exits}
use Rattle.sheet.proofs.Names.{step_said, ap, ◌∙◌, domain-sound, count-sound, stream_in}
use Rattle.sheet.proofs.TableSteps.{domain-halts, count-halts, count-stands}
use Rattle.sheet.proofs.table.take_table.Goals as goal

pub take_code-requires : goal.take_code-requires
take_code-requires c = (c.requires, rw c.cal_domain.ensures domain-sound)

pub take_code-requires-2 : goal.take_code-requires-2
take_code-requires-2 c = (c.requires, rw c.point_count.ensures count-sound)

pub returns-in_err-code : goal.returns-in_err-code
returns-in_err-code c =
    let a = c.args in
    ap step_said (exits _ c.from_residual.ensures) ∙ (domain-halts (stream_in a.sizes a.image.now) a.cursor.at _ (rw c.cal_domain.ensures at c.take_code.ensures) c.in_err-code.was)

pub returns-in_err-n : goal.returns-in_err-n
returns-in_err-n c =
    let a = c.args in
    ap step_said (exits _ c.from_residual-in_err-n.ensures) ∙ (count-halts (stream_in a.sizes a.image.now) a.cursor.at _
    (rw c.cal_domain.ensures at c.take_code.ensures) c.in_ok-code.was _
    (rw c.point_count.ensures at c.take_code-2.ensures) c.in_err-n.was)

pub returns : goal.returns
returns c =
    let a = c.args in
    (rw c.domain_of.ensures at c.take_listed.ensures)
    ∙ count-stands (stream_in a.sizes a.image.now) a.cursor.at _
    (rw c.cal_domain.ensures at c.take_code.ensures) c.in_ok-code.was _
    (rw c.point_count.ensures at c.take_code-2.ensures) c.in_ok-n.was
