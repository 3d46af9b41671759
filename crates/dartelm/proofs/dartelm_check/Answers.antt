use Rattle.dartelm.proofs.Names.{arith, end-byte, struct_by, numbers, no_numbers, check_answer}
use Rattle.dartelm.proofs.Answering.{answers}
use Rattle.dartelm.proofs.Handing.{number_small}
use Rattle.dartelm.proofs.dartelm_check.Goals as goal

pub overflow_cast-result-in-Ok : goal.overflow_cast-result-in-Ok
overflow_cast-result-in-Ok c = omega (arith, number_small c.in-Ok.summary.template c.template_number.ensures)

pub returns-in-Err : goal.returns-in-Err
returns-in-Err c = rw (c.number.ensures, c.place.ensures) (answers (struct_by check_answer numbers no_numbers) c.check.ensures c.in-Err.is)

pub returns-in-Ok : goal.returns-in-Ok
returns-in-Ok c =
    rw (end-byte c.in-Ok.summary.end_bit, c.template_number.ensures, c.domain_number.ensures)
    (answers (struct_by check_answer numbers no_numbers) c.check.ensures c.in-Ok.is)
