use Rattle.commands.proofs.Names.{number}
use Rattle.commands.proofs.LineLaws.{meant}
use Rattle.commands.proofs.ReplyLaws.{lent-image}
use Rattle.commands.proofs.arguments.number_request.Goals as goal

pub returns-in_err-chip : goal.returns-in_err-chip
returns-in_err-chip c = rw (c.from_residual.ensures, ← lent-image c.args.line.now c.args.room.now c.lent.new.room c.in_err-chip.was c.lent.ensures)

pub returns : goal.returns
returns c = rw (← lent-image c.args.line.now c.args.room.now c.lent.new.room c.in_ok-chip.was c.lent.ensures, ← meant number c.in_ok-number.was c.number_of.ensures c.word.ensures)
