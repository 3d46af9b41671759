use Rattle.commands.proofs.Names.{same_of}
use Rattle.commands.proofs.ReplyLaws.{lent-image}
use Rattle.commands.proofs.edits.propose_reply.Goals as goal

pub returns-in_err-chip : goal.returns-in_err-chip
returns-in_err-chip c = rw (c.from_residual-in_err-chip.ensures, ← same_of c.in_ok-edit.was c.edit_of.ensures, ← lent-image c.args.line.now c.args.room.now c.lent.new.room c.in_err-chip.was c.lent.ensures)

pub returns : goal.returns
returns c = rw (← same_of c.in_ok-edit.was c.edit_of.ensures, ← lent-image c.args.line.now c.args.room.now c.lent.new.room c.in_ok-chip.was c.lent.ensures, ← c.front-image.ensures, ← c.propose.ensures)
