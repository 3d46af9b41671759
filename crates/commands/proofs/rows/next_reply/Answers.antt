use Rattle.commands.proofs.Names.{bytes}
use Rattle.commands.proofs.ReplyLaws.{lent-image, lent-front}
use Rattle.commands.proofs.rows.next_reply.Goals as goal

pub returns-in_err-chip : goal.returns-in_err-chip
returns-in_err-chip c = rw (c.from_residual.ensures, ← lent-image c.args.line.now c.args.room.now c.lent.new.room c.in_err-chip.was c.lent.ensures)

pub returns-in_err-length : goal.returns-in_err-length
returns-in_err-length c = rw (c.from_residual-in_err-length.ensures, ← lent-image c.args.line.now c.args.room.now c.lent.new.room c.in_ok-chip.was c.lent.ensures, ← lent-front bytes c.args.image.now c.bytes_of.new.out c.in_err-length.was c.bytes_of.ensures c.word.ensures)

pub returns : goal.returns
returns c = rw (← lent-image c.args.line.now c.args.room.now c.lent.new.room c.in_ok-chip.was c.lent.ensures, ← lent-front bytes c.args.image.now c.bytes_of.new.out c.in_ok-length.was c.bytes_of.ensures c.word.ensures, ← c.front-present.ensures, ← c.front-wanted.ensures, ← c.next_row.ensures)
