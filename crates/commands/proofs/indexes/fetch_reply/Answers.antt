use Rattle.commands.proofs.Names.{number, bytes}
use Rattle.commands.proofs.LineLaws.{meant}
use Rattle.commands.proofs.ReplyLaws.{lent-image, lent-front}
use Rattle.commands.proofs.indexes.fetch_reply.Goals as goal

pub returns-in_err-chip : goal.returns-in_err-chip
returns-in_err-chip c = rw (c.from_residual.ensures, ← lent-image c.args.line.now c.args.room.now c.lent.new.room c.in_err-chip.was c.lent.ensures)

pub returns-in_err-length : goal.returns-in_err-length
returns-in_err-length c = rw (c.from_residual-in_err-length.ensures, ← lent-image c.args.line.now c.args.room.now c.lent.new.room c.in_ok-chip.was c.lent.ensures, ← lent-front bytes c.args.buffer.now c.bytes_of.new.out c.in_err-length.was c.bytes_of.ensures c.word.ensures)

pub returns : goal.returns
returns c = rw (← lent-image c.args.line.now c.args.room.now c.lent.new.room c.in_ok-chip.was c.lent.ensures, ← lent-front bytes c.args.buffer.now c.bytes_of.new.out c.in_ok-length.was c.bytes_of.ensures c.word.ensures, ← meant number c.in_ok-field.was c.number_of.ensures c.word-2.ensures, ← c.front-image.ensures, ← c.front-index.ensures, ← c.fetch.ensures)
