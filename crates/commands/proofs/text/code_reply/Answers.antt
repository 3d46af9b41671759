use Rattle.commands.proofs.Names.{number, bytes}
use Rattle.commands.proofs.LineLaws.{meant}
use Rattle.commands.proofs.ReplyLaws.{lent-front}
use Rattle.commands.proofs.text.code_reply.Goals as goal

pub returns-in_err-length : goal.returns-in_err-length
returns-in_err-length c = rw (c.from_residual-in_err-length.ensures, ← meant number c.in_ok-field.was c.number_of.ensures c.word.ensures, ← lent-front bytes c.args.room.now c.bytes_of.new.out c.in_err-length.was c.bytes_of.ensures c.word-2.ensures)

pub returns : goal.returns
returns c = rw (← meant number c.in_ok-field.was c.number_of.ensures c.word.ensures, ← lent-front bytes c.args.room.now c.bytes_of.new.out c.in_ok-length.was c.bytes_of.ensures c.word-2.ensures, ← c.front.ensures, ← c.code_of.ensures)
