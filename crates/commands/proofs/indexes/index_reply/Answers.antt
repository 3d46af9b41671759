use Rattle.commands.proofs.Names.{sym, ap, Some, drop, length-take-le, arith, bytes}
use Rattle.commands.proofs.ReplyLaws.{lent-image, lent-front, front-room, part-back}
use Rattle.commands.proofs.indexes.index_reply.Goals as goal

pub returns-in_err-chip : goal.returns-in_err-chip
returns-in_err-chip c = rw (c.from_residual.ensures, ← lent-image c.args.line.now c.args.room.now c.lent.new.room c.in_err-chip.was c.lent.ensures)

pub returns-in_err-length : goal.returns-in_err-length
returns-in_err-length c = rw (c.from_residual-in_err-length.ensures, ← lent-image c.args.line.now c.args.room.now c.lent.new.room c.in_ok-chip.was c.lent.ensures, ← lent-front bytes c.args.buffer.now c.bytes_of.new.out c.in_err-length.was c.bytes_of.ensures c.word.ensures)

pub slice_bounds-make_index-end : goal.slice_bounds-make_index-end
slice_bounds-make_index-end c = front-room (bytes c.word.result.now) c.args.buffer.now c.bytes_of.new.out c.in_ok-length.was c.bytes_of.ensures

pub slice_bounds-make_index-end-2 : goal.slice_bounds-make_index-end-2
slice_bounds-make_index-end-2 c = sym (length-take-le c.in_ok-length.length c.bytes_of.new.out (front-room (bytes c.word.result.now) c.args.buffer.now c.bytes_of.new.out c.in_ok-length.was c.bytes_of.ensures))

pub returns : goal.returns
returns c = rw (part-back c.make_index-answer.new.buffer (drop c.in_ok-length.length c.bytes_of.new.out) c.in_ok-length.length (omega (arith, c.make_index-answer.auto.buffer, length-take-le c.in_ok-length.length c.bytes_of.new.out (front-room (bytes c.word.result.now) c.args.buffer.now c.bytes_of.new.out c.in_ok-length.was c.bytes_of.ensures))), ← lent-image c.args.line.now c.args.room.now c.lent.new.room c.in_ok-chip.was c.lent.ensures, ← lent-front bytes c.args.buffer.now c.bytes_of.new.out c.in_ok-length.was c.bytes_of.ensures c.word.ensures, ← c.front-image.ensures) (ap Some c.make_index-answer.ensures.0)
