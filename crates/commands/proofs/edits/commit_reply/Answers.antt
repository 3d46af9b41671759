use Rattle.commands.proofs.Names.{sym, ap, Some, drop, length-take-le, arith, same_of}
use Rattle.commands.proofs.ReplyLaws.{lent-image, lent-room, part-back}
use Rattle.commands.proofs.edits.commit_reply.Goals as goal

pub returns-in_err-chip : goal.returns-in_err-chip
returns-in_err-chip c = rw (c.from_residual-in_err-chip.ensures, ← same_of c.in_ok-codes.was c.exchange_of.ensures, ← lent-image c.args.line.now c.args.room.now c.lent.new.room c.in_err-chip.was c.lent.ensures)

pub slice_bounds-image-end : goal.slice_bounds-image-end
slice_bounds-image-end c = lent-room c.args.line.now c.args.room.now c.lent.new.room c.in_ok-chip.was c.lent.ensures

pub slice_bounds-image-end-2 : goal.slice_bounds-image-end-2
slice_bounds-image-end-2 c = sym (length-take-le c.in_ok-chip.chip.length c.lent.new.room (lent-room c.args.line.now c.args.room.now c.lent.new.room c.in_ok-chip.was c.lent.ensures))

pub returns : goal.returns
returns c = rw (part-back c.commit-answer.new.image (drop c.in_ok-chip.chip.length c.lent.new.room) c.in_ok-chip.chip.length (omega (arith, c.commit-answer.auto.image, length-take-le c.in_ok-chip.chip.length c.lent.new.room (lent-room c.args.line.now c.args.room.now c.lent.new.room c.in_ok-chip.was c.lent.ensures))), ← same_of c.in_ok-codes.was c.exchange_of.ensures, ← lent-image c.args.line.now c.args.room.now c.lent.new.room c.in_ok-chip.was c.lent.ensures) (ap Some c.commit-answer.ensures.0)
