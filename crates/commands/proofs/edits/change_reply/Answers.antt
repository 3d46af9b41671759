use Rattle.commands.proofs.Names.{sym, ap, Some, drop, length-take-le, arith, same_of}
use Rattle.commands.proofs.ReplyLaws.{lent-image, lent-room, part-back}
use Rattle.commands.proofs.edits.change_reply.Goals as goal

pub returns-in_err-chip : goal.returns-in_err-chip
returns-in_err-chip c = rw (c.from_residual-in_err-chip.ensures, ← same_of c.in_ok-edit.was c.edit_of.ensures, ← lent-image c.args.line.now c.args.room.now c.lent.new.room c.in_err-chip.was c.lent.ensures)

pub slice_bounds-change-end : goal.slice_bounds-change-end
slice_bounds-change-end c = lent-room c.args.line.now c.args.room.now c.lent.new.room c.in_ok-chip.was c.lent.ensures

pub slice_bounds-change-end-2 : goal.slice_bounds-change-end-2
slice_bounds-change-end-2 c = sym (length-take-le c.in_ok-chip.chip.length c.lent.new.room (lent-room c.args.line.now c.args.room.now c.lent.new.room c.in_ok-chip.was c.lent.ensures))

pub returns : goal.returns
returns c = rw (part-back c.change-answer.new.image (drop c.in_ok-chip.chip.length c.lent.new.room) c.in_ok-chip.chip.length (omega (arith, c.change-answer.auto.image, length-take-le c.in_ok-chip.chip.length c.lent.new.room (lent-room c.args.line.now c.args.room.now c.lent.new.room c.in_ok-chip.was c.lent.ensures))), ← same_of c.in_ok-edit.was c.edit_of.ensures, ← lent-image c.args.line.now c.args.room.now c.lent.new.room c.in_ok-chip.was c.lent.ensures) (ap Some c.change-answer.ensures.0)
