use Rattle.commands.proofs.Names.{to_z-of_z, w64, rules, figure, dash}
use Rattle.commands.proofs.LineLaws.{meant}
use Rattle.commands.proofs.ReplyLaws.{lent-image}
use Rattle.commands.proofs.readings.reading_reply.Goals as goal

pub returns-in_err-chip : goal.returns-in_err-chip
returns-in_err-chip c = rw (c.from_residual.ensures, ← lent-image c.args.line.now c.args.room.now c.lent.new.room c.in_err-chip.was c.lent.ensures)

pub returns : goal.returns
returns c = rw (← lent-image c.args.line.now c.args.room.now c.lent.new.room c.in_ok-chip.was c.lent.ensures, ← meant figure c.in_ok-input.was c.figure_of.ensures c.word.ensures, ← meant dash c.in_ok-dash.was c.dash_of.ensures c.word-2.ensures, ← c.front-image.ensures, c.take_reading.ensures, to_z-of_z {w = w64} {z = c.in_ok-input.input} (search rules))
