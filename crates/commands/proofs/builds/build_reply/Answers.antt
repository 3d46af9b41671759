use Rattle.commands.proofs.Names.{◌∙◌, drop, length-take-le, arith, said_of, same_of, built_said}
use Rattle.refusal.specs.Outcome.{Outcome}
use Rattle.std.specs.Prelude.{Option}
use Rattle.commands.proofs.ReplyLaws.{part-back}
use Rattle.commands.proofs.BuildLaws.{built-front}
use Rattle.commands.proofs.builds.build_reply.Goals as goal

pub returns : goal.returns
returns c =
    let n = c.min-length.result in
    let room = c.args.room.now in
    rw (part-back c.built.new.image (drop n room) n (omega (arith, c.built.auto.image, length-take-le n room (omega (arith, c.min-length.ensures)))), ← same_of c.in_ok-head.was c.head_of.ensures, ← same_of c.in_ok-sheet.was c.sheet_of.ensures)
    (said_of (λ (y : Option (Outcome (Unit {0}))). built_said y c.built.new.image) c.in_ok-answer.was c.built.ensures
    ∙ built-front room c.args.text.now c.args.points.now c.args.line.now c.in_ok-head.head c.in_ok-sheet.sheet c.min-length.ensures)
