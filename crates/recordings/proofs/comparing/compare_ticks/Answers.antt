use Rattle.recordings.proofs.Names.{◌∙◌, sym, refreshes}
use Rattle.recordings.proofs.Ticks.{turn-fails, turn-next, turn_end}
use Rattle.recordings.proofs.comparing.compare_ticks.Goals as goal

pub returns-then-not-is_right : goal.returns-then-not-is_right
returns-then-not-is_right c =
    let a = c.args in
    λ kind x h. sym (turn-fails kind a.image.now (refreshes a.slow.now) a.fast.now c.loop-tick.tick c.loop-tick-test.true (rw c.refresh_at.ensures at (sym (c.is_right.ensures kind x h) ∙ c.if-not-is_right.true))) ∙ c.loop-tick.invariant kind x h

pub loop-tick-preserved : goal.loop-tick-preserved
loop-tick-preserved c =
    let a = c.args in
    λ kind x h. sym (turn-next kind a.image.now (refreshes a.slow.now) a.fast.now c.loop-tick.tick c.loop-tick-test.true (rw c.refresh_at.ensures at (sym (c.is_right.ensures kind x h) ∙ c.if-not-is_right.false))) ∙ c.loop-tick.invariant kind x h

pub returns : goal.returns
returns c =
    let a = c.args in
    λ kind x h. sym (turn_end kind a.image.now (refreshes a.slow.now) a.fast.now c.loop-tick.tick c.loop-tick-test.false) ∙ c.loop-tick.invariant kind x h
