use Rattle.refusal.proofs.Outcomes.{exits}
use Rattle.sheet.proofs.Names.{ap, first_selector, stood_to, ◌∙◌, ◌+◌, arith, length, Bridge, Ok, Err, basic, last-most, stream_in, judged, layout_at, basic-most}
use Rattle.sheet.proofs.WalkSteps.{BasicJudgedUpTo, basic-start, basic-turn, judged-all, Turn, basic-stood}
use Rattle.sheet.proofs.walk.judge_basic.Goals as goal
use Rattle.sheet.proofs.walk.judge_basic.Goals.{After-basic_row-row}

turn : (c : After-basic_row-row) → let a = c.args in
    Turn a.sizes a.image.now c.basic_row-row.result c.loop-field.cursor.at (judged (stream_in a.sizes a.image.now) basic 0 0)
    (BasicJudgedUpTo Bridge a.sizes a.image.now (c.loop-field.field + 1))
turn c =
    basic-turn Bridge c.requires _ _ c.loop-field.invariant c.loop-field-test.true c.basic_closed-last.ensures.0 (c.basic_row-row.ensures (layout_at Bridge 0))

pub loop-field-init : goal.loop-field-init
loop-field-init c = let a = c.args in rw c.start-cursor.ensures (basic-start Bridge a.sizes a.image.now)

pub basic_row-row-requires : goal.basic_row-row-requires
basic_row-row-requires c = (c.loop-field.invariant.0, omega (arith, c.basic_closed-last.ensures.0))

pub over-passed-requires : goal.over-passed-requires
over-passed-requires c = let (w, s, fits) = (turn c).fits in omega (arith, w.small)

pub judge_at-requires : goal.judge_at-requires
judge_at-requires c = rw c.over-passed.ensures (turn (goal.at.judge_at-requires c).After-basic_row-row).fits

pub returns-in_err-judge_at : goal.returns-in_err-judge_at
returns-in_err-judge_at c =
    let w = c.requires in
    ap (stood_to 0 first_selector) (exits _ c.from_residual.ensures) ∙ (basic-stood w (Err _) ((turn (goal.at.returns-in_err-judge_at c).After-basic_row-row).halt _ (rw c.over-passed.ensures at c.judge_at.ensures) c.in_err-judge_at.was))

pub overflow_add-field : goal.overflow_add-field
overflow_add-field c = omega (arith, c.basic_closed-last.ensures.0, basic-most Bridge, last-most Bridge)

pub loop-field-smaller : goal.loop-field-smaller
loop-field-smaller c = omega arith

pub loop-field-preserved : goal.loop-field-preserved
loop-field-preserved c = rw c.over-passed.ensures ((turn (goal.at.loop-field-preserved c).After-basic_row-row).next _ (rw c.over-passed.ensures at c.judge_at.ensures) c.in_ok-judge_at.was)

pub returns : goal.returns
returns c = basic-stood c.requires (Ok tt) (judged-all Bridge _ (length basic) _ c.loop-field.invariant.1 (c.basic_closed-last.ensures.1 Bridge) (omega arith) c.loop-field-test.false)
