use Rattle.refusal.proofs.Outcomes.{exits}
use Rattle.sheet.proofs.Names.{◌∙◌, ◌-◌, arith, Resistance, last_field, last-most, basic-most, layout_at}
use Rattle.sheet.proofs.WalkSteps.{own-start, OwnTurn, own_turn, judged-all}
use Rattle.sheet.proofs.walk.judge_resistance.Goals as goal
use Rattle.sheet.proofs.walk.judge_resistance.Goals.{After-resistance_row-row}

turn : (c : After-resistance_row-row) → let a = c.args in
    OwnTurn a.sizes a.image.now (layout_at Resistance a.precision) c.resistance_row-row.result c.loop-field.field c.loop-field.cursor.at
turn c =
    own_turn (layout_at Resistance _) c.requires _ _ c.loop-field.invariant c.loop-field-test.true c.last_closed-last.ensures.0 c.resistance_row-row.ensures

pub overflow_add-field : goal.overflow_add-field
overflow_add-field c = omega (arith, c.basic_fields-field.ensures, basic-most Resistance, last-most Resistance)

pub loop-field-init : goal.loop-field-init
loop-field-init c = let a = c.args in own-start (layout_at Resistance a.precision) a.sizes a.image.now c.basic_fields-field.ensures

pub resistance_row-row-requires : goal.resistance_row-row-requires
resistance_row-row-requires c = (c.loop-field.invariant.0, omega (arith, c.last_closed-last.ensures.0))

pub over-passed-requires : goal.over-passed-requires
over-passed-requires c = let (w, s, fits) = (turn c).fits in omega (arith, w.small)

pub judge_at-requires : goal.judge_at-requires
judge_at-requires c = rw c.over-passed.ensures (turn (goal.at.judge_at-requires c).After-resistance_row-row).fits

pub returns-in_err-judge_at : goal.returns-in_err-judge_at
returns-in_err-judge_at c =
    exits _ c.from_residual.ensures ∙ ((turn (goal.at.returns-in_err-judge_at c).After-resistance_row-row).halt _ (rw c.over-passed.ensures at c.judge_at.ensures) c.in_err-judge_at.was)

pub overflow_add-field-in-loop-field : goal.overflow_add-field-in-loop-field
overflow_add-field-in-loop-field c = omega (arith, c.last_closed-last.ensures.0, last-most Resistance)

pub loop-field-smaller : goal.loop-field-smaller
loop-field-smaller c = omega arith

pub loop-field-preserved : goal.loop-field-preserved
loop-field-preserved c = rw c.over-passed.ensures ((turn (goal.at.loop-field-preserved c).After-resistance_row-row).next _ (rw c.over-passed.ensures at c.judge_at.ensures) c.in_ok-judge_at.was)

pub returns : goal.returns
returns c = judged-all Resistance _ (last_field Resistance - 1) _ c.loop-field.invariant.1 c.last_closed-last.ensures.1 (omega arith) c.loop-field-test.false
