use Rattle.refusal.proofs.Outcomes.{exits}
use Rattle.sheet.proofs.Names.{step_said, ap, ◌∙◌, arith, cal_point, cal_deviation, turned, stood, point-sound, deviation-sound, stream_in}
use Rattle.sheet.proofs.Steps.{code-lies}
use Rattle.sheet.proofs.TableSteps.{point-halts, deviation-halts, pair-follows}
use Rattle.sheet.proofs.table.take_codes.Goals as goal

pub take_code-requires : goal.take_code-requires
take_code-requires c = (c.requires, rw c.cal_point.ensures point-sound)

pub take_code-requires-2 : goal.take_code-requires-2
take_code-requires-2 c = (c.requires, rw c.cal_deviation.ensures deviation-sound)

pub overflow_cast-codes : goal.overflow_cast-codes
overflow_cast-codes c =
    let a = c.args in
    let e = rw c.cal_point.ensures at c.take_code.ensures in
    record { fits = code-lies (stream_in a.sizes a.image.now) cal_point a.cursor.at e c.in_ok-point.was }

pub overflow_cast-codes-2 : goal.overflow_cast-codes-2
overflow_cast-codes-2 c =
    let a = c.args in
    let f = rw c.cal_deviation.ensures at c.take_code-2.ensures in
    let l = code-lies (stream_in a.sizes a.image.now) cal_deviation _ f c.in_ok-deviation.was in
    record { fits = omega (arith, l) }

pub returns-in_err-point : goal.returns-in_err-point
returns-in_err-point c =
    let a = c.args in
    let e = rw c.cal_point.ensures at c.take_code.ensures in
    ap step_said (exits _ c.from_residual.ensures) ∙ (point-halts (stream_in a.sizes a.image.now) a.domain (a.before) a.cursor.at _ e c.in_err-point.was)

pub returns-in_err-deviation : goal.returns-in_err-deviation
returns-in_err-deviation c =
    let a = c.args in
    let e = rw c.cal_point.ensures at c.take_code.ensures in
    let f = rw c.cal_deviation.ensures at c.take_code-2.ensures in
    ap step_said (exits _ c.from_residual-in_err-deviation.ensures) ∙ (deviation-halts (stream_in a.sizes a.image.now) a.domain (a.before) a.cursor.at _ e c.in_ok-point.was _ f c.in_err-deviation.was)

pub returns-in_err-follows : goal.returns-in_err-follows
returns-in_err-follows c =
    let a = c.args in
    let e = rw c.cal_point.ensures at c.take_code.ensures in
    let f = rw c.cal_deviation.ensures at c.take_code-2.ensures in
    ap step_said (exits _ c.from_residual-in_err-follows.ensures) ∙ (turned _ c.follows.ensures c.in_err-follows.was
    ∙ pair-follows (stream_in a.sizes a.image.now) a.domain (a.before) a.cursor.at _ e c.in_ok-point.was _ f c.in_ok-deviation.was)

pub returns : goal.returns
returns c =
    let a = c.args in
    let e = rw c.cal_point.ensures at c.take_code.ensures in
    let f = rw c.cal_deviation.ensures at c.take_code-2.ensures in
    stood _ c.follows.ensures c.in_ok-follows.was
    ∙ pair-follows (stream_in a.sizes a.image.now) a.domain (a.before) a.cursor.at _ e c.in_ok-point.was _ f c.in_ok-deviation.was
