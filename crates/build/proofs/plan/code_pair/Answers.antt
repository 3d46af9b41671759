use Rattle.build.proofs.Names.{sym, ◌∙◌, ◌+◌, ◌*◌, rules, arith, pos, get_or, same_of, cal_point, cal_deviation, point-sound, deviation-sound, pair_at}
use Rattle.build.proofs.Coding.{encode-of-word}
use Rattle.build.proofs.PairTurns.{point-refused, deviation-refused, pair-coded, fitting}
use Rattle.build.proofs.Handed.{handed}
use Rattle.build.proofs.plan.code_pair.Goals as goal

-- The codes of the point and of its deviation fit.
pub overflow_cast-result : goal.overflow_cast-result
overflow_cast-result c =
    let a = c.args in
    record { fits = (fitting a.i (pair_at a.points.now a.i) cal_point _ _ point-sound (sym (same_of c.in_ok-point.was c.encode_point.ensures))).fits }

pub overflow_cast-result-2 : goal.overflow_cast-result-2
overflow_cast-result-2 c =
    let a = c.args in
    let l = (fitting a.i (pair_at a.points.now a.i) cal_deviation _ _ deviation-sound (sym (same_of c.in_ok-deviation.was c.encode_deviation.ensures))).fits in
    record { fits = omega (arith, l) }

pub returns-in_err-point : goal.returns-in_err-point
returns-in_err-point c =
    let a = c.args in
    let points = a.points.now in
    let point = c.encode_point.ensures ∙ encode-of-word cal_point a.i {figure = get_or points (2 * a.i) (pos 0)} (search rules) in
    rw (handed c.from_residual.result c.from_residual.ensures) (sym (point-refused a.i (pair_at points a.i) (sym (same_of c.in_err-point.was point))))

pub returns-in_err-deviation : goal.returns-in_err-deviation
returns-in_err-deviation c =
    let a = c.args in
    let points = a.points.now in
    let point = c.encode_point.ensures ∙ encode-of-word cal_point a.i {figure = get_or points (2 * a.i) (pos 0)} (search rules) in
    let deviation = c.encode_deviation.ensures ∙ encode-of-word cal_deviation a.i {figure = get_or points (2 * a.i + 1) (pos 0)} (search rules) in
    rw (handed c.from_residual-in_err-deviation.result c.from_residual-in_err-deviation.ensures) (sym (deviation-refused a.i (pair_at points a.i) (sym (same_of c.in_ok-point.was point)) (sym (same_of c.in_err-deviation.was deviation))))

pub returns : goal.returns
returns c =
    let a = c.args in
    let points = a.points.now in
    let point = c.encode_point.ensures ∙ encode-of-word cal_point a.i {figure = get_or points (2 * a.i) (pos 0)} (search rules) in
    let deviation = c.encode_deviation.ensures ∙ encode-of-word cal_deviation a.i {figure = get_or points (2 * a.i + 1) (pos 0)} (search rules) in
    sym (pair-coded a.i (pair_at points a.i) (sym (same_of c.in_ok-point.was point)) (sym (same_of c.in_ok-deviation.was deviation)))
