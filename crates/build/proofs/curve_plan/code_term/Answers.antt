use Rattle.build.proofs.Names.{sym, ◌∙◌, rules, same_of, Single, tenths_before, Real}
use Rattle.build.proofs.SegmentPlans.{two_down, exponent-of-word, exponent-refused, coefficient-refused, term-coded}
use Rattle.build.proofs.Handed.{handed}
use Rattle.build.proofs.curve_plan.code_term.Goals as goal

pub returns-in_err-power : goal.returns-in_err-power
returns-in_err-power c =
    let a = c.args in
    let before = tenths_before (a.before) in
    let down = c.encode_exponent.ensures ∙ exponent-of-word before a.i {e = a.term.exponent} (search rules) in
    rw (handed c.from_residual.result c.from_residual.ensures) (two_down (exponent-refused before a.i a.term (sym (same_of c.in_err-power.was down))))

pub returns-in_err-factor : goal.returns-in_err-factor
returns-in_err-factor c =
    let a = c.args in
    let before = tenths_before (a.before) in
    let own = sym (same_of c.in_ok-power.was (c.encode_exponent.ensures ∙ exponent-of-word before a.i {e = a.term.exponent} (search rules))) in
    rw (handed c.from_residual-in_err-factor.result c.from_residual-in_err-factor.ensures) (two_down (coefficient-refused before a.i a.term own (sym (same_of c.in_err-factor.was c.encode_coefficient.ensures))))

pub returns : goal.returns
returns c =
    let a = c.args in
    let before = tenths_before (a.before) in
    let own = sym (same_of c.in_ok-power.was (c.encode_exponent.ensures ∙ exponent-of-word before a.i {e = a.term.exponent} (search rules))) in
    let real : Real (Single a.term.coefficient) = search rules in
    rw (c.term_exponent.ensures, c.term_coefficient.ensures) (term-coded before a.i a.term own real (sym (same_of c.in_ok-factor.was c.encode_coefficient.ensures)))
