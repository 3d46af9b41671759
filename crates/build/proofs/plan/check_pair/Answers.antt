use Rattle.build.proofs.Names.{sym, ◌∙◌, same_of, bind-good, bind-refused, then-good, then-refused, pair_at}
use Rattle.build.proofs.PairTurns.{codes-then}
use Rattle.build.proofs.Handed.{handed}
use Rattle.build.proofs.plan.check_pair.Goals as goal

pub returns-in_err-codes : goal.returns-in_err-codes
returns-in_err-codes c =
    let a = c.args in
    let none = sym (same_of c.in_err-codes.was c.code_pair.ensures) in
    rw (handed c.from_residual.result c.from_residual.ensures) (sym (codes-then a.i (pair_at a.points.now a.i) a.domain (a.before) ∙ bind-refused _ none))

pub returns-in_err-follows : goal.returns-in_err-follows
returns-in_err-follows c =
    let a = c.args in
    let codes = sym (same_of c.in_ok-codes.was c.code_pair.ensures) in
    let level = sym (same_of c.in_err-follows.was c.follows.ensures) in
    rw (handed c.from_residual-in_err-follows.result c.from_residual-in_err-follows.ensures) (sym (codes-then a.i (pair_at a.points.now a.i) a.domain (a.before) ∙ bind-good _ codes ∙ then-refused _ level))

pub returns : goal.returns
returns c =
    let a = c.args in
    let codes = sym (same_of c.in_ok-codes.was c.code_pair.ensures) in
    let rises = sym (same_of c.in_ok-follows.was c.follows.ensures) in
    sym (codes-then a.i (pair_at a.points.now a.i) a.domain (a.before) ∙ bind-good _ codes ∙ then-good _ rises)
