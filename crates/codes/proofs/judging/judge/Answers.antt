-- A code that its rule refuses may still mean missing.
use Rattle.codes.proofs.Names.{sym, ◌∙◌, decode}
use Rattle.codes.proofs.DecodeLaws.{stands-by-rule}
use Rattle.codes.proofs.judging.judge.Goals as goal

pub returns-then-is_missing : goal.returns-then-is_missing
unfolding decode
returns-then-is_missing c = rw (← c.is_missing.ensures, c.if-is_missing.true)

pub returns-in-Ok : goal.returns-in-Ok
unfolding decode
returns-in-Ok c = let a = c.args in stands-by-rule a.row a.at a.code ((sym c.in-Ok.is) ∙ c.by_rule.ensures)

pub returns-else-is_missing : goal.returns-else-is_missing
unfolding decode
returns-else-is_missing c = rw (← c.is_missing.ensures, c.if-is_missing.false) ((sym c.in-Err.is) ∙ c.by_rule.ensures)
