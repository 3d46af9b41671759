use Rattle.templates.proofs.Names.{sym}
use Rattle.templates.proofs.CurveLaws.{low-code, high-code, inner_code}
use Rattle.templates.proofs.curves.is_exponent.Goals as goal

pub returns-then-code-lt-FIRST_EXPONENT : goal.returns-then-code-lt-FIRST_EXPONENT
returns-then-code-lt-FIRST_EXPONENT c = sym (low-code c.args.code c.if-code-lt-FIRST_EXPONENT.true)

pub returns-then-code-gt-LAST_EXPONENT : goal.returns-then-code-gt-LAST_EXPONENT
returns-then-code-gt-LAST_EXPONENT c = sym (high-code c.args.code c.if-code-gt-LAST_EXPONENT.true)

pub returns : goal.returns
returns c = sym (inner_code c.args.code c.if-code-lt-FIRST_EXPONENT.false c.if-code-gt-LAST_EXPONENT.false)
