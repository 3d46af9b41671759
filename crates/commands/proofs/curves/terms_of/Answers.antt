use Rattle.commands.proofs.Names.{rules, replicate, zero-add, same_of, term_at, zero_term}
use Rattle.commands.proofs.LineLaws.{array-short, array-on, array-stop}
use Rattle.commands.proofs.curves.terms_of.Goals as goal

pub returns-then-count-gt30 : goal.returns-then-count-gt30
returns-then-count-gt30 c = rw (← same_of c.in_ok-count.was c.pairs_in.ensures) (array-short (term_at c.args.list.now) (replicate 30 zero_term) c.in_ok-count.count 0 c.if-count-gt30.true)

pub returns-in_err-terms : goal.returns-in_err-terms
returns-in_err-terms c = rw (c.from_residual-in_err-terms.ensures, ← same_of c.in_ok-count.was c.pairs_in.ensures) (array-stop (term_at c.args.list.now) (replicate 30 zero_term) c.in_ok-count.count 0 c.loop-at.terms c.loop-at.at c.loop-at.invariant.0 c.loop-at-test.true (rw (zero-add c.loop-at.at) (same_of c.in_err-terms.was c.term_at.ensures)))

pub loop-at-preserved : goal.loop-at-preserved
loop-at-preserved c = (array-on (term_at c.args.list.now) (replicate 30 zero_term) c.in_ok-count.count 0 c.loop-at.terms c.loop-at.at c.loop-at.invariant.0 c.loop-at-test.true (search rules) _ (rw (zero-add c.loop-at.at) (same_of c.in_ok-terms.was c.term_at.ensures)), search rules, search rules)
