use Rattle.commands.proofs.Names.{rules, replicate, zero-add, no_segment, same_of, segment_at}
use Rattle.commands.proofs.LineLaws.{array-short, array-on, array-stop}
use Rattle.commands.proofs.curves.segments_of.Goals as goal

pub returns-then-count-gt20 : goal.returns-then-count-gt20
returns-then-count-gt20 c = rw (← same_of c.in_ok-count.was c.pairs_in.ensures) (array-short (segment_at c.args.list.now) (replicate 20 no_segment) c.in_ok-count.count 0 c.if-count-gt20.true)

pub returns-in_err-segments : goal.returns-in_err-segments
returns-in_err-segments c = rw (c.from_residual-in_err-segments.ensures, ← same_of c.in_ok-count.was c.pairs_in.ensures) (array-stop (segment_at c.args.list.now) (replicate 20 no_segment) c.in_ok-count.count 0 c.loop-at.segments c.loop-at.at c.loop-at.invariant.0 c.loop-at-test.true (rw (zero-add c.loop-at.at) (same_of c.in_err-segments.was c.segment_at.ensures)))

pub loop-at-preserved : goal.loop-at-preserved
loop-at-preserved c = (array-on (segment_at c.args.list.now) (replicate 20 no_segment) c.in_ok-count.count 0 c.loop-at.segments c.loop-at.at c.loop-at.invariant.0 c.loop-at-test.true (search rules) _ (rw (zero-add c.loop-at.at) (same_of c.in_ok-segments.was c.segment_at.ensures)), search rules, search rules)
