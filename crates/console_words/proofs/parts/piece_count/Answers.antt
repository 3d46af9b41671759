use Rattle.console_words.proofs.Names.{arith, eqb, eq-eqb, ne_eqb, take_all, count_by_more_yes, count_by_more_no, length-slice_split}
use Rattle.console_words.proofs.WordLaws.{pieces-split}
use Rattle.console_words.proofs.parts.piece_count.Goals as goal
use Rattle.console_words.proofs.parts.piece_count.Goals.{then-b-separator, else-b-separator}

pub loop-b-preserved : goal.loop-b-preserved
loop-b-preserved c =
    let sep = c.args.separator in
    let more = count_by_more_yes (λ b. eqb b sep) c.args.line.now c.loop-b.b-index 0 c.loop-b-test.true in
    let same = count_by_more_no (λ b. eqb b sep) c.args.line.now c.loop-b.b-index 0 c.loop-b-test.true in
    elim c.if-b-separator.branch [
      | then-b-separator w ↦ (omega arith, omega (arith, more (eq-eqb _ _ w.if-b-separator.true)))
      | else-b-separator w ↦ (omega arith, omega (arith, same (ne_eqb _ _ w.if-b-separator.false)))
    ]

pub returns : goal.returns
returns c =
    let line = c.args.line.now in
    let sep = c.args.separator in
    let whole = take_all c.loop-b.b-index line c.loop-b-test.false in
    rw (pieces-split sep line, length-slice_split (λ b. eqb b sep) line) (rw whole at c.loop-b.invariant.1)
