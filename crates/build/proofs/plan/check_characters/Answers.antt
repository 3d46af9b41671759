use Rattle.build.proofs.Names.{refl, sym, ◌∙◌}
use Rattle.build.proofs.TextTurns.{unfit-zero, unfit-above, unfit-next, unfit-end}
use Rattle.build.proofs.plan.check_characters.Goals as goal
use Rattle.build.proofs.plan.check_characters.Goals.{then-is_zero-via-then-is_zero, then-is_zero-via-else-is_zero+then-c-gt127}

pub loop-c-init : goal.loop-c-init
loop-c-init c = refl

pub returns-then-is_zero : goal.returns-then-is_zero
returns-then-is_zero c =
    let l = c.loop-c in
    let text = c.args.text.now in
    elim c.then-is_zero.branch [
      | then-is_zero-via-then-is_zero w ↦ rw (sym l.invariant ∙ unfit-zero text l.c-index c.loop-c-test.true w.if-is_zero.true) refl
      | then-is_zero-via-else-is_zero+then-c-gt127 w ↦ rw (sym l.invariant ∙ unfit-above text l.c-index c.loop-c-test.true w.if-is_zero.false w.if-c-gt127.true) refl
    ]

pub loop-c-preserved : goal.loop-c-preserved
loop-c-preserved c =
    let l = c.loop-c in
    sym (unfit-next c.args.text.now l.c-index c.loop-c-test.true c.if-is_zero.false c.if-c-gt127.false) ∙ l.invariant

pub returns : goal.returns
returns c = rw (sym c.loop-c.invariant ∙ unfit-end c.args.text.now c.loop-c.c-index c.loop-c-test.false) refl
