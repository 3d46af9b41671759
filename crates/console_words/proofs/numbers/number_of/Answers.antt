use Rattle.console_words.proofs.Names.{sym, ◌∙◌, rules, eqb-true, length}
use Rattle.console_words.proofs.FigureLaws.{number-starts, number-none, number-on, number-stop, number-end}
use Rattle.console_words.proofs.FilledLaws.{not_empty}
use Rattle.console_words.proofs.numbers.number_of.Goals as goal

pub returns-then-is_empty : goal.returns-then-is_empty
returns-then-is_empty c = number-none c.args.word.now (eqb-true (length c.args.word.now) 0 (sym c.if-is_empty.ensures))

pub loop-character-init : goal.loop-character-init
loop-character-init c = (search rules, number-starts c.args.word.now (not_empty c.args.word.now c.if-is_empty.ensures))

pub returns-in_err-n : goal.returns-in_err-n
returns-in_err-n c = rw c.from_residual.ensures (number-stop _ _ _ _ c.loop-character-test.true c.longer.ensures c.in_err-n.was ∙ c.loop-character.invariant.1)

pub loop-character-preserved : goal.loop-character-preserved
loop-character-preserved c =
    let t = number-on _ _ _ _ _ c.loop-character-test.true c.longer.ensures c.in_ok-n.was in
    (t.0, t.1 ∙ c.loop-character.invariant.1)

pub returns : goal.returns
returns c = number-end _ _ _ c.loop-character-test.false c.loop-character.invariant.0 ∙ c.loop-character.invariant.1
