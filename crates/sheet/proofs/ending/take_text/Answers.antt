use Rattle.refusal.proofs.Outcomes.{exits}
use Rattle.sheet.proofs.Names.{step_said, ap, rules, refl, sym, ◌∙◌, characters_of, stream_in}
use Rattle.sheet.proofs.Steps.{count-start, count-done, got, past}
use Rattle.sheet.proofs.TextSteps.{text-past, text-zero, text-next}
use Rattle.sheet.proofs.ending.take_text.Goals as goal

pub loop-left-init : goal.loop-left-init
loop-left-init c = let a = c.args in (search rules, count-start (stream_in a.sizes a.image.now) characters_of a.most a.start.at)

pub returns-in_err-character : goal.returns-in_err-character
returns-in_err-character c =
    let a = c.args in
    let e = past a.sizes a.image.now _ 7 _ c.take.ensures c.in_err-character.was in
    ap step_said (exits _ c.from_residual.ensures) ∙ (sym (text-past (stream_in a.sizes a.image.now) _ _ _ c.loop-left-test.true c.loop-left.invariant.0 e) ∙ c.loop-left.invariant.1)

pub returns-then-character-eq0 : goal.returns-then-character-eq0
returns-then-character-eq0 c =
    let a = c.args in
    let e = got a.sizes a.image.now _ 7 _ c.take.ensures c.in_ok-character.was in
    sym (text-zero (stream_in a.sizes a.image.now) _ _ _ c.loop-left-test.true c.loop-left.invariant.0 e c.if-character-eq0.true) ∙ c.loop-left.invariant.1

pub loop-left-preserved : goal.loop-left-preserved
loop-left-preserved c =
    let a = c.args in
    let e = got a.sizes a.image.now _ 7 _ c.take.ensures c.in_ok-character.was in
    (search rules, sym (text-next (stream_in a.sizes a.image.now) _ _ _ c.loop-left-test.true c.loop-left.invariant.0 e c.if-character-eq0.false) ∙ c.loop-left.invariant.1)

pub returns : goal.returns
unfolding characters_of
returns c =
    let a = c.args in
    sym (count-done (stream_in a.sizes a.image.now) characters_of a.most _ _ refl c.loop-left-test.false) ∙ c.loop-left.invariant.1
