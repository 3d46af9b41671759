use Rattle.refusal.proofs.Outcomes.{exits}
-- After the fields that were judged only the last may pass the end.
use Rattle.sheet.proofs.Names.{refl, rules, ◌≡◌, sym, ap, ◌∙◌, ℕ, arith, field_at, stream_number, span-listed, field_place, choice-place, layout_at}
use Rattle.sheet.proofs.WalkSteps.{stream-holds, own-turned, own-past, own-stands}
use Rattle.sheet.proofs.walk.take_own.Goals as goal
use Rattle.sheet.proofs.walk.take_own.Goals.{After-code-precision}

precise : (c : After-code-precision) → let a = c.args in
    c.code-precision.result ≡ field_at (stream_number a.sizes a.image.now) (field_place (layout_at a.template c.code-precision.result) 9) 2
precise c =
    let a = c.args in
    c.code-precision.ensures ∙ ap (λ (n : ℕ). field_at (stream_number a.sizes a.image.now) n 2) (sym (choice-place a.template c.code-precision.result))

pub code-precision-requires : goal.code-precision-requires
code-precision-requires c = let w = c.requires.whole in record { whole = w; inside = stream-holds w (omega arith); some = search rules; most = search rules }

pub returns-in_err-judge_own : goal.returns-in_err-judge_own
returns-in_err-judge_own c =
    rw (exits _ c.from_residual.ensures) ((own-turned c.requires (layout_at c.args.template c.code-precision.result) (precise (goal.at.returns-in_err-judge_own c).After-code-precision) _ c.judge_own.ensures c.in_err-judge_own.was, tt))

pub locate-last-requires : goal.locate-last-requires
locate-last-requires c =
    let t = c.args.template in
    (omega (arith, c.last_field.ensures, span-listed t {f = 1} (omega arith)), omega (arith, c.last_field.ensures))

pub returns-then-image-sizes : goal.returns-then-image-sizes
returns-then-image-sizes c =
    let layout = layout_at c.args.template c.code-precision.result in (
      refl
          ∙ own-past c.requires layout (precise (goal.at.returns-then-image-sizes c).After-code-precision) _ c.judge_own.ensures c.in_ok-judge_own.was
          (c.locate-last.ensures ∙ ap (field_place layout) c.last_field.ensures) (omega (arith, c.fields_end-end.ensures, c.if-image-sizes.true, c.requires.whole.long)),
      tt,
    )

pub returns : goal.returns
returns c = (
  own-stands c.requires (layout_at c.args.template c.code-precision.result) (precise (goal.at.returns c).After-code-precision) _ c.judge_own.ensures c.in_ok-judge_own.was
      c.fields_end-end.ensures (omega (arith, c.if-image-sizes.false, c.requires.whole.long)),
  c.fields_end-end.ensures,
)
