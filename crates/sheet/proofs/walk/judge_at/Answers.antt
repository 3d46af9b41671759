use Rattle.sheet.proofs.Names.{ap, ◌∙◌, ℕ, arith, judge}
use Rattle.sheet.proofs.walk.judge_at.Goals as goal

pub code-requires : goal.code-requires
code-requires c =
    let p = c.requires in
    record { whole = p.0; inside = p.2; some = p.1.some; most = omega (arith, p.1.most) }

pub returns : goal.returns
returns c =
    let a = c.args in
    c.judge.ensures ∙ ap (λ (code : ℕ). judge a.row a.field.at code) c.code.ensures
