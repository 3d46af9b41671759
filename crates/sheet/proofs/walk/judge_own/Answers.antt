use Rattle.sheet.proofs.Names.{◌≡◌, sym, subst, stream_in, own_judged, layout_at}
use Rattle.sheet.proofs.walk.judge_own.Goals as goal

pub returns-in-Bridge : goal.returns-in-Bridge
returns-in-Bridge c =
    let a = c.args in
    subst (λ t. c.judge_bridge.result ≡ own_judged (stream_in a.sizes a.image.now) (layout_at t a.layout.precision))
    (sym c.in-Bridge.is) c.judge_bridge.ensures

pub returns-in-Resistance : goal.returns-in-Resistance
returns-in-Resistance c =
    let a = c.args in
    subst (λ t. c.judge_resistance.result ≡ own_judged (stream_in a.sizes a.image.now) (layout_at t a.layout.precision))
    (sym c.in-Resistance.is) c.judge_resistance.ensures
