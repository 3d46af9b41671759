use Rattle.sheet.proofs.Names.{refl, rules, sym, ◌∙◌, arith, and_mask, stream_in, first_selector, wrong-selector, block-named, block-unknown}
use Rattle.sheet.proofs.WalkSteps.{stream-holds}
use Rattle.sheet.proofs.walk.take_template.Goals as goal

pub code-block-requires : goal.code-block-requires
code-block-requires c = record { whole = c.requires; inside = stream-holds c.requires (omega arith); some = search rules; most = search rules }

pub returns-then-block-ne0 : goal.returns-then-block-ne0
returns-then-block-ne0 c =
    refl
    ∙ wrong-selector (stream_in c.args.sizes c.args.image.now) first_selector (stream-holds c.requires (omega arith)) c.code-block.ensures (λ e. c.if-block-ne0.true (and_mask c.code-block.result 2 ∙ e))

pub returns-in-Some : goal.returns-in-Some
returns-in-Some c =
    block-named (stream_in c.args.sizes c.args.image.now) first_selector (stream-holds c.requires (omega arith)) c.code-block.ensures (sym (and_mask c.code-block.result 2) ∙ c.if-block-ne0.false) _
    c.template_of.ensures c.in-Some.is

pub returns-in-None : goal.returns-in-None
returns-in-None c =
    refl
    ∙ block-unknown (stream_in c.args.sizes c.args.image.now) first_selector (stream-holds c.requires (omega arith)) c.code-block.ensures (sym (and_mask c.code-block.result 2) ∙ c.if-block-ne0.false) _
    c.template_of.ensures c.in-None.is
