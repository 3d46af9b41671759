use Rattle.dartelm.proofs.Names.{ap₂, Bool, Template}
use Rattle.dartelm.proofs.values.options_of.Goals as goal

pub returns : goal.returns
returns c =
    let a = c.args in
    ap₂ (λ (t : Template) (b : Bool). record { template = t; end_bit = b; domain = a.domain }) c.template_of.ensures c.is_yes.ensures
