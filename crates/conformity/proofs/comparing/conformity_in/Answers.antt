use Rattle.refusal.proofs.Outcomes.{exits}
use Rattle.conformity.proofs.Names.{sym, ap, ◌∙◌, same_of, is_resistance, resistance-is}
use Rattle.conformity.proofs.Orders.{compares-none, compares-no-list}
use Rattle.conformity.proofs.comparing.conformity_in.Goals as goal

pub conformity_to-requires : goal.conformity_to-requires
conformity_to-requires c = (c.requires, ap is_resistance c.in-Bridge.is, sym (same_of c.in_ok-beforehand-in-Bridge.was c.distance.ensures))

pub returns-in-Resistance : goal.returns-in-Resistance
returns-in-Resistance c =
    λ kind x h.
    cc (compares-none kind c.args.image.now c.args.points.now h.accepted (resistance-is h ∙ ap is_resistance c.in-Resistance.is))

pub returns-in_err-beforehand-in-Bridge : goal.returns-in_err-beforehand-in-Bridge
returns-in_err-beforehand-in-Bridge c =
    λ kind x h.
    exits _ c.from_residual.ensures ∙ compares-no-list kind c.args.image.now c.args.points.now h.accepted (resistance-is h ∙ ap is_resistance c.in-Bridge.is)
    (sym (same_of c.in_err-beforehand-in-Bridge.was c.distance.ensures))

pub returns-in_ok-beforehand-in-Bridge : goal.returns-in_ok-beforehand-in-Bridge
returns-in_ok-beforehand-in-Bridge c = c.conformity_to.ensures
