use Rattle.templates.proofs.CalibrationLaws.{domain-other}
use Rattle.templates.proofs.calibration.domain_of.Goals as goal

pub returns : goal.returns
returns c = domain-other _ c.if-code-eq0.false
