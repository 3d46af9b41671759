use Rattle.tray_report.proofs.Names.{ap, Kind, state_of}
use Rattle.tray_report.proofs.steps.begin.Goals as goal

pub returns : goal.returns
returns c = ap (λ t. state_of t Kind) c.begin.ensures
