use Rattle.tray_run.proofs.Names.{arith}
use Rattle.tray_run.proofs.read_step.Goals as goal

pub returns : goal.returns
returns g c = record { received = c.read_full-received.result; few = omega (arith, c.read_buffer.ensures); steps = c.step.ensures }
