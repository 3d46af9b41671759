-- The loop's invariant: the steps so far are a run. The measure is the most steps that are left.
use Rattle.tray_run.proofs.Names.{◌≡◌, length, Ran, steps_left}
use Rattle.tray_run.proofs.report_through.Given as goal

abbrev pub invariant-loop-out : goal.invariant-loop-out
invariant-loop-out g l = Ran l.state × (length l.buffer ≡ length l.initial.buffer)

abbrev pub decreases-loop-out : goal.decreases-loop-out
decreases-loop-out g l = steps_left l.state.next l.state.tray
