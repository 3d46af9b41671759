use Rattle.tray_run.proofs.Names.{sym, ◌∙◌, rules, line-long, run_sound, ran-initial, ran_on, ran_out, stepped-fewer}
use Rattle.tray_run.proofs.report_through.Goals as goal

pub loop-out-init : goal.loop-out-init
loop-out-init g c = (ran-initial c.begin-state.ensures, search rules)

pub read_step-requires : goal.read_step-requires
read_step-requires g c = (run_sound c.loop-out.invariant.0.run, search rules)

pub write_line-state-requires : goal.write_line-state-requires
write_line-state-requires g c = line-long c.read_step.ensures.steps.line

pub loop-out-smaller : goal.loop-out-smaller
loop-out-smaller g c = rw c.write_line-state.ensures (stepped-fewer (run_sound c.loop-out.invariant.0.run) (sym c.has_next.ensures ∙ c.loop-out-test.true) c.read_step.ensures)

pub loop-out-preserved : goal.loop-out-preserved
loop-out-preserved g c = (rw c.write_line-state.ensures (ran_on c.loop-out.invariant.0 c.read_step.ensures), search rules)

pub returns : goal.returns
returns g c = ran_out c.loop-out.invariant.0 (sym c.has_next.ensures ∙ c.loop-out-test.false)
