use Rattle.correction.proofs.Names.{◌≡◌, ◌-◌, ◌≤◌, take, drop, nested}
use Rattle.correction.proofs.curve.correction.Given as goal

abbrev pub invariant-loop-done : goal.invariant-loop-done
invariant-loop-done l = (1 ≤ l.done) × (l.sum ≡ nested l.x (drop (l.count - l.done) (take l.count l.coefficients)))

abbrev pub decreases-loop-done : goal.decreases-loop-done
decreases-loop-done l = l.count - l.done
