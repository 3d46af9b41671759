-- The loop's invariant: the image is as the alterations before an index leave it. The measure is what is left of them.
use Rattle.promises.proofs.Names.{◌≡◌, ◌-◌, ◌≤◌, length}
use Rattle.promises.proofs.LentLaws.{Altered}
use Rattle.promises.proofs.certificate.points_to_reading.Given as goal

abbrev pub invariant-loop-i : goal.invariant-loop-i
invariant-loop-i l = (l.i ≤ length l.fields) × (length l.image ≡ length l.initial.image) × Altered l.kinds l.levels l.fields l.tags l.wholes l.singles l.presents l.news l.initial.image l.image l.i

abbrev pub decreases-loop-i : goal.decreases-loop-i
decreases-loop-i l = length l.fields - l.i
