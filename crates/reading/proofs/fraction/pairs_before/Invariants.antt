-- The loop's invariant: the pair before `low` is below p, and the pair at `high` is not.
use Rattle.reading.proofs.Names.{ℕ, ◌-◌, ◌≤◌, Contents, points, Search, Opens, figure_in}
use Rattle.reading.proofs.fraction.pairs_before.Given as goal

abbrev pub invariant-loop-low : goal.invariant-loop-low
invariant-loop-low l = (l.low ≤ l.high) × (l.high ≤ l.sheet.summary.points) × ((kind : ℕ) (x : Contents) → Opens kind l.image l.sheet x → Search (figure_in l.domain) (points x) l.p l.low l.high)

abbrev pub decreases-loop-low : goal.decreases-loop-low
decreases-loop-low l = l.high - l.low
