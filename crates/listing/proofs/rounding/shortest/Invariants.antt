-- The loop's invariant: n × 10^up is unchanged.
use Rattle.listing.proofs.Names.{◌≡◌, ◌+◌, ◌*◌, ◌^◌, ◌≤◌}
use Rattle.listing.proofs.rounding.shortest.Given as goal

abbrev pub invariant-loop-n : goal.invariant-loop-n
invariant-loop-n l = (l.n ≤ 10_000_000) × (l.n + l.up ≤ 10_001_000) × (l.n * 10 ^ l.up ≡ l.initial.n * 10 ^ l.initial.up)

abbrev pub decreases-loop-n : goal.decreases-loop-n
decreases-loop-n l = l.n
