-- The loop's invariant: the last segment read serves among those read.
use Rattle.reading.proofs.Names.{◌≡◌, List, ◌+◌, ◌*◌, ◌^◌, ◌≤◌, ◌<◌, length, FoundSegment, stream_in, CurveStands}
use Rattle.reading.proofs.Serving.{Walked}
use Rattle.reading.proofs.physical_fraction.serving.Given as goal

-- A segment takes at most 4,973 bits.
abbrev pub invariant-loop : goal.invariant-loop
invariant-loop l =
    (l.cursor.at + 4_973 ≤ l.initial.cursor.at + 4_973 * l.counter) × (l.terms < 2 ^ 7)
    × ((segments : List FoundSegment) → CurveStands (stream_in l.sizes l.image) l.initial.cursor.at segments → l.end ≡ length segments → Walked l.p (stream_in l.sizes l.image) segments l.cursor.at l.terms l.counter)
