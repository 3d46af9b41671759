-- The loop's invariant holds for every layout whose points begin at the same bit.
use Rattle.index.proofs.Names.{◌≡◌, ◌+◌, ◌-◌, ◌*◌, ◌≤◌, length, Layout, last_field, pair_place, entry_bytes, laid, first_entries}
use Rattle.index.proofs.making.write_points.Given as goal

abbrev pub invariant-loop-i : goal.invariant-loop-i
invariant-loop-i l =
    (l.initial.i ≤ l.i) × (l.i ≤ l.count) × (length l.buffer ≡ length l.initial.buffer) × (l.cursor.at ≡ l.initial.cursor.at + 37 * (l.i - l.initial.i)) ×
    ((layout : Layout) → l.initial.i ≡ last_field layout.template → l.initial.cursor.at ≡ pair_place layout 0 → l.initial.buffer ≡ laid l.initial.buffer 0 (entry_bytes (first_entries layout (last_field layout.template))) →
    l.buffer ≡ laid l.initial.buffer 0 (entry_bytes (first_entries layout l.i)))

abbrev pub decreases-loop-i : goal.decreases-loop-i
decreases-loop-i l = l.count - l.i
