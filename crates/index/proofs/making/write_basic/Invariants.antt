-- The loop's invariant: the first entries are written, the rest of
-- the buffer is unchanged, and the cursor counts the bits so far.
use Rattle.index.proofs.Names.{◌≡◌, ◌-◌, ◌≤◌, length, Layout, basic, lines_of, bits_before, entry_bytes, laid}
use Rattle.index.proofs.Names.{first_entries}
use Rattle.index.proofs.making.write_basic.Given as goal

abbrev pub invariant-loop-i : goal.invariant-loop-i
invariant-loop-i l =
    (l.i ≤ length basic) × (length l.buffer ≡ length l.initial.buffer) ×
    ((layout : Layout) → (l.cursor.at ≡ bits_before (lines_of layout.template) layout.precision l.i) × (l.buffer ≡ laid l.initial.buffer 0 (entry_bytes (first_entries layout l.i))))

abbrev pub decreases-loop-i : goal.decreases-loop-i
decreases-loop-i l = l.last - l.i
