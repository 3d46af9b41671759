use Rattle.dartelm.proofs.Names.{map, ◌-◌, SplitTo}
use Rattle.dartelm.proofs.Names.{no_value, slot_of}
use Rattle.dartelm.proofs.values.split_values.Given as goal

abbrev pub invariant-loop-i : goal.invariant-loop-i
invariant-loop-i l = SplitTo (slot_of no_value) (map slot_of l.given.values) l.tags l.wholes l.singles l.i

abbrev pub decreases-loop-i : goal.decreases-loop-i
decreases-loop-i l = 21 - l.i
