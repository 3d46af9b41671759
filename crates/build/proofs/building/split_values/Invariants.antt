use Rattle.build.proofs.Names.{pos, Whole, slot}
use Rattle.build.proofs.Splitting.{SplitTo}
use Rattle.build.proofs.building.split_values.Given as goal

abbrev pub invariant-loop-i : goal.invariant-loop-i
invariant-loop-i l = SplitTo (slot (Whole (pos 0))) l.fn.slots l.tags l.wholes l.singles l.i
