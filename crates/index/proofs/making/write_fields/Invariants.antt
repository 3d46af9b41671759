-- The loop's invariant: the entries before a field are written. The
-- first block comes before the bits of the template's own fields.
use Rattle.index.proofs.Names.{◌-◌, layout_at}
use Rattle.index.proofs.OwnEntries.{JudgedUpTo}
use Rattle.index.proofs.making.write_fields.Given as goal

abbrev pub invariant-loop-i : goal.invariant-loop-i
invariant-loop-i g l = JudgedUpTo (layout_at g.F.OwnFields.template (g.F.OwnFields.precision l.fields)) l.initial.buffer l.i l.cursor l.buffer

abbrev pub decreases-loop-i : goal.decreases-loop-i
decreases-loop-i g l = l.last - l.i
