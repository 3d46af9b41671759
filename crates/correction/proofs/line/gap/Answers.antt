use Rattle.correction.proofs.Names.{◌≡◌, ◌+◌, ◌-◌, ◌≤◌, pos, ◌-ℤ◌}
use Rattle.correction.proofs.Beforehand.{told-up, told-dn, gap-made}
use Rattle.correction.proofs.line.gap.Goals as goal
use Rattle.correction.proofs.line.gap.Goals.{After-plus-2}

made : (c : After-plus-2) → let r = c.plus.result + c.minus.result in let l = c.minus-2.result + c.plus-2.result in let a = c.args in (l ≤ r) × (pos (r - l) ≡ a.a -ℤ a.b)
made c =
    gap-made c.args.a c.args.b c.requires
    (told-up c.ranges.a c.plus.ensures)
    (told-dn c.ranges.b c.minus.ensures)
    (told-dn c.ranges.a c.minus-2.ensures)
    (told-up c.ranges.b c.plus-2.ensures)

pub overflow_sub-result : goal.overflow_sub-result
overflow_sub-result c = (made c).0

pub returns : goal.returns
returns c = (made c).1
