use Rattle.build.proofs.Names.{◌≡◌, map, ◌-◌, ◌≤◌, length, drop, piece}
use Rattle.build.proofs.Filling.{Filling}
use Rattle.build.proofs.write.lay_text.Given as goal

abbrev pub invariant-loop-i : goal.invariant-loop-i
invariant-loop-i l = (l.i ≤ length l.text) × ((length l.image ≡ length l.initial.image) × Filling l.sizes l.initial.image l.initial.cursor (map (piece 7) l.text) l.image l.cursor (drop l.i (map (piece 7) l.text)))

abbrev pub decreases-loop-i : goal.decreases-loop-i
decreases-loop-i l = length l.text - l.i
