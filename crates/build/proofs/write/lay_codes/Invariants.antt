use Rattle.build.proofs.Names.{◌≡◌, map, ◌≤◌, ◌<◌, length, slice, field_piece, unpacked}
use Rattle.build.proofs.Filling.{Gathering}
use Rattle.build.proofs.write.lay_codes.Given as goal

abbrev pub invariant-loop-i : goal.invariant-loop-i
invariant-loop-i l = ((l.i ≤ l.end) × (l.first < l.i → 1 ≤ l.width)) × ((length l.image ≡ length l.initial.image) × Gathering l.sizes l.initial.image l.initial.cursor (slice l.first l.end (map field_piece (unpacked l.codes))) l.image l.cursor l.width l.code (slice l.i l.end (map field_piece (unpacked l.codes))))
