use Rattle.build.proofs.Names.{◌≡◌, ◌≤◌, pack}
use Rattle.build.proofs.TextTurns.{chars}
use Rattle.build.proofs.write.pack_characters.Given as goal

abbrev pub invariant-loop-j : goal.invariant-loop-j
invariant-loop-j l = (l.i ≤ l.j) × (l.j ≤ l.end) × (l.code ≡ pack (chars l.text l.j l.end))

abbrev pub decreases-loop-j : goal.decreases-loop-j
decreases-loop-j l = l.j
