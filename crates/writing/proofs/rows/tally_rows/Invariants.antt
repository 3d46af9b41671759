use Rattle.writing.proofs.Names.{◌≡◌, tally_to}
use Rattle.writing.proofs.rows.tally_rows.Given as goal

abbrev pub invariant-loop-r : goal.invariant-loop-r
invariant-loop-r l = l.tally ≡ tally_to l.present l.wanted l.check l.r
