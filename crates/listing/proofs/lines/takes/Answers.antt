use Rattle.listing.proofs.Names.{sym}
use Rattle.listing.proofs.ShownLaws.{other_row}
use Rattle.listing.proofs.lines.takes.Goals as goal
use Rattle.listing.proofs.lines.takes.Goals.{in-TooManyPoints, in_default-matches}

pub returns : goal.returns
returns c =
    elim c.match-matches.branch [
      | in-TooManyPoints w ↦ rw (w.matches-is, c.in-Err.is, w.in-TooManyPoints.is)
      | in_default-matches w ↦ rw (w.matches-is, c.in-Err.is) (sym (other_row c.in-Err.r w.in_default-matches.not-TooManyPoints))
    ]
