use Rattle.dartelm.proofs.Names.{ℕ, ◌-◌, ◌≤◌, ◌≡◌, Contents, Opens, by_flags, no_value, found_fields}
use Rattle.dartelm.proofs.Filling.{filled}
use Rattle.dartelm.proofs.sheets.sheet_in.Given as goal

abbrev pub invariant-loop-at : goal.invariant-loop-at
invariant-loop-at l = (l.at ≤ l.count) × ((kind : ℕ) (x : Contents) → Opens kind l.image l.sheet x → l.values ≡ filled by_flags 21 no_value (found_fields x).values l.at)

abbrev pub decreases-loop-at : goal.decreases-loop-at
decreases-loop-at l = l.count - l.at
