-- The array is filled pair by pair; the measure is the number of pairs left.
use Rattle.commands.proofs.Names.{◌≤◌, ◌≡◌, length, replicate, term_at, zero_term}
use Rattle.commands.proofs.LineLaws.{Arraying}
use Rattle.commands.proofs.curves.terms_of.Given as goal

abbrev pub invariant-loop-at : goal.invariant-loop-at
invariant-loop-at l = Arraying (term_at l.list) (replicate 30 zero_term) l.count 0 l.terms l.at × (l.count ≤ 30) × (length l.terms ≡ 30)
