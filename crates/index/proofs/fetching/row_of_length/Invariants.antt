-- The loop's invariant: the choices left give the answer of all choices.
use Rattle.index.proofs.Names.{◌≡◌, ◌-◌, ◌≤◌, line_of, row_of_length}
use Rattle.index.proofs.FetchLaws.{length_from}
use Rattle.index.proofs.fetching.row_of_length.Given as goal

abbrev pub invariant-loop-precision : goal.invariant-loop-precision
invariant-loop-precision l = (l.precision ≤ 4) × (length_from (line_of l.template l.field) l.entry l.precision ≡ row_of_length (line_of l.template l.field) l.entry)

abbrev pub decreases-loop-precision : goal.decreases-loop-precision
decreases-loop-precision l = 4 - l.precision
