-- The loop's invariant: one piece more than the separators passed.
use Rattle.console_words.proofs.Names.{◌≡◌, ◌+◌, ◌≤◌, eqb, take, count_by}
use Rattle.console_words.proofs.parts.piece_count.Given as goal

abbrev pub invariant-loop-b : goal.invariant-loop-b
invariant-loop-b l = (l.count ≤ l.b-index + 1) × (l.count ≡ count_by (λ b. eqb b l.separator) (take l.b-index l.line) + 1)
