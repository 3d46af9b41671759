-- The loop's invariant: the terms read and those left give all powers.
use Rattle.reading.proofs.Names.{◌≡◌, ◌+◌, ◌-◌, ◌*◌, ◌≤◌, stream_in, no_powers, taken, own_terms}
use Rattle.reading.proofs.physical_fraction.powers_of.Given as goal

abbrev pub invariant-loop-index : goal.invariant-loop-index
invariant-loop-index l =
    (l.powers.count ≤ 6)
    × (taken l.powers (own_terms (stream_in l.sizes l.image) (l.run.cursor.at + 39 * l.index) (l.run.terms - l.index)) ≡ taken no_powers (own_terms (stream_in l.sizes l.image) l.run.cursor.at l.run.terms))
