-- The single-bits of the electrical values are added to the others.
use Rattle.templates.proofs.Names.{◌≡◌, ℕ, ◌+◌, ◌*◌, Row, basic, template33, template32, lines_of}
use Rattle.templates.proofs.RowLaws.{bridge-sound, resistance-sound}
use Rattle.templates.proofs.lines.bits_before.Goals as goal

placed : {at ends : ℕ} (others k : ℕ) {row end : Row} → at ≡ others + k * end.width → row ≡ end → ends ≡ k * row.width → others + ends ≡ at
placed others k e r n = rw (e, n, r)

pub bridge_bits-requires : goal.bridge_bits-requires
unfolding basic template33 template32 lines_of
bridge_bits-requires c = (c.requires.0, rw c.in-Bridge.is at c.requires.1)

pub ends_before-requires : goal.ends_before-requires
unfolding basic template33 template32 lines_of
ends_before-requires c = rw c.bridge_end.ensures (bridge-sound c.args.layout.precision).most

pub resistance_bits-requires : goal.resistance_bits-requires
unfolding basic template33 template32 lines_of
resistance_bits-requires c = (c.requires.0, rw c.in-Resistance.is at c.requires.1)

pub ends_before-requires-in-Resistance : goal.ends_before-requires-in-Resistance
unfolding basic template33 template32 lines_of
ends_before-requires-in-Resistance c = rw c.resistance_end.ensures (resistance-sound c.args.layout.precision).most

pub returns-in-Bridge : goal.returns-in-Bridge
unfolding basic template33 template32 lines_of
returns-in-Bridge c = rw c.in-Bridge.is (placed _ _ (c.bridge_bits.ensures.0 _) c.bridge_end.ensures c.ends_before.ensures.0)

pub returns-in-Resistance : goal.returns-in-Resistance
unfolding basic template33 template32 lines_of
returns-in-Resistance c = rw c.in-Resistance.is (placed _ _ (c.resistance_bits.ensures.0 _) c.resistance_end.ensures c.ends_before-in-Resistance.ensures.0)
