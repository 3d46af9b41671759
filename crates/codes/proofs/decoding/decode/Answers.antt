use Rattle.codes.proofs.Names.{decode}
use Rattle.codes.proofs.SoundLaws.{sound-rule}
use Rattle.codes.proofs.decoding.decode.Goals as goal

pub decode_unscaled-requires : goal.decode_unscaled-requires
unfolding decode
decode_unscaled-requires c = let p = c.requires in (p.0, rw c.in-Plain.is tt, p.1)

pub decode_unscaled-requires-in-Stepped : goal.decode_unscaled-requires-in-Stepped
unfolding decode
decode_unscaled-requires-in-Stepped c = let p = c.requires in (p.0, rw c.in-Stepped.is tt, p.1)

pub returns-then-is_missing : goal.returns-then-is_missing
unfolding decode
returns-then-is_missing c = rw (← c.is_missing.ensures, c.if-is_missing.true)

pub geometric-requires : goal.geometric-requires
unfolding decode
geometric-requires c = let p = c.requires in record { le_width = (p.0.some, p.0.most); width_value = sound-rule p.0 c.in-Geometric.is }

pub decode_unscaled-requires-in-Single : goal.decode_unscaled-requires-in-Single
unfolding decode
decode_unscaled-requires-in-Single c = let p = c.requires in (p.0, rw c.in-Single.is tt, p.1)

pub returns-in-Plain : goal.returns-in-Plain
unfolding decode
returns-in-Plain c = c.decode_unscaled.ensures

pub returns-in-Stepped : goal.returns-in-Stepped
unfolding decode
returns-in-Stepped c = c.decode_unscaled-in-Stepped.ensures

pub returns-else-is_missing : goal.returns-else-is_missing
unfolding decode
returns-else-is_missing c = rw (← c.is_missing.ensures, c.if-is_missing.false, c.in-Geometric.is) c.geometric.ensures

pub returns-in-Single : goal.returns-in-Single
unfolding decode
returns-in-Single c = c.decode_unscaled-in-Single.ensures
