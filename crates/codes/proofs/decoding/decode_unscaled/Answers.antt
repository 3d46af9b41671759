use Rattle.codes.proofs.Names.{rules, subst, w64, to_z-of_z, decode, Unscaled}
use Rattle.codes.proofs.SoundLaws.{sound-rule}
use Rattle.codes.proofs.CodeLaws.{below-2^32, product}
use Rattle.codes.proofs.decoding.decode_unscaled.Goals as goal

pub returns-then-is_missing : goal.returns-then-is_missing
unfolding decode
returns-then-is_missing c = rw (← c.is_missing.ensures, c.if-is_missing.true)

pub plain-requires : goal.plain-requires
unfolding decode
plain-requires c = let p = c.requires in below-2^32 p.0.most p.2

pub stepped-requires : goal.stepped-requires
unfolding decode
stepped-requires c = let p = c.requires in let sound = sound-rule p.0 c.in-Stepped.is in rw (to_z-of_z {w = w64} {z = c.in-Stepped.start} (search rules)) (record { le_width = (p.0.some, p.0.most); start_bound = (sound.2, product _ _ p.2 sound.3) })

pub single-requires : goal.single-requires
unfolding decode
single-requires c = let p = c.requires in below-2^32 p.0.most p.2

pub returns-in-Plain : goal.returns-in-Plain
unfolding decode
returns-in-Plain c = rw (← c.is_missing.ensures, c.if-is_missing.false, c.in-Plain.is) c.plain.ensures

pub returns-in-Stepped : goal.returns-in-Stepped
unfolding decode
returns-in-Stepped c = rw (← c.is_missing.ensures, c.if-is_missing.false, c.in-Stepped.is) (rw (to_z-of_z {w = w64} {z = c.in-Stepped.start} (search rules)) at c.stepped.ensures)

pub returns-in-Geometric : goal.returns-in-Geometric
unfolding decode
returns-in-Geometric c = absurd (subst Unscaled c.in-Geometric.is c.requires.1)

pub returns-in-Single : goal.returns-in-Single
unfolding decode
returns-in-Single c = rw (← c.is_missing.ensures, c.if-is_missing.false, c.in-Single.is, sound-rule c.requires.0 c.in-Single.is) c.single.ensures
