-- Each rule's own test, without the value.
use Rattle.codes.proofs.Names.{◌∙◌}
use Rattle.codes.proofs.SoundLaws.{sound-rule}
use Rattle.codes.proofs.DecodeLaws.{left_out, single-by-rule}
use Rattle.codes.proofs.judging.by_rule.Goals as goal

pub returns-in-Plain : goal.returns-in-Plain
returns-in-Plain c = rw (c.in-Plain.is, left_out) c.in_table.ensures

pub returns-in-Stepped : goal.returns-in-Stepped
returns-in-Stepped c = rw (c.in-Stepped.is, left_out) c.up_to_top.ensures

pub returns-in-Geometric : goal.returns-in-Geometric
returns-in-Geometric c = rw (c.in-Geometric.is, left_out) c.up_to_top-in-Geometric.ensures

pub returns-in-Single : goal.returns-in-Single
returns-in-Single c = let e = c.in-Single.is in c.finite_bits.ensures ∙ single-by-rule c.args.row _ _ e (sound-rule c.requires e)
