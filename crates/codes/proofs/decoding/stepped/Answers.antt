use mir.Syntax.{w64}
use Rattle.codes.proofs.Names.{◌∙◌, ap, ℤ, to_z-of_z, Ok, Whole}
use Rattle.codes.proofs.DecodeLaws.{turned, stood}
use Rattle.codes.proofs.decoding.stepped.Goals as goal

pub returns-in-Err : goal.returns-in-Err
returns-in-Err c = turned _ c.up_to_top.ensures c.in-Err.is

pub returns : goal.returns
returns c = ap (λ (z : ℤ). Ok (Whole z)) (to_z-of_z {w = w64} (record { sfits = c.step_value.type_inv }) ∙ (c.step_value.ensures ∙ rw (to_z-of_z c.ranges.start))) ∙ stood _ c.up_to_top.ensures c.in_default.is
