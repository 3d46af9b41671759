use Rattle.codes.proofs.Names.{◌∙◌, ap, ltb-false, ltb, ℤ, Ok, top_code, Whole}
use Rattle.codes.proofs.EncodeLaws.{handed-on}
use Rattle.codes.proofs.DecodeLaws.{turned, stood, untouched}
use Rattle.codes.proofs.decoding.geometric.Goals as goal

pub returns-in-Err : goal.returns-in-Err
returns-in-Err c = turned _ c.up_to_top.ensures c.in-Err.is

pub scale_value-requires : goal.scale_value-requires
scale_value-requires c = let test = untouched _ (ltb (top_code c.args.width) c.args.code) c.up_to_top.ensures c.in_default.is in rw c.requires.width_value at (ltb-false (top_code c.args.width) c.args.code test)

pub returns : goal.returns
returns c = ap (λ (z : ℤ). Ok (Whole z)) (handed-on (record { sfits = c.scale_value.type_inv }) c.scale_value.ensures) ∙ stood _ c.up_to_top.ensures c.in_default.is
