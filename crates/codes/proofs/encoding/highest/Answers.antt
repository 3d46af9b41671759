use Rattle.codes.proofs.Names.{le_refl}
use Rattle.codes.proofs.EncodeLaws.{handed-on}
use Rattle.codes.proofs.encoding.highest.Goals as goal

pub returns-then-figure-greatest : goal.returns-then-figure-greatest
returns-then-figure-greatest c = rw c.requires.width_value (handed-on (record { sfits = c.greatest_value-greatest.type_inv }) c.greatest_value-greatest.ensures)

pub scale_value-requires : goal.scale_value-requires
scale_value-requires c = rw (c.top_code.ensures, c.requires.width_value) (le_refl _)

pub returns : goal.returns
returns c = handed-on (record { sfits = c.scale_value.type_inv }) (rw c.top_code.ensures at c.scale_value.ensures)
