use Rattle.codes.proofs.Names.{ap, ◌∙◌, sym, refl, arith, pos, w64, to_z_pos, true≢false}
use Rattle.codes.proofs.tables.scale_value.Goals as goal

pub found-requires : goal.found-requires
found-requires c = ((λ e. c.requires), λ e. absurd (true≢false (sym e)))

pub overflow_cast-result : goal.overflow_cast-result
overflow_cast-result c = record { sfits = omega (arith, c.found.ensures.1 refl) }

pub returns : goal.returns
returns c = to_z_pos w64 (omega (arith, c.found.ensures.1 refl)) ∙ ap pos c.found.ensures.0
