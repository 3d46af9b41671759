use mir.Syntax.{w64}
use Rattle.codes.proofs.Names.{sfits_of, ◌∙◌, arith, to_z-of_z}
use Rattle.codes.proofs.SingleRounding.{den_pos, zero_bits, plus-bits, minus-bits}
use Rattle.codes.proofs.singles.from_bits.Goals as goal

pub returns-then-size-lt805306368 : goal.returns-then-size-lt805306368
returns-then-size-lt805306368 c = zero_bits c.args.bits c.if-size-lt805306368.true

pub nearest-requires : goal.nearest-requires
nearest-requires c = (den_pos _ c.if-size-lt805306368.false, omega arith)

pub returns-then-bits-lt2147483648 : goal.returns-then-bits-lt2147483648
returns-then-bits-lt2147483648 c = to_z-of_z {w = w64} (sfits_of c.nearest.type_inv) ∙ c.nearest.ensures ∙ plus-bits c.args.bits c.if-size-lt805306368.false c.requires c.if-bits-lt2147483648.true

pub nearest-requires-2 : goal.nearest-requires-2
nearest-requires-2 c = (den_pos _ c.if-size-lt805306368.false, omega arith)

pub returns : goal.returns
returns c = to_z-of_z {w = w64} (sfits_of c.nearest-2.type_inv) ∙ c.nearest-2.ensures ∙ minus-bits c.args.bits c.if-size-lt805306368.false c.requires c.if-bits-lt2147483648.false
