use Rattle.listing.proofs.Names.{◌%◌, ◌-◌, ◌/◌, arith}
use Rattle.listing.proofs.ShownLaws.{subnormal, normal}
use Rattle.listing.proofs.singles.scaled_of.Goals as goal

pub returns-then-exponent-eq0 : goal.returns-then-exponent-eq0
returns-then-exponent-eq0 c = record { is = subnormal c.args.bits c.if-exponent-eq0.true; digits = omega arith; power = omega arith }

pub returns : goal.returns
returns c = record { is = normal c.args.bits (c.args.bits % 2_147_483_648 / 8_388_608 - 1) (omega arith) (omega arith); digits = omega arith; power = omega arith }
