use mir.Syntax.{w64}
use Rattle.codes.proofs.Names.{rules, sfits_of, binary32, of_bits-to_bits, to_z-of_z}
use Rattle.codes.proofs.FloatLaws.{nan_is, not-nan}
use Rattle.codes.proofs.SingleValues.{not-finite-far, far-single, near-single}
use Rattle.codes.proofs.singles.nanovolts.Goals as goal

pub returns-then-x : goal.returns-then-x
returns-then-x c = rw (not-finite-far c.args.x (nan_is c.args.x c.if-x.true))

pub float_to_bits-bits : goal.float_to_bits-bits
float_to_bits-bits c = not-nan c.args.x c.if-x.false

pub returns-then-bits-gt1073741824 : goal.returns-then-bits-gt1073741824
returns-then-bits-gt1073741824 c = rw (far-single c.args.x (search rules) c.if-bits-gt1073741824.true)

pub returns : goal.returns
returns c =
    let x = c.args.x in
    rw (near-single x (search rules) c.if-bits-gt1073741824.false, to_z-of_z {w = w64} (sfits_of c.from_bits.type_inv), c.from_bits.ensures, of_bits-to_bits binary32 x (search rules))
