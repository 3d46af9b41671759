-- The slice holds the digits of m, then times 2s, then times 5s.
use Rattle.listing.proofs.Names.{arith}
use Rattle.listing.proofs.RoundLaws.{digits_of}
use Rattle.listing.proofs.rounding.decimal_of.Goals as goal

pub returns : goal.returns
returns c = let e = digits_of _ _ _ _ c.args.m c.args.p _ _ c.requires.0 c.requires.1 c.requires.2 c.less.ensures c.less-2.ensures c.scale.ensures c.raise.ensures c.raise-2.ensures in (rw e at c.round.ensures.0, omega arith, omega (arith, c.raise-2.ensures.long, c.raise.ensures.long, c.scale.ensures.long))
