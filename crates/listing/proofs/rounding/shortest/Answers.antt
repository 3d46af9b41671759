use Rattle.listing.proofs.Names.{◌∙◌, arith}
use Rattle.listing.proofs.RoundLaws.{one_up}
use Rattle.listing.proofs.rounding.shortest.Goals as goal

pub returns-then-n-eq0 : goal.returns-then-n-eq0
returns-then-n-eq0 c = (c.loop-n.invariant.2, λ h. omega arith, omega arith, omega arith)

pub loop-n-preserved : goal.loop-n-preserved
loop-n-preserved c = (omega arith, omega arith, one_up _ _ c.loop-n-test.true ∙ c.loop-n.invariant.2)

pub returns : goal.returns
returns c = (c.loop-n.invariant.2, λ h. omega arith, omega arith, omega arith)
