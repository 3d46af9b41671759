use Rattle.writing.proofs.Names.{arith, lt-ltb, le-ltb, step}
use Rattle.writing.proofs.next.Goals as goal

pub returns-then-sizes-lt2 : goal.returns-then-sizes-lt2
unfolding step
returns-then-sizes-lt2 c = rw (lt-ltb c.args.sizes.pages 2 c.if-sizes-lt2.true) c.one_page.ensures

pub returns : goal.returns
unfolding step
returns c = rw (le-ltb c.args.sizes.pages 2 (omega (arith, c.if-sizes-lt2.false))) c.several_pages.ensures
