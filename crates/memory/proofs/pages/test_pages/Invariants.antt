-- The loop's invariant: the test of the pages left gives the answer of the whole test.
use Rattle.memory.proofs.Names.{◌≡◌, ◌-◌, sums_from}
use Rattle.memory.proofs.pages.test_pages.Given as goal

abbrev pub invariant-loop-page : goal.invariant-loop-page
invariant-loop-page l = sums_from l.sizes l.image (l.page-end - l.page) l.page ≡ sums_from l.sizes l.image l.page-end 0
