-- The loop's invariant: all pages are blank exactly if those left are.
use Rattle.memory.proofs.Names.{◌≡◌, ◌-◌, blank_from}
use Rattle.memory.proofs.pages.all_blank.Given as goal

abbrev pub invariant-loop-page : goal.invariant-loop-page
invariant-loop-page l = blank_from l.sizes l.image (l.page-end - l.page) l.page ≡ blank_from l.sizes l.image l.page-end 0
