-- The loop's invariant: the pages before `page` are sealed.
use Rattle.stream.proofs.SealAll.{Sealed}
use Rattle.stream.proofs.rewriting.seal_pages.Given as goal

abbrev pub invariant-loop-page : goal.invariant-loop-page
invariant-loop-page l = Sealed l.sizes l.initial.image l.page l.image
