-- A stream of at least one page has the number's bits.
use Rattle.index.proofs.Names.{ltb-true, ap, ◌∙◌, arith, stream_bits, taken_as, template_at}
use Rattle.index.proofs.FetchLaws.{took, missed}
use Rattle.index.proofs.fetching.template_at.Goals as goal

pub returns-in_default : goal.returns-in_default
returns-in_default c = absurd (omega (arith, ltb-true (stream_bits c.args.sizes) 74 (missed c.args.sizes c.args.image.now 66 8 _ c.take.ensures c.in_default.is)))

pub returns : goal.returns
unfolding template_at
returns c = c.taken_as.ensures ∙ ap taken_as (took c.args.sizes c.args.image.now 66 8 _ c.take.ensures c.in-Ok.is).1
