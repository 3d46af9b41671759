use Rattle.stream.proofs.Names.{arith}
use Rattle.stream.proofs.SealAll.{sealed-none, sealed-more, sealed-all}
use Rattle.stream.proofs.rewriting.seal_pages.Goals as goal

pub loop-page-init : goal.loop-page-init
loop-page-init c = sealed-none c.requires (λ i. omega (arith, c.type_inv.image i))

pub seal-requires : goal.seal-requires
seal-requires c =
    let whole = c.requires in
    (record { long = c.loop-page.invariant.whole; small = whole.small; paged = whole.paged; few = whole.few }, c.loop-page-test.true)

pub loop-page-preserved : goal.loop-page-preserved
loop-page-preserved c =
    let l = c.loop-page in
    rw c.seal.ensures (sealed-more c.args.sizes l.page c.loop-page-test.true l.invariant)

pub returns : goal.returns
returns c = sealed-all c.args.sizes c.loop-page.page c.loop-page-test.false c.loop-page.invariant
