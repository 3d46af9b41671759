use Rattle.dartelm.proofs.Padding.{page-short, page-told}
use Rattle.dartelm.proofs.dartelm_page.Goals as goal

pub copy-count-requires : goal.copy-count-requires
copy-count-requires c =
    let a = c.args in
    rw c.page_bytes-part.ensures (page-short a.kind a.image.now _)

pub returns : goal.returns
returns c =
    let a = c.args in
    page-told a.kind a.image.now a.page _ _ _ c.page_bytes-part.ensures c.copy-count.ensures.0 c.copy-count.ensures.1
