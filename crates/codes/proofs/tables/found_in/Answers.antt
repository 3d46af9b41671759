use Rattle.codes.proofs.Names.{true≢false}
use Rattle.codes.proofs.tables.found_in.Goals as goal

pub stored_in-requires : goal.stored_in-requires
stored_in-requires c = let p = c.requires in (p.1, p.2 c.if-stores.true)

pub returns-then-stores : goal.returns-then-stores
returns-then-stores c = rw c.if-stores.true (c.stored_in.ensures, λ e. absurd (true≢false e))

pub value_in-requires : goal.value_in-requires
value_in-requires c = c.requires.0 c.if-stores.false

pub returns : goal.returns
returns c = rw c.if-stores.false (c.value_in.ensures.0, λ e. c.value_in.ensures.1)
