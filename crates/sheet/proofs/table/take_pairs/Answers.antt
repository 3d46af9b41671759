use Rattle.sheet.proofs.table.take_pairs.Goals as goal

pub returns-then-all_rise : goal.returns-then-all_rise
returns-then-all_rise c = rw c.over-pairs.ensures (c.all_rise.ensures c.if-all_rise.true)
