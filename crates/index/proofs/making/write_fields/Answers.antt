use Rattle.index.proofs.Names.{arith, last-most, layout_at}
use Rattle.index.proofs.OwnEntries.{own-begun, own-ended, own-few, own-next}
use Rattle.index.proofs.making.write_fields.Goals as goal

pub loop-i-init : goal.loop-i-init
loop-i-init g c = own-begun (layout_at g.F.OwnFields.template (g.F.OwnFields.precision c.args.fields)) c.basic_fields-first.ensures c.requires.1

pub overflow_add-i : goal.overflow_add-i
overflow_add-i g c = omega (arith, c.last-last.ensures, last-most g.F.OwnFields.template)

pub row-row-requires : goal.row-row-requires
row-row-requires g c = omega (arith, c.last-last.ensures)

pub write_entry-cursor-requires : goal.write_entry-cursor-requires
write_entry-cursor-requires g c =
    let few = own-few (layout_at g.F.OwnFields.template (g.F.OwnFields.precision c.args.fields)) c.loop-i.invariant c.last-last.ensures c.loop-i-test.true c.row-row.ensures in
    (omega (arith, c.last-last.ensures), omega (arith, few))

pub loop-i-preserved : goal.loop-i-preserved
loop-i-preserved g c =
    own-next (layout_at g.F.OwnFields.template (g.F.OwnFields.precision c.args.fields)) c.loop-i.invariant c.last-last.ensures c.loop-i-test.true c.row-row.ensures
    (omega (arith, c.last-last.ensures, c.loop-i-test.true)) c.write_entry-cursor.ensures.1 c.write_entry-cursor.ensures.0

pub returns : goal.returns
returns g c = own-ended (layout_at g.F.OwnFields.template (g.F.OwnFields.precision c.args.fields)) c.loop-i.invariant c.last-last.ensures c.loop-i-test.false
