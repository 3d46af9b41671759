use Rattle.build.proofs.Names.{arith, last-most}
use Rattle.build.proofs.Coding.{coded-fits, turn-room, turn-sound, turn-refused, turn-coded}
use Rattle.build.proofs.Handed.{handed}
use Rattle.build.proofs.plan.code_field.Goals as goal

pub packed-requires : goal.packed-requires
packed-requires c = rw c.requires.quick.wide (coded-fits (turn-sound c.requires.fields_coded.0 c.requires.fields_coded.1) c.code_at.ensures c.in_ok-code.was)

pub offset_bounds-codes-i : goal.offset_bounds-codes-i
offset_bounds-codes-i c = omega (arith, c.requires.fields_coded.1, last-most c.args.layout.template)

pub bounds-codes-i : goal.bounds-codes-i
bounds-codes-i c = turn-room c.requires.fields_coded.0 c.requires.fields_coded.1

pub overflow_add-i : goal.overflow_add-i
overflow_add-i c = omega (arith, c.requires.fields_coded.1, last-most c.args.layout.template)

pub returns-in_err-code : goal.returns-in_err-code
returns-in_err-code c = rw (handed c.from_residual.result c.from_residual.ensures) (turn-refused c.requires.fields_coded.0 c.requires.fields_coded.1 c.code_at.ensures c.in_err-code.was)

pub returns : goal.returns
returns c = turn-coded c.requires.fields_coded.0 c.requires.fields_coded.1 c.code_at.ensures _ c.in_ok-code.was (rw c.requires.quick.wide at c.packed.ensures) c.precision_behind.ensures
