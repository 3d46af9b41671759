use Rattle.layout.proofs.Names.{arith}
use Rattle.layout.proofs.PlaceSteps.{table-most, curve-most}
use Rattle.layout.proofs.locating.locate_character.Goals as goal

pub overflow_add-ending : goal.overflow_add-ending
overflow_add-ending c = omega (arith, table-most c.args.points, c.table_bits.ensures)

pub overflow_add-ending-2 : goal.overflow_add-ending-2
overflow_add-ending-2 c = let a = c.args in omega (arith, table-most a.points, curve-most a.segments a.terms, c.table_bits.ensures, c.curve_bits.ensures)

pub overflow_add-result : goal.overflow_add-result
overflow_add-result c = let a = c.args in omega (arith, table-most a.points, curve-most a.segments a.terms, c.table_bits.ensures, c.curve_bits.ensures)

pub overflow_add-result-2 : goal.overflow_add-result-2
overflow_add-result-2 c = let a = c.args in omega (arith, table-most a.points, curve-most a.segments a.terms, c.table_bits.ensures, c.curve_bits.ensures)

pub overflow_add-result-3 : goal.overflow_add-result-3
overflow_add-result-3 c = let a = c.args in omega (arith, table-most a.points, curve-most a.segments a.terms, c.table_bits.ensures, c.curve_bits.ensures)

pub returns : goal.returns
returns c = omega (arith, c.table_bits.ensures, c.curve_bits.ensures)
