use Rattle.memory.proofs.Names.{arith}
use Rattle.memory.proofs.PageParts.{chip, part_none, part-past, part-page}
use Rattle.memory.proofs.pages.page_bytes.Goals as goal

pub returns-in_default : goal.returns-in_default
returns-in_default c =
    let a = c.args in
    let s = c.image_sizes in
    part_none a.kind a.image.now s.result s.ensures a.page _ c.in_default.is

pub overflow_mul-from : goal.overflow_mul-from
overflow_mul-from c =
    let a = c.args in
    let s = c.image_sizes in
    let h = chip a.kind a.image.now s.result s.ensures _ c.in-Ok.is in
    omega arith

pub overflow_add-from : goal.overflow_add-from
overflow_add-from c =
    let a = c.args in
    let s = c.image_sizes in
    let h = chip a.kind a.image.now s.result s.ensures _ c.in-Ok.is in
    omega arith

pub overflow_add-from-then-page-sizes : goal.overflow_add-from-then-page-sizes
overflow_add-from-then-page-sizes c =
    let a = c.args in
    let s = c.image_sizes in
    let h = chip a.kind a.image.now s.result s.ensures _ c.in-Ok.is in
    omega arith

pub overflow_add-result : goal.overflow_add-result
overflow_add-result c =
    let a = c.args in
    let s = c.image_sizes in
    let h = chip a.kind a.image.now s.result s.ensures _ c.in-Ok.is in
    omega arith

pub slice_bounds-result-end-then-page-sizes : goal.slice_bounds-result-end-then-page-sizes
slice_bounds-result-end-then-page-sizes c =
    let a = c.args in
    let s = c.image_sizes in
    let h = chip a.kind a.image.now s.result s.ensures _ c.in-Ok.is in
    omega arith

pub returns-then-page-sizes : goal.returns-then-page-sizes
returns-then-page-sizes c =
    let a = c.args in
    let s = c.image_sizes in
    part-page a.kind a.image.now s.result s.ensures a.page _ c.in-Ok.is c.if-page-sizes.true

pub returns : goal.returns
returns c =
    let a = c.args in
    let s = c.image_sizes in
    part-past a.kind a.image.now s.result s.ensures a.page _ c.in-Ok.is c.if-page-sizes.false
