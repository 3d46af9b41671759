use Rattle.build.proofs.Names.{refl, ◌≤◌, arith, length, by_curve}
use Rattle.templates.specs.declared.Level.TheVariants.{Owner}
use Rattle.build.proofs.Coding.{packed-long}
use Rattle.build.proofs.Listing.{part-long, part-fit, part-back}
use Rattle.build.proofs.BuiltIn.{sheet-front, sheet-behind, sheet-done}
use Rattle.build.proofs.Handed.{handed}
use Rattle.build.proofs.building.plan_curve_sheet.Goals as goal
use Rattle.build.proofs.building.plan_curve_sheet.Goals.{In_ok-front}

-- The part from the fields' end on is inside the list.
inside : (c : In_ok-front) → c.in_ok-front.front.count ≤ length c.plan_front.new.codes
inside c =
    let f = c.plan_front.ensures Owner in
    omega (arith, (f.count _ c.in_ok-front.was).1, packed-long c.plan_front.new.codes f.fit, c.requires.in_bounds)

pub offset_bounds-codes-at : goal.offset_bounds-codes-at
offset_bounds-codes-at c = omega (arith, ((c.plan_front.ensures Owner).count _ c.in_ok-front.was).1)

pub slice_bounds-plan_curve-count : goal.slice_bounds-plan_curve-count
slice_bounds-plan_curve-count c = omega (arith, inside c)

pub slice_bounds-plan_curve-start : goal.slice_bounds-plan_curve-start
slice_bounds-plan_curve-start c = omega (arith, inside c)

pub plan_curve-requires : goal.plan_curve-requires
plan_curve-requires c =
    let f = c.plan_front.ensures Owner in
    let codes = c.plan_front.new.codes in
    let at = c.in_ok-front.front.count in
    let most = (f.count _ c.in_ok-front.was).1 in
    let long = packed-long codes f.fit in
    (omega (arith, part-long codes at, most, long, c.requires.in_bounds), part-fit codes at f.fit (omega (arith, most, c.requires.in_bounds)))

pub both_listed-requires : goal.both_listed-requires
both_listed-requires c =
    let f = c.plan_front.ensures Owner in
    let codes = c.plan_front.new.codes in
    let front = f.count _ c.in_ok-front.was in
    let block = c.plan_curve.ensures.count _ c.in_ok-block.was in
    (omega (arith, front.1), omega (arith, block.0, part-long codes c.in_ok-front.front.count, packed-long codes f.fit, c.requires.lent_lengths.2), front.3, block.2)

pub returns-in_err-front : goal.returns-in_err-front
returns-in_err-front c =
    let a = c.args in
    rw (handed c.from_residual.result c.from_residual.ensures) (sheet-front a.options a.values.tags.now a.values.wholes.now a.values.singles.now a.text.now (by_curve a.curve) refl c.plan_front.new.codes c.plan_front.ensures c.in_err-front.was)

pub returns-in_err-block : goal.returns-in_err-block
returns-in_err-block c =
    let a = c.args in
    rw (handed c.from_residual-in_err-block.result c.from_residual-in_err-block.ensures) (sheet-behind a.options a.values.tags.now a.values.wholes.now a.values.singles.now a.text.now (by_curve a.curve) refl c.plan_front.new.codes c.plan_front.ensures c.in_ok-front.was c.plan_curve.new.codes c.plan_curve.ensures c.in_err-block.was)

pub returns : goal.returns
returns c =
    let a = c.args in
    let codes = c.plan_front.new.codes in
    rw (part-back codes c.in_ok-front.front.count c.plan_curve.new.codes, c.both_listed.ensures)
    (sheet-done a.options a.values.tags.now a.values.wholes.now a.values.singles.now a.text.now (by_curve a.curve) refl codes c.plan_front.ensures c.in_ok-front.was c.plan_curve.new.codes c.plan_curve.ensures c.in_ok-block.was Owner (omega (arith, c.requires.in_bounds)))
