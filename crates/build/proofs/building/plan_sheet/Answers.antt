use Rattle.build.proofs.Names.{◌≤◌, arith, length, listed}
use Rattle.templates.specs.declared.Level.TheVariants.{Owner}
use Rattle.build.proofs.Coding.{packed-long}
use Rattle.build.proofs.Listing.{part-long, part-fit, part-back}
use Rattle.build.proofs.BuiltIn.{list-few, sheet-front, sheet-behind, sheet-done}
use Rattle.build.proofs.Handed.{handed}
use Rattle.build.proofs.building.plan_sheet.Goals as goal
use Rattle.build.proofs.building.plan_sheet.Goals.{In_ok-front}

-- The part from the fields' end on is inside the list.
inside : (c : In_ok-front) → c.in_ok-front.front.count ≤ length c.plan_front.new.codes
inside c =
    let f = c.plan_front.ensures Owner in
    omega (arith, (f.count _ c.in_ok-front.was).1, packed-long c.plan_front.new.codes f.fit, c.requires.in_bounds.0)

pub offset_bounds-codes-at : goal.offset_bounds-codes-at
offset_bounds-codes-at c = omega (arith, ((c.plan_front.ensures Owner).count _ c.in_ok-front.was).1)

pub slice_bounds-plan_points-count : goal.slice_bounds-plan_points-count
slice_bounds-plan_points-count c = omega (arith, inside c)

pub slice_bounds-plan_points-start : goal.slice_bounds-plan_points-start
slice_bounds-plan_points-start c = omega (arith, inside c)

pub plan_points-requires : goal.plan_points-requires
plan_points-requires c =
    let f = c.plan_front.ensures Owner in
    let codes = c.plan_front.new.codes in
    let at = c.in_ok-front.front.count in
    let most = (f.count _ c.in_ok-front.was).1 in
    let long = packed-long codes f.fit in
    record { points_len_bound = (list-few c.args.options.domain c.args.points.now c.requires.in_bounds.1, λ h. omega (arith, part-long codes at, most, long, c.requires.in_bounds.2 h)); fit = part-fit codes at f.fit (omega (arith, most, c.requires.in_bounds.0)) }

pub both_listed-requires : goal.both_listed-requires
both_listed-requires c =
    let f = c.plan_front.ensures Owner in
    let codes = c.plan_front.new.codes in
    let front = f.count _ c.in_ok-front.was in
    let block = c.plan_points.ensures.count _ c.in_ok-block.was in
    (omega (arith, front.1), omega (arith, block.0, part-long codes c.in_ok-front.front.count, packed-long codes f.fit, c.requires.lent_lengths.2), front.3, block.2)

pub returns-in_err-front : goal.returns-in_err-front
returns-in_err-front c =
    let a = c.args in
    rw (handed c.from_residual.result c.from_residual.ensures) (sheet-front a.options a.values.tags.now a.values.wholes.now a.values.singles.now a.text.now (listed a.options.domain a.points.now) c.requires.in_bounds.1 c.plan_front.new.codes c.plan_front.ensures c.in_err-front.was)

pub returns-in_err-block : goal.returns-in_err-block
returns-in_err-block c =
    let a = c.args in
    rw (handed c.from_residual-in_err-block.result c.from_residual-in_err-block.ensures) (sheet-behind a.options a.values.tags.now a.values.wholes.now a.values.singles.now a.text.now (listed a.options.domain a.points.now) c.requires.in_bounds.1 c.plan_front.new.codes c.plan_front.ensures c.in_ok-front.was c.plan_points.new.codes c.plan_points.ensures c.in_err-block.was)

pub returns : goal.returns
returns c =
    let a = c.args in
    let codes = c.plan_front.new.codes in
    rw (part-back codes c.in_ok-front.front.count c.plan_points.new.codes, c.both_listed.ensures)
    (sheet-done a.options a.values.tags.now a.values.wholes.now a.values.singles.now a.text.now (listed a.options.domain a.points.now) c.requires.in_bounds.1 codes c.plan_front.ensures c.in_ok-front.was c.plan_points.new.codes c.plan_points.ensures c.in_ok-block.was Owner c.requires.in_bounds.0)
