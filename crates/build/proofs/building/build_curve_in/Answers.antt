use Rattle.build.proofs.Names.{ℕ, ◌^◌, arith, replicate, length-replicate}
use Rattle.build.proofs.Coding.{packed_none}
use Rattle.build.proofs.Listing.{fit-listed}
use Rattle.build.proofs.building.build_curve_in.Goals as goal

pub plan_curve_sheet-planned-requires : goal.plan_curve_sheet-planned-requires
plan_curve_sheet-planned-requires c =
    let n : ℕ = 2 ^ 56 in
    record { lent_lengths = (c.requires.2, fit-listed (replicate 125 n) (packed_none 125), omega (arith, length-replicate 125 n)); in_bounds = omega (arith, length-replicate 125 n) }

pub finish-requires : goal.finish-requires
finish-requires c = record { whole_image = (c.requires.0, c.requires.1); ready = c.plan_curve_sheet-planned.ensures.ready }

pub returns : goal.returns
returns c level = rw (← c.plan_curve_sheet-planned.ensures.said level c.args.sizes) c.finish.ensures
