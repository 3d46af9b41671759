use Rattle.build.proofs.Names.{refl, sym, ◌∙◌, ℕ, ◌^◌, arith, written-refused, replicate, length-replicate, listed, SheetPlanned}
use Rattle.templates.specs.declared.Level.TheVariants.{Owner}
use Rattle.build.proofs.Coding.{packed_none}
use Rattle.build.proofs.Listing.{fit-listed}
use Rattle.build.proofs.PairTurns.{table_none}
use Rattle.build.proofs.BuiltIn.{list-wrong, list_right, list-few, built-list, sheet-plain}
use Rattle.build.proofs.building.build_in.Goals as goal
use Rattle.build.proofs.building.build_in.Goals.{After-codes-then-n-eq0-1}

-- What a sheet without points leaves.
plain : (c : After-codes-then-n-eq0-1) →
    let a = c.args in
    SheetPlanned a.options a.values.tags.now a.values.wholes.now a.values.singles.now a.text.now (listed a.options.domain a.points.now) c.plan_front-planned.new.codes c.plan_front-planned.result
plain c =
    let a = c.args in
    let n : ℕ = 2 ^ 56 in
    let right = list_right a.options.domain a.points.now (sym c.is_wrong_list.ensures ∙ c.if-is_wrong_list.false) in
    sheet-plain a.options a.values.tags.now a.values.wholes.now a.values.singles.now a.text.now (listed a.options.domain a.points.now) right c.plan_front-planned.new.codes c.plan_front-planned.ensures (table_none a.options.domain a.points.now 0 (omega (arith, c.if-n-eq0.true))) Owner (omega (arith, length-replicate 21 n))

pub returns-then-is_wrong_list : goal.returns-then-is_wrong_list
returns-then-is_wrong_list c level =
    let a = c.args in
    let wrong = list-wrong a.options.domain a.points.now (sym c.is_wrong_list.ensures ∙ c.if-is_wrong_list.true) in
    written-refused _ refl (built-list a.sizes _ a.text.now (listed a.options.domain a.points.now) wrong)

pub plan_front-planned-requires : goal.plan_front-planned-requires
plan_front-planned-requires c =
    let n : ℕ = 2 ^ 56 in
    (c.requires.2, omega (arith, length-replicate 21 n), fit-listed (replicate 21 n) (packed_none 21))

pub finish-requires : goal.finish-requires
finish-requires c = record { whole_image = (c.requires.0, c.requires.1); ready = (plain (goal.at.finish-requires c).After-codes-then-n-eq0-1).ready }

pub returns-then-n-eq0 : goal.returns-then-n-eq0
returns-then-n-eq0 c level = rw (← (plain (goal.at.returns-then-n-eq0 c).After-codes-then-n-eq0-1).said level c.args.sizes) c.finish.ensures

pub plan_sheet-planned-requires : goal.plan_sheet-planned-requires
plan_sheet-planned-requires c =
    let n : ℕ = 2 ^ 56 in
    let right = list_right c.args.options.domain c.args.points.now (sym c.is_wrong_list.ensures ∙ c.if-is_wrong_list.false) in
    record { lent_lengths = (c.requires.2, fit-listed (replicate 152 n) (packed_none 152), omega (arith, length-replicate 152 n)); in_bounds = (omega (arith, length-replicate 152 n), right, λ h. omega (arith, length-replicate 152 n, list-few c.args.options.domain c.args.points.now right)) }

pub finish-requires-2 : goal.finish-requires-2
finish-requires-2 c = record { whole_image = (c.requires.0, c.requires.1); ready = c.plan_sheet-planned.ensures.ready }

pub returns : goal.returns
returns c level = rw (← c.plan_sheet-planned.ensures.said level c.args.sizes) c.finish-2.ensures
