use Rattle.build.proofs.Names.{sym, drop, same_of, sheet_lent}
use Rattle.build.proofs.Lent.{planned-alike}
use Rattle.build.proofs.Listing.{fit-front, fit-back}
use Rattle.build.proofs.BuiltIn.{fields-down, ending-down, front-good}
use Rattle.build.proofs.Handed.{handed}
use Rattle.build.proofs.building.plan_front.Goals as goal

pub plan_fields-requires : goal.plan_fields-requires
plan_fields-requires c = (c.requires.0, fit-front c.args.codes.now 21 c.requires.2 c.requires.1)

pub returns-in_err-fields : goal.returns-in_err-fields
returns-in_err-fields c level =
    let a = c.args in
    let f = c.plan_fields in
    let planned = planned-alike a.options.template a.options.end_bit level a.values.tags.now a.values.wholes.now a.values.singles.now f.ensures in
    rw (handed c.from_residual.result c.from_residual.ensures) (fields-down (sheet_lent a.options.template a.options.end_bit level a.values.tags.now a.values.wholes.now a.values.singles.now) a.text.now f.new.codes planned (drop 21 a.codes.now) c.requires.1 (fit-back a.codes.now 21 c.requires.2 c.requires.1) c.in_err-fields.was)

pub returns-in_err-check_ending : goal.returns-in_err-check_ending
returns-in_err-check_ending c level =
    let a = c.args in
    let f = c.plan_fields in
    let planned = planned-alike a.options.template a.options.end_bit level a.values.tags.now a.values.wholes.now a.values.singles.now f.ensures in
    rw (handed c.from_residual-in_err-check_ending.result c.from_residual-in_err-check_ending.ensures) (ending-down (sheet_lent a.options.template a.options.end_bit level a.values.tags.now a.values.wholes.now a.values.singles.now) a.text.now f.new.codes planned (drop 21 a.codes.now) c.requires.1 (fit-back a.codes.now 21 c.requires.2 c.requires.1) c.in_ok-fields.was (sym (same_of c.in_err-check_ending.was c.check_ending.ensures)))

pub returns : goal.returns
returns c level =
    let a = c.args in
    let f = c.plan_fields in
    let planned = planned-alike a.options.template a.options.end_bit level a.values.tags.now a.values.wholes.now a.values.singles.now f.ensures in
    front-good (sheet_lent a.options.template a.options.end_bit level a.values.tags.now a.values.wholes.now a.values.singles.now) a.text.now f.new.codes planned (drop 21 a.codes.now) c.requires.1 (fit-back a.codes.now 21 c.requires.2 c.requires.1) c.in_ok-fields.was (sym (same_of c.in_ok-check_ending.was c.check_ending.ensures))
