use Rattle.build.proofs.Names.{refl, sym, length, same_of, written-refused, sizes-chip, sizes-whole, listed}
use Rattle.build.proofs.BuiltIn.{build-refused, build-sized}
use Rattle.build.proofs.Handed.{handed}
use Rattle.build.proofs.building.build_lent.Goals as goal

pub build_in-requires : goal.build_in-requires
build_in-requires c =
    let a = c.args in
    let e = sym (same_of c.in_ok-sizes.was c.image_sizes.ensures) in
    (sizes-whole a.kind a.image.now _ e, (sizes-chip a.kind (length a.image.now) _ e).most, c.requires)

pub returns-in_err-sizes : goal.returns-in_err-sizes
returns-in_err-sizes c level =
    let a = c.args in
    let e = sym (same_of c.in_err-sizes.was c.image_sizes.ensures) in
    rw (handed c.from_residual.result c.from_residual.ensures) (written-refused _ refl (build-refused a.kind a.image.now _ a.text.now (listed a.options.domain a.points.now) e))

pub returns : goal.returns
returns c level =
    let a = c.args in
    let e = sym (same_of c.in_ok-sizes.was c.image_sizes.ensures) in
    rw (build-sized a.kind a.image.now _ a.text.now (listed a.options.domain a.points.now) e) (c.build_in.ensures level)
