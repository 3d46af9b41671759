use Rattle.build.proofs.Names.{refl, sym, ◌∙◌, ltb-true, ltb-false, written-refused, written-done, stream_bits, unpacked}
use Rattle.build.proofs.BuiltIn.{too_many, inside, fits}
use Rattle.build.proofs.Handed.{handed}
use Rattle.build.proofs.building.finish.Goals as goal

pub bits_needed-bits-requires : goal.bits_needed-bits-requires
bits_needed-bits-requires c = (c.requires.ready _ c.in_ok-listed.was).small

pub is_too_long-requires : goal.is_too_long-requires
is_too_long-requires c = c.requires.whole_image.1

pub returns-then-is_too_long : goal.returns-then-is_too_long
returns-then-is_too_long c =
    let a = c.args in
    let r = c.requires.ready _ c.in_ok-listed.was in
    let bits = rw r.count at c.bits_needed-bits.ensures in
    rw c.in_ok-listed.was
    (written-refused a.image.now (refl) (too_many a.options.template (unpacked a.codes.now) c.in_ok-listed.listed.count a.options.end_bit a.text.now a.sizes c.requires.whole_image.1 _ bits (ltb-true (stream_bits a.sizes) _ (sym c.is_too_long.ensures ∙ c.if-is_too_long.true))))

pub write_image-requires : goal.write_image-requires
write_image-requires c =
    let a = c.args in
    let r = c.requires.ready _ c.in_ok-listed.was in
    let bits = rw r.count at c.bits_needed-bits.ensures in
    record { whole_image = (c.requires.whole_image.0, r); text_bound = inside a.options.template (unpacked a.codes.now) c.in_ok-listed.listed.count a.options.end_bit a.text.now a.sizes c.requires.whole_image.1 _ bits (ltb-false (stream_bits a.sizes) _ (sym c.is_too_long.ensures ∙ c.if-is_too_long.false)) }

pub returns-in_err-listed : goal.returns-in_err-listed
returns-in_err-listed c = rw (handed c.from_residual.result c.from_residual.ensures) (rw c.in_err-listed.was (written-refused _ refl refl))

pub returns : goal.returns
returns c =
    let a = c.args in
    let r = c.requires.ready _ c.in_ok-listed.was in
    let bits = rw r.count at c.bits_needed-bits.ensures in
    rw c.in_ok-listed.was
    (written-done a.image.now (fits a.options.template (unpacked a.codes.now) c.in_ok-listed.listed.count a.options.end_bit a.text.now a.sizes c.requires.whole_image.1 _ bits (ltb-false (stream_bits a.sizes) _ (sym c.is_too_long.ensures ∙ c.if-is_too_long.false))) c.write_image.ensures)
