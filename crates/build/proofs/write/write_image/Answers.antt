use Rattle.build.proofs.Names.{ap, ◌∙◌, image_of, ending_pieces, unpacked}
use Rattle.build.proofs.BuiltIn.{front-inside}
use Rattle.build.proofs.Filling.{begun-room, begun_all}
use Rattle.build.proofs.write.write_image.Goals as goal

pub write_codes-ending-requires : goal.write_codes-ending-requires
write_codes-ending-requires c =
    let a = c.args in
    let r = c.requires.whole_image.1 in
    record { whole_image = (c.requires.whole_image.0, r.fit, r.some, r.most); count_bound = front-inside a.template (unpacked a.codes.now) a.listed.count a.end_bit a.text.now c.requires.text_bound }

pub write_ending_and_seal-requires : goal.write_ending_and_seal-requires
write_ending_and_seal-requires c =
    let a = c.args in
    record { room = begun-room c.write_codes-ending.ensures (ending_pieces a.end_bit a.text.now) c.requires.text_bound; by_index = c.requires.whole_image.1.characters }

pub returns : goal.returns
returns c =
    let a = c.args in
    c.write_ending_and_seal.ensures ∙ ap (image_of a.sizes) (begun_all c.write_codes-ending.ensures (ending_pieces a.end_bit a.text.now))
