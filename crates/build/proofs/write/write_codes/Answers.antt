use Rattle.build.proofs.Names.{refl, sym, [], append-nil, arith, number_lt, unpacked, coded_list, basic-five}
use Rattle.build.proofs.Filling.{filling-none, room-first, filling-more, filled, cleared, cleared-room, begun}
use Rattle.build.proofs.write.write_codes.Goals as goal

pub lay_codes-block-requires : goal.lay_codes-block-requires
lay_codes-block-requires c =
    let a = c.args in
    let z = a.sizes in
    let room = cleared-room z c.requires.whole_image.0 c.clear.ensures (coded_list a.template (unpacked a.codes.now) a.count) c.start.ensures c.requires.count_bound in
    rw c.basic_fields-first.ensures (record { room = room-first z _ _ refl (filling-none z room); first_lt_end = (omega (arith, basic-five), omega (arith, c.requires.whole_image.2, c.requires.whole_image.3), c.requires.whole_image.1) })

pub lay_block-own-requires : goal.lay_block-own-requires
lay_block-own-requires c =
    let a = c.args in
    let z = a.sizes in
    let room = cleared-room z c.requires.whole_image.0 c.clear.ensures (coded_list a.template (unpacked a.codes.now) a.count) c.start.ensures c.requires.count_bound in
    let basics = filling-more z _ _ refl (filling-none z room) (rw c.basic_fields-first.ensures at c.lay_codes-block.ensures) in
    rw c.template_number.ensures (record { room = room-first z _ _ refl basics; number_bound = number_lt a.template })

pub lay_codes-requires : goal.lay_codes-requires
lay_codes-requires c =
    let a = c.args in
    let z = a.sizes in
    let room = cleared-room z c.requires.whole_image.0 c.clear.ensures (coded_list a.template (unpacked a.codes.now) a.count) c.start.ensures c.requires.count_bound in
    let basics = filling-more z _ _ refl (filling-none z room) (rw c.basic_fields-first.ensures at c.lay_codes-block.ensures) in
    let block = filling-more z _ _ refl basics (rw c.template_number.ensures at c.lay_block-own.ensures) in
    rw c.basic_fields-first.ensures (record { room = block.room; first_lt_end = (c.requires.whole_image.2, c.requires.whole_image.3, c.requires.whole_image.1) })

pub returns : goal.returns
returns c =
    let a = c.args in
    let z = a.sizes in
    let room = cleared-room z c.requires.whole_image.0 c.clear.ensures (coded_list a.template (unpacked a.codes.now) a.count) c.start.ensures c.requires.count_bound in
    let basics = filling-more z _ _ refl (filling-none z room) (rw c.basic_fields-first.ensures at c.lay_codes-block.ensures) in
    let block = filling-more z _ _ refl basics (rw c.template_number.ensures at c.lay_block-own.ensures) in
    let own = filling-more z _ [] (sym (append-nil _)) block (rw c.basic_fields-first.ensures at c.lay_codes.ensures) in
    begun (filled z own) c.start.ensures (cleared z c.requires.whole_image.0 c.clear.ensures)
