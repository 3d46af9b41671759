use Rattle.build.proofs.Names.{◌≡◌, refl, sym, [], ◌∷◌, append-nil, Bool, ◌+◌, ◌*◌, ◌%◌, ◌^◌, arith, bit_or, bool_byte, piece}
use Rattle.build.proofs.BuiltIn.{end-byte, end_lt}
use Rattle.build.proofs.Filling.{or-behind, filling-none, filling-more, joined-inside, joined-more, filled}
use Rattle.build.proofs.write.lay_ending.Goals as goal

-- Selector 3 and the end bit as one code.
both : (b : Bool) → bit_or 3 (bool_byte b * 2 ^ 2 % 2 ^ 64) ≡ 3 + bool_byte b * 2 ^ 2
both b = or-behind 1 2 (omega (arith, end-byte b, end_lt b)) (omega arith) (omega arith)

pub append-characters-requires : goal.append-characters-requires
append-characters-requires c =
    let z = c.args.sizes in
    record { in_stream = (joined-inside z (piece 2 3 ∷ piece 1 _ ∷ []) _ refl (filling-none z c.requires.room) (omega arith) (omega arith), omega (arith, both c.args.end_bit, end-byte c.args.end_bit, end_lt c.args.end_bit)); image_bound = c.requires.room.free.below }

pub lay_text-requires : goal.lay_text-requires
lay_text-requires c =
    let z = c.args.sizes in
    record { room = (joined-more z (piece 2 3 ∷ piece 1 _ ∷ []) _ refl (filling-none z c.requires.room) (omega arith, (end_lt c.args.end_bit, tt)) c.append-characters.ensures (omega (arith, both c.args.end_bit, end-byte c.args.end_bit))).room; by_index = c.requires.by_index }

pub returns : goal.returns
returns c =
    let z = c.args.sizes in
    let end = joined-more z (piece 2 3 ∷ piece 1 _ ∷ []) _ refl (filling-none z c.requires.room) (omega arith, (end_lt c.args.end_bit, tt)) c.append-characters.ensures (omega (arith, both c.args.end_bit, end-byte c.args.end_bit)) in
    filled z (filling-more z _ [] (sym (append-nil _)) end c.lay_text.ensures)
