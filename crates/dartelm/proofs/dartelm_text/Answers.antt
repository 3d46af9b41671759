use Rattle.dartelm.proofs.Names.{rules, ◌≡◌, sym, ap, [], arith, length, text_of, struct_of, text_answer}
use Rattle.dartelm.proofs.Padding.{text-refused, text-told}
use Rattle.dartelm.proofs.dartelm_text.Goals as goal

pub copy-requires : goal.copy-requires
copy-requires c =
    let ten : length c.in-Ok.text.characters ≡ 10 = search rules in
    omega arith

pub returns-in-Err : goal.returns-in-Err
returns-in-Err c = let a = c.args in rw (c.number.ensures, c.place.ensures) (sym (ap (struct_of text_answer []) (text-refused (text_of a.field a.code) c.text_of.ensures c.in-Err.is)))

pub returns-in-Ok : goal.returns-in-Ok
returns-in-Ok c = let a = c.args in text-told (text_of a.field a.code) c.text_of.ensures c.in-Ok.is (search rules) c.copy.ensures.1
