use Rattle.conformity.proofs.Names.{refl, sfits_of, told-up, told-dn}
use Rattle.conformity.proofs.Exacts.{exact-held}
use Rattle.conformity.proofs.corrections.held.Goals as goal

pub returns : goal.returns
returns c =
    let f = sfits_of c.struct_told-1.given.1.0.1 in
    exact-held _ c.args.pair c.requires (told-up {z = c.args.pair.deviation} f c.plus.ensures) (told-dn {z = c.args.pair.deviation} f c.minus.ensures) refl
