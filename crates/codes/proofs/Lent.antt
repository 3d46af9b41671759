-- Laws of owned values: a Single that code holds is an f32.
use Rattle.codes.proofs.Names.{sym, subst, T, Is, vals, owed, Value, Whole, Single, Missing, Real, the_type, the_laws}
use denote.Enum.Declared as enum

pub lent-real : (v : Value) → Is (enum.row the_type) v (vals the_type the_laws v) → Real v
lent-real (Whole z) h = tt
lent-real (Single x) h = subst T (sym (owed the_type the_laws (Single x) (vals the_type the_laws (Single x)) h).0.1) tt
lent-real Missing h = tt
