use Rattle.dartelm.proofs.Names.{ne_eqb, image_sizes, kind_of}
use Rattle.dartelm.proofs.dartelm_kind_of.Goals as goal

pub returns-in-40 : goal.returns-in-40
unfolding kind_of image_sizes
returns-in-40 c = rw c.in-40.is

pub returns-in-128 : goal.returns-in-128
unfolding kind_of image_sizes
returns-in-128 c = rw c.in-128.is

pub returns-in-512 : goal.returns-in-512
unfolding kind_of image_sizes
returns-in-512 c = rw c.in-512.is

pub returns-in_default : goal.returns-in_default
unfolding kind_of image_sizes
returns-in_default c = simp (ne_eqb _ _ c.in_default.in_default-own.rest.0.0.1, ne_eqb _ _ c.in_default.in_default-own.rest.0.1, ne_eqb _ _ c.in_default.in_default-own.rest.1)
