use Rattle.memory.proofs.Names.{refl, sym, ne_eqb, image_sizes}
use Rattle.memory.proofs.Chips.{sizes-others}
use Rattle.memory.proofs.kinds.image_sizes.Goals as goal

pub returns-in-0-eq40 : goal.returns-in-0-eq40
unfolding image_sizes
returns-in-0-eq40 c = rw (c.in-0-eq40.is-0, c.in-0-eq40.is-1)

pub returns-in-1-eq128 : goal.returns-in-1-eq128
unfolding image_sizes
returns-in-1-eq128 c = rw (c.in-1-eq128.is-0, c.in-1-eq128.is-1)

pub returns-in-2-eq512 : goal.returns-in-2-eq512
unfolding image_sizes
returns-in-2-eq512 c = rw (c.in-2-eq512.is-0, c.in-2-eq512.is-1)

pub returns-in_default : goal.returns-in_default
unfolding image_sizes
returns-in_default c = rw c.in_default.is-0 (simp (ne_eqb _ _ c.in_default.is-1.1) (refl))

pub returns-in_default-2 : goal.returns-in_default-2
unfolding image_sizes
returns-in_default-2 c = rw c.in_default.is-0 (simp (ne_eqb _ _ c.in_default.is-1.1) (refl))

pub returns-in_default-3 : goal.returns-in_default-3
unfolding image_sizes
returns-in_default-3 c = rw c.in_default.is-0 (simp (ne_eqb _ _ c.in_default.is-1.1) (refl))

pub returns-in_default-4 : goal.returns-in_default-4
returns-in_default-4 c =
    let h = c.in_default.is-0 in
    sym (sizes-others _ _ h.1 h.0.1 h.0.0.1)
